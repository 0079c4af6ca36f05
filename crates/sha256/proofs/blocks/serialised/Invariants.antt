-- `sha256::blocks::serialised` meets its contract. The invariant: the bytes of i words are written.
use Rattle.std.proofs.Common.{◌≡◌, ◌*◌, length, take}
use Rattle.sha256.proofs.Bytes.{spelt}
use Rattle.sha256.proofs.blocks.serialised.Given as goal

abbrev pub invariant-loop-i : goal.invariant-loop-i
invariant-loop-i l = (length l.digest ≡ 32) × (take (4 * l.i) l.digest ≡ spelt l.words l.i)
