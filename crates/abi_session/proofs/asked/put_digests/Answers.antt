-- Two fields written one behind the other are one field, which is as long as the buffer.
use native.Mathlib.Omega.{arith}
use Prim.Native.Nat.{ℕ, ◌≤◌}
use mathlib.Core.Path.{◌≡◌, ◌∙◌}
use mathlib.Core.List.{List, append-nil}
use lib.ListN.{length, length-append, drop_of_length-le}
use Rattle.octets.specs.Put.{splice}
use Rattle.octets.proofs.Splice.{next, splice_start}
use Rattle.abi_session.proofs.asked.put_digests.Goals as goal

-- a field that is as long as the buffer is all of it
all_of_it : (s d : List ℕ) → length d ≤ length s → splice 0 s d ≡ s
all_of_it s d h = splice_start s d ∙ rw (drop_of_length-le d h, append-nil)

pub returns : goal.returns
returns c = (next c.put_bytes-next.ensures c.put_bytes.ensures).is ∙ all_of_it _ _ (omega (arith, length-append c.args.vendor c.args.firmware))
