-- `sha256::blocks::Message::digest` meets its contract. The invariant: the blocks that are left lead from the hash value now to the one at last.
use Rattle.std.proofs.Common.{◌≡◌, ℕ, List, ◌-◌, ◌*◌}
use Rattle.sha256.specs.Fips180.{padded, block_at, absorbed}
use Rattle.sha256.specs.Words.{state, zero_tailed}
use Rattle.sha256.proofs.blocks.Message.digest.Given as goal

abbrev pub invariant-loop-k : goal.invariant-loop-k
invariant-loop-k l =
    let m : ℕ → List ℕ = λ j. block_at (padded (zero_tailed l.self.len l.self.lent.now)) (64 * j) in
    absorbed m (state l.now) l.k (l.k-end - l.k) ≡ absorbed m (state l.initial.now) l.whole (l.k-end - l.whole)
