-- `sha256::blocks::absorb_whole` meets its contract. The invariant: the blocks that are left lead from the hash value now to the one at last.
use Rattle.std.proofs.Common.{◌≡◌, ◌-◌, ◌*◌}
use Rattle.sha256.specs.Fips180.{block_at, absorbed}
use Rattle.sha256.specs.Words.{state}
use Rattle.sha256.proofs.blocks.absorb_whole.Given as goal

abbrev pub invariant-loop-k : goal.invariant-loop-k
invariant-loop-k l = absorbed (λ j. block_at l.s (64 * j)) (state l.now) l.k (l.count - l.k) ≡ absorbed (λ j. block_at l.s (64 * j)) (state l.initial.now) 0 l.count
