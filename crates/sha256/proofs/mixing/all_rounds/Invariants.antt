-- `sha256::mixing::all_rounds` meets its contract. The invariant: the rounds that are left lead from the working variables now to those at last.
use Rattle.std.proofs.Common.{◌≡◌, ◌+◌, ◌-◌, ◌*◌, drop}
use Rattle.sha256.specs.Fips180.{K, schedule, rounds}
use Rattle.sha256.specs.Words.{state, block}
use Rattle.sha256.proofs.mixing.all_rounds.Given as goal

abbrev pub invariant-loop-k : goal.invariant-loop-k
invariant-loop-k l =
    rounds (state l.v) (drop (16 * l.k-index + 16) K) (drop 16 (schedule (block l.w) (48 - 16 * l.k-index)))
    ≡ rounds (state l.initial.v) (drop 16 K) (drop 16 (schedule (block l.initial.w) 48))
