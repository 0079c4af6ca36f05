-- `blake2s::blocks::absorb_run` meets its contract. The invariant: the state now is that after the blocks before offset o.
use Rattle.std.proofs.Common.{◌≡◌, ◌-◌, ◌/◌, ◌%◌, ◌≤◌}
use Rattle.blake2s.specs.Rfc7693.{absorbed}
use Rattle.blake2s.specs.Parts.{run_at}
use Rattle.blake2s.specs.Words.{state}
use Rattle.blake2s.proofs.blocks.absorb_run.Given as goal

abbrev pub invariant-loop-o : goal.invariant-loop-o
invariant-loop-o l = record {
  in_range : l.o ≤ l.end;
  whole : l.o % 64 ≡ 0;
  so_far : state l.now ≡ absorbed (run_at l.s l.i l.k) l.n (state l.initial.now) l.k (l.o / 64);
}

abbrev pub decreases-loop-o : goal.decreases-loop-o
decreases-loop-o l = l.end - l.o
