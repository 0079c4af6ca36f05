-- `blake2s::blocks::Message::absorb_copied` meets its contract. The invariant: the state now is that after the blocks before block k.
use Rattle.std.proofs.Common.{◌≡◌, ◌-◌, arith}
use Rattle.blake2s.proofs.Laws.{absorbed_none, absorbed_on, run_one}
use Rattle.blake2s.proofs.blocks.Message.absorb_copied.Goals as goal

pub loop-k-init : goal.loop-k-init
loop-k-init c = let z : c.args.from - c.args.from ≡ 0 = omega arith in rw z (absorbed_none _ _ _ _)

pub loop-k-preserved : goal.loop-k-preserved
loop-k-preserved c = absorbed_on _ _ _ _ c.args.from c.loop-k.k 1 (omega arith) (run_one _ _ c.loop-k.k c.block_copy.ensures) c.loop-k.invariant c.absorb_run-now.ensures
