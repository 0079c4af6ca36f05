-- `sha256::blocks::absorb_whole` meets its contract. The invariant: the blocks that are left lead from the hash value now to the one at last.
use Rattle.std.proofs.Common.{◌∙◌, arith}
use Rattle.sha256.proofs.Padding.{absorbed_step}
use Rattle.sha256.proofs.blocks.absorb_whole.Goals as goal

pub loop-k-preserved : goal.loop-k-preserved
loop-k-preserved c = absorbed_step _ _ c.loop-k.k _ (omega arith) c.block_at.ensures c.compress-now.ensures ∙ c.loop-k.invariant
