-- `sha256::blocks::Message::digest` meets its contract. The invariant: the blocks that are left lead from the hash value now to the one at last.
use Rattle.std.proofs.Common.{sym, ◌∙◌, arith}
use Rattle.sha256.proofs.Padding.{absorbed_step, absorbed_all, hashed}
use Rattle.sha256.proofs.blocks.Message.digest.Goals as goal

pub loop-k-preserved : goal.loop-k-preserved
loop-k-preserved c = absorbed_step _ _ c.loop-k.k _ (omega arith) c.tail_block.ensures c.compress-now.ensures ∙ c.loop-k.invariant

pub returns : goal.returns
returns c =
    let f = sym (absorbed_all _ _ c.loop-k.k _ (omega arith)) ∙ c.loop-k.invariant in
    hashed c.args.self.now.lent.now c.args.self.now.len (omega arith) _ (omega arith) c.absorb_whole-now.ensures (rw c.block_count-k-end.ensures at f) c.serialised.ensures
