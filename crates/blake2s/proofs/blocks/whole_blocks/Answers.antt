-- `blake2s::blocks::whole_blocks` meets its contract: before skip there is none, and later as many as the lent bytes and stop allow.
use Rattle.std.proofs.Common.{le-ltb, lt-ltb}
use Rattle.blake2s.specs.Parts.{whole_blocks}
use Rattle.blake2s.proofs.blocks.whole_blocks.Goals as goal

pub returns-then-at-skip : goal.returns-then-at-skip
unfolding whole_blocks
returns-then-at-skip c = rw (lt-ltb _ _ c.if-at-skip.true)

pub returns : goal.returns
unfolding whole_blocks
returns c = rw (le-ltb _ _ c.if-at-skip.false) (rw c.saturating_sub.ensures at c.min.ensures)
