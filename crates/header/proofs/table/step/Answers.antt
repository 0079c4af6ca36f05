-- `header::table::step` meets its contract: it is the definition's first row, whose test is known in each branch.
use Rattle.std.proofs.Common.{refl}
use Rattle.header.specs.Table.{first_failing}
use Rattle.header.proofs.table.step.Goals as goal

pub returns-then-fails : goal.returns-then-fails
unfolding first_failing
returns-then-fails c = rw c.if-fails.true refl

pub returns : goal.returns
unfolding first_failing
returns c = rw c.if-fails.false refl
