-- `older_model::table::code_rows` meets its contract: the two groups are searched in order.
use Rattle.older_model.specs.Check.{code_rows}
use Rattle.header.proofs.Rows.{handed_on, stage_fails, stage_passes}
use Rattle.older_model.proofs.table.code_rows.Goals as goal

pub returns-in_err-extent_rows_at : goal.returns-in_err-extent_rows_at
unfolding code_rows
returns-in_err-extent_rows_at c = stage_fails _ _ c.extent_rows_at.ensures c.in_err-extent_rows_at.was (handed_on c.from_residual.ensures)

pub returns : goal.returns
unfolding code_rows
returns c =
    stage_passes _ _ c.extent_rows_at.ensures c.in_ok-extent_rows_at.was c.chunk_rows_at.ensures
