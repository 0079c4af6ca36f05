-- `header::table::extent_rows_at` meets its contract: each test is a row's by its promise, in the table's order.
use Rattle.header.specs.Table.{extent_rows_at}
use Rattle.header.proofs.Rows.{handed_on, row_fails, row_passes}
use Rattle.header.proofs.table.extent_rows_at.Goals as goal

pub returns-in_err-step : goal.returns-in_err-step
unfolding extent_rows_at
returns-in_err-step c = row_fails _ _ c.step.ensures c.code_cut.ensures c.in_err-step.was (handed_on c.from_residual.ensures)

pub returns : goal.returns
unfolding extent_rows_at
returns c =
    row_passes _ _ c.step.ensures c.code_cut.ensures c.in_ok-step.was c.step-2.ensures
