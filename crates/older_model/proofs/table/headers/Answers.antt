-- `older_model::table::headers` meets its contract: the key sheet's row, the rows in front of the V2 header, and then that header's.
use Rattle.header.proofs.Rows.{handed_on, row_fails, row_passes, stage_fails, stage_passes}
use Rattle.older_model.proofs.table.headers.Goals as goal

pub returns-in_err-step : goal.returns-in_err-step
returns-in_err-step g c = row_fails _ _ c.step.ensures c.sheet_impossible.ensures c.in_err-step.was (handed_on c.from_residual.ensures)

pub returns-in_err-rows_before : goal.returns-in_err-rows_before
returns-in_err-rows_before g c =
    row_passes _ _ c.step.ensures c.sheet_impossible.ensures c.in_ok-step.was
    (stage_fails _ _ c.rows_before.ensures c.in_err-rows_before.was (handed_on c.from_residual-in_err-rows_before.ensures))

pub returns : goal.returns
returns g c =
    row_passes _ _ c.step.ensures c.sheet_impossible.ensures c.in_ok-step.was
    (stage_passes _ _ c.rows_before.ensures c.in_ok-rows_before.was
    (rw (c.unlinked.ensures, c.v2_header.ensures.bytes, c.v2_header.ensures.at) at c.v2_headers.ensures))
