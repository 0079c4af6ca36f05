-- `header::table::firmware_policy` meets its contract: each test is a row's by its promise, in the table's order.
use Rattle.header.specs.Table.{firmware_policy}
use Rattle.header.proofs.Rows.{handed_on, row_fails, row_passes}
use Rattle.header.proofs.table.firmware_policy.Goals as goal

pub returns-in_err-step : goal.returns-in_err-step
unfolding firmware_policy
returns-in_err-step c = row_fails _ _ c.step.ensures c.firmware_expired.ensures c.in_err-step.was (handed_on c.from_residual.ensures)

pub returns-in_err-step-2 : goal.returns-in_err-step-2
unfolding firmware_policy
returns-in_err-step-2 c =
    row_passes _ _ c.step.ensures c.firmware_expired.ensures c.in_ok-step.was
    (row_fails _ _ c.step-2.ensures c.firmware_mask_wrong.ensures c.in_err-step-2.was (handed_on c.from_residual-in_err-step-2.ensures))

pub returns : goal.returns
unfolding firmware_policy
returns c =
    row_passes _ _ c.step.ensures c.firmware_expired.ensures c.in_ok-step.was
    (row_passes _ _ c.step-2.ensures c.firmware_mask_wrong.ensures c.in_ok-step-2.was c.step-3.ensures)
