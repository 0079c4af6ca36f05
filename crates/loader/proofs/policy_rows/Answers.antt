-- `loader::policy_rows` meets its contract: each test is a row's by its promise, in the table's order.
use Rattle.loader.specs.Check.{policy_rows}
use Rattle.header.proofs.Rows.{handed_on, row_fails, row_passes}
use Rattle.loader.proofs.policy_rows.Goals as goal

pub returns-in_err-step : goal.returns-in_err-step
unfolding policy_rows
returns-in_err-step c = row_fails _ _ c.step.ensures c.expired.ensures c.in_err-step.was (handed_on c.from_residual.ensures)

pub returns-in_err-step-2 : goal.returns-in_err-step-2
unfolding policy_rows
returns-in_err-step-2 c =
    row_passes _ _ c.step.ensures c.expired.ensures c.in_ok-step.was
    (row_fails _ _ c.step-2.ensures c.mask_wrong.ensures c.in_err-step-2.was (handed_on c.from_residual-in_err-step-2.ensures))

pub returns : goal.returns
unfolding policy_rows
returns c =
    row_passes _ _ c.step.ensures c.expired.ensures c.in_ok-step.was
    (row_passes _ _ c.step-2.ensures c.mask_wrong.ensures c.in_ok-step-2.was c.step-3.ensures)
