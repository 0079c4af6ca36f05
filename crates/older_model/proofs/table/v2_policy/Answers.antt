-- `older_model::table::v2_policy` meets its contract: each test is a row's by its promise, in the table's order.
use Rattle.older_model.specs.Check.{v2_policy}
use Rattle.header.proofs.Rows.{handed_on, row_fails, row_passes, row_last}
use Rattle.older_model.proofs.table.v2_policy.Goals as goal

pub returns-in_err-step : goal.returns-in_err-step
unfolding v2_policy
returns-in_err-step c = row_fails _ _ c.step.ensures c.expired.ensures c.in_err-step.was (handed_on c.from_residual.ensures)

pub returns-in_err-step-2 : goal.returns-in_err-step-2
unfolding v2_policy
returns-in_err-step-2 c =
    row_passes _ _ c.step.ensures c.expired.ensures c.in_ok-step.was
    (row_fails _ _ c.step-2.ensures c.indexes_wrong_at.ensures c.in_err-step-2.was (handed_on c.from_residual-in_err-step-2.ensures))

pub returns : goal.returns
unfolding v2_policy
returns c =
    row_passes _ _ c.step.ensures c.expired.ensures c.in_ok-step.was
    (row_passes _ _ c.step-2.ensures c.indexes_wrong_at.ensures c.in_ok-step-2.was
    (row_last _ c.step-3.ensures c.verdict_missing.ensures))
