-- `older_model::table::legacy_policy` meets its contract: each test is a row's by its promise, in the table's order.
use Rattle.older_model.specs.Check.{legacy_policy}
use Rattle.header.proofs.Rows.{handed_on, row_fails, row_passes, row_last}
use Rattle.older_model.proofs.table.legacy_policy.Goals as goal

pub returns-in_err-step : goal.returns-in_err-step
unfolding legacy_policy
returns-in_err-step c = row_fails _ _ c.step.ensures c.indexes_wrong_at.ensures c.in_err-step.was (handed_on c.from_residual.ensures)

pub returns : goal.returns
unfolding legacy_policy
returns c =
    row_passes _ _ c.step.ensures c.indexes_wrong_at.ensures c.in_ok-step.was
    (row_last _ c.step-2.ensures c.verdict_missing.ensures)
