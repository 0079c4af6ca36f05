-- `older_model::table::legacy_shape` meets its contract: each test is a row's by its promise, in the table's order.
use Rattle.older_model.specs.Check.{legacy_shape}
use Rattle.header.proofs.Rows.{handed_on, row_fails, row_passes, row_last}
use Rattle.older_model.proofs.table.legacy_shape.Goals as goal

pub returns-in_err-step : goal.returns-in_err-step
unfolding legacy_shape
returns-in_err-step c = row_fails _ _ c.step.ensures c.legacy_magic_missing.ensures c.in_err-step.was (handed_on c.from_residual.ensures)

pub returns-in_err-step-2 : goal.returns-in_err-step-2
unfolding legacy_shape
returns-in_err-step-2 c =
    row_passes _ _ c.step.ensures c.legacy_magic_missing.ensures c.in_ok-step.was
    (row_fails _ _ c.step-2.ensures c.legacy_cut.ensures c.in_err-step-2.was (handed_on c.from_residual-in_err-step-2.ensures))

pub returns-in_err-step-3 : goal.returns-in_err-step-3
unfolding legacy_shape
returns-in_err-step-3 c =
    row_passes _ _ c.step.ensures c.legacy_magic_missing.ensures c.in_ok-step.was
    (row_passes _ _ c.step-2.ensures c.legacy_cut.ensures c.in_ok-step-2.was
    (row_fails _ _ c.step-3.ensures c.legacy_code_len_wrong.ensures c.in_err-step-3.was (handed_on c.from_residual-in_err-step-3.ensures)))

pub returns : goal.returns
unfolding legacy_shape
returns c =
    row_passes _ _ c.step.ensures c.legacy_magic_missing.ensures c.in_ok-step.was
    (row_passes _ _ c.step-2.ensures c.legacy_cut.ensures c.in_ok-step-2.was
    (row_passes _ _ c.step-3.ensures c.legacy_code_len_wrong.ensures c.in_ok-step-3.was
    (row_last _ c.step-4.ensures c.legacy_bytes_not_zero.ensures)))
