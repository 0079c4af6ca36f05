-- `older_model::digest::signed_rows` meets its contract: the legacy header's rows, and the row of the bytes that it signs.
use Rattle.header.proofs.Rows.{handed_on, row_last, stage_fails, stage_passes}
use Rattle.older_model.proofs.digest.signed_rows.Goals as goal

pub returns-in_err-legacy_shape : goal.returns-in_err-legacy_shape
returns-in_err-legacy_shape c = stage_fails _ _ c.legacy_shape.ensures c.in_err-legacy_shape.was (handed_on c.from_residual.ensures)

pub returns : goal.returns
returns c =
    stage_passes _ _ c.legacy_shape.ensures c.in_ok-legacy_shape.was
    (row_last _ c.step.ensures c.signed_cut.ensures)
