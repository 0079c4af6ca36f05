-- `older_model::digest::shape` meets its contract: the two groups are searched in order.
use Rattle.header.proofs.Rows.{handed_on, stage_fails, stage_passes}
use Rattle.older_model.proofs.digest.shape.Goals as goal

pub returns-in_err-shape_before : goal.returns-in_err-shape_before
returns-in_err-shape_before g c = stage_fails _ _ c.shape_before.ensures c.in_err-shape_before.was (handed_on c.from_residual.ensures)

pub returns : goal.returns
returns g c =
    stage_passes _ _ c.shape_before.ensures c.in_ok-shape_before.was
    (rw (c.unlinked.ensures, c.v2_header.ensures.bytes, c.v2_header.ensures.at) at c.v2_shape.ensures)
