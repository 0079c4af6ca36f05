-- `older_model::table::v2_headers` meets its contract: the two groups are searched in order.
use Rattle.header.proofs.Rows.{handed_on, stage_fails, stage_passes}
use Rattle.older_model.proofs.table.v2_headers.Goals as goal

pub returns-in_err-v2_shape : goal.returns-in_err-v2_shape
returns-in_err-v2_shape c = stage_fails _ _ c.v2_shape.ensures c.in_err-v2_shape.was (handed_on c.from_residual.ensures)

pub returns : goal.returns
returns c =
    stage_passes _ _ c.v2_shape.ensures c.in_ok-v2_shape.was c.v2_policy.ensures
