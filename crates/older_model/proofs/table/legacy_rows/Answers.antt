-- `older_model::table::legacy_rows` meets its contract: the two groups are searched in order.
use Rattle.older_model.specs.Check.{legacy_rows}
use Rattle.header.proofs.Rows.{handed_on, stage_fails, stage_passes}
use Rattle.older_model.proofs.table.legacy_rows.Goals as goal

pub returns-in_err-legacy_shape : goal.returns-in_err-legacy_shape
unfolding legacy_rows
returns-in_err-legacy_shape c = stage_fails _ _ c.legacy_shape.ensures c.in_err-legacy_shape.was (handed_on c.from_residual.ensures)

pub returns : goal.returns
unfolding legacy_rows
returns c =
    stage_passes _ _ c.legacy_shape.ensures c.in_ok-legacy_shape.was c.legacy_policy.ensures
