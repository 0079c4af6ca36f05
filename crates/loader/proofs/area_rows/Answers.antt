-- `loader::area_rows` meets its contract: two rows and then four groups, each answered by its promise, in the table's order.
use Rattle.loader.specs.Check.{area_rows}
use Rattle.header.proofs.Rows.{handed_on, row_fails, row_passes, stage_fails, stage_passes}
use Rattle.loader.proofs.area_rows.Goals as goal

pub returns-in_err-step : goal.returns-in_err-step
unfolding area_rows
returns-in_err-step c = row_fails _ _ c.step.ensures c.magic_missing.ensures c.in_err-step.was (handed_on c.from_residual.ensures)

pub returns-in_err-step-2 : goal.returns-in_err-step-2
unfolding area_rows
returns-in_err-step-2 c =
    row_passes _ _ c.step.ensures c.magic_missing.ensures c.in_ok-step.was
    (row_fails _ _ c.step-2.ensures c.policy_impossible.ensures c.in_err-step-2.was (handed_on c.from_residual-in_err-step-2.ensures))

pub returns-in_err-shape_rows : goal.returns-in_err-shape_rows
unfolding area_rows
returns-in_err-shape_rows c =
    row_passes _ _ c.step.ensures c.magic_missing.ensures c.in_ok-step.was
    (row_passes _ _ c.step-2.ensures c.policy_impossible.ensures c.in_ok-step-2.was
    (stage_fails _ _ c.shape_rows.ensures c.in_err-shape_rows.was (handed_on c.from_residual-in_err-shape_rows.ensures)))

pub returns-in_err-policy_rows : goal.returns-in_err-policy_rows
unfolding area_rows
returns-in_err-policy_rows c =
    row_passes _ _ c.step.ensures c.magic_missing.ensures c.in_ok-step.was
    (row_passes _ _ c.step-2.ensures c.policy_impossible.ensures c.in_ok-step-2.was
    (stage_passes _ _ c.shape_rows.ensures c.in_ok-shape_rows.was
    (stage_fails _ _ c.policy_rows.ensures c.in_err-policy_rows.was (handed_on c.from_residual-in_err-policy_rows.ensures))))

pub returns-in_err-extent_rows : goal.returns-in_err-extent_rows
unfolding area_rows
returns-in_err-extent_rows c =
    row_passes _ _ c.step.ensures c.magic_missing.ensures c.in_ok-step.was
    (row_passes _ _ c.step-2.ensures c.policy_impossible.ensures c.in_ok-step-2.was
    (stage_passes _ _ c.shape_rows.ensures c.in_ok-shape_rows.was
    (stage_passes _ _ c.policy_rows.ensures c.in_ok-policy_rows.was
    (stage_fails _ _ c.extent_rows.ensures c.in_err-extent_rows.was (handed_on c.from_residual-in_err-extent_rows.ensures)))))

pub returns : goal.returns
unfolding area_rows
returns c =
    row_passes _ _ c.step.ensures c.magic_missing.ensures c.in_ok-step.was
    (row_passes _ _ c.step-2.ensures c.policy_impossible.ensures c.in_ok-step-2.was
    (stage_passes _ _ c.shape_rows.ensures c.in_ok-shape_rows.was
    (stage_passes _ _ c.policy_rows.ensures c.in_ok-policy_rows.was
    (stage_passes _ _ c.extent_rows.ensures c.in_ok-extent_rows.was c.hash_rows.ensures))))
