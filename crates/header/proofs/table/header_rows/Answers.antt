-- `header::table::header_rows` meets its contract: each test is a row's by its promise, in the table's order.
use Rattle.header.specs.Table.{header_rows}
use Rattle.header.proofs.Rows.{handed_on, row_fails, row_passes, row_fails_here, row_passes_here, stage_fails, stage_passes}
use Rattle.header.proofs.table.header_rows.Goals as goal

pub returns-in_err-step : goal.returns-in_err-step
unfolding header_rows
returns-in_err-step c = row_fails_here _ _ _ c.step.ensures c.in_err-step.was (handed_on c.from_residual.ensures)

pub returns-in_err-step-2 : goal.returns-in_err-step-2
unfolding header_rows
returns-in_err-step-2 c =
    row_passes_here _ _ _ c.step.ensures c.in_ok-step.was
    (row_fails _ _ c.step-2.ensures c.policy_impossible.ensures c.in_err-step-2.was (handed_on c.from_residual-in_err-step-2.ensures))

pub returns-in_err-vendor_shape : goal.returns-in_err-vendor_shape
unfolding header_rows
returns-in_err-vendor_shape c =
    row_passes_here _ _ _ c.step.ensures c.in_ok-step.was
    (row_passes _ _ c.step-2.ensures c.policy_impossible.ensures c.in_ok-step-2.was
    (stage_fails _ _ c.vendor_shape.ensures c.in_err-vendor_shape.was (handed_on c.from_residual-in_err-vendor_shape.ensures)))

pub returns-in_err-vendor_policy : goal.returns-in_err-vendor_policy
unfolding header_rows
returns-in_err-vendor_policy c =
    row_passes_here _ _ _ c.step.ensures c.in_ok-step.was
    (row_passes _ _ c.step-2.ensures c.policy_impossible.ensures c.in_ok-step-2.was
    (stage_passes _ _ c.vendor_shape.ensures c.in_ok-vendor_shape.was
    (stage_fails _ _ c.vendor_policy.ensures c.in_err-vendor_policy.was (handed_on c.from_residual-in_err-vendor_policy.ensures))))

pub returns-in_err-firmware_shape : goal.returns-in_err-firmware_shape
unfolding header_rows
returns-in_err-firmware_shape c =
    row_passes_here _ _ _ c.step.ensures c.in_ok-step.was
    (row_passes _ _ c.step-2.ensures c.policy_impossible.ensures c.in_ok-step-2.was
    (stage_passes _ _ c.vendor_shape.ensures c.in_ok-vendor_shape.was
    (stage_passes _ _ c.vendor_policy.ensures c.in_ok-vendor_policy.was
    (stage_fails _ _ c.firmware_shape.ensures c.in_err-firmware_shape.was (handed_on c.from_residual-in_err-firmware_shape.ensures)))))

pub returns : goal.returns
unfolding header_rows
returns c =
    row_passes_here _ _ _ c.step.ensures c.in_ok-step.was
    (row_passes _ _ c.step-2.ensures c.policy_impossible.ensures c.in_ok-step-2.was
    (stage_passes _ _ c.vendor_shape.ensures c.in_ok-vendor_shape.was
    (stage_passes _ _ c.vendor_policy.ensures c.in_ok-vendor_policy.was
    (stage_passes _ _ c.firmware_shape.ensures c.in_ok-firmware_shape.was c.firmware_policy.ensures))))
