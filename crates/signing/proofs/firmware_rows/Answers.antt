-- `signing::firmware_rows` meets its contract: S1's answer is its first row, and `vendor_shape` and `firmware_shape` promise the two groups after it.
use Rattle.signing.specs.Digests.{firmware_rows}
use Rattle.header.proofs.Rows.{handed_on, row_fails_here, row_passes_here, stage_fails, stage_passes}
use Rattle.signing.proofs.firmware_rows.Goals as goal

pub returns-in_err-step : goal.returns-in_err-step
unfolding firmware_rows
returns-in_err-step c = row_fails_here _ _ _ c.step.ensures c.in_err-step.was (handed_on c.from_residual.ensures)

pub returns-in_err-vendor_shape : goal.returns-in_err-vendor_shape
unfolding firmware_rows
returns-in_err-vendor_shape c =
    row_passes_here _ _ _ c.step.ensures c.in_ok-step.was
    (stage_fails _ _ c.vendor_shape.ensures c.in_err-vendor_shape.was (handed_on c.from_residual-in_err-vendor_shape.ensures))

pub returns : goal.returns
unfolding firmware_rows
returns c =
    row_passes_here _ _ _ c.step.ensures c.in_ok-step.was
    (stage_passes _ _ c.vendor_shape.ensures c.in_ok-vendor_shape.was c.firmware_shape.ensures)
