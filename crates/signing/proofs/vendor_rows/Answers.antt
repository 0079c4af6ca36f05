-- `signing::vendor_rows` meets its contract: S1's answer is its first row, and `vendor_shape` promises the rows after it.
use Rattle.signing.specs.Digests.{vendor_rows}
use Rattle.header.proofs.Rows.{handed_on, row_fails_here, row_passes_here}
use Rattle.signing.proofs.vendor_rows.Goals as goal

pub returns-in_err-step : goal.returns-in_err-step
unfolding vendor_rows
returns-in_err-step c = row_fails_here _ _ _ c.step.ensures c.in_err-step.was (handed_on c.from_residual.ensures)

pub returns : goal.returns
unfolding vendor_rows
returns c =
    row_passes_here _ _ _ c.step.ensures c.in_ok-step.was c.vendor_shape.ensures
