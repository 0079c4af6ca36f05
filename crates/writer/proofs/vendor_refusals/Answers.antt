-- Each test is a row's, in the table's order; a header that is not too long has a size that can be computed.
use native.Mathlib.Nat.{le_trans}
use native.Mathlib.Omega.{arith}
use Prim.Native.Nat.{◌+◌, ◌≤◌}
use mathlib.Core.Path.{sym, ◌∙◌}
use borrow.Author.Tests.{ltb-false}
use Rattle.header.proofs.Rows.{handed_on, row_fails, row_passes, row_fails_here, row_passes_here}
use Rattle.writer.specs.Vendor.{vendor_refusals}
use Rattle.writer.proofs.Taken.{passed, size_holds, lengths_right, too_long_is}
use Rattle.writer.proofs.vendor_refusals.Goals as goal

pub returns-in_err-step : goal.returns-in_err-step
unfolding vendor_refusals
returns-in_err-step c = row_fails _ _ c.step.ensures (rw (c.from.ensures, c.from-2.ensures) at c.keys_impossible.ensures) c.in_err-step.was (handed_on c.from_residual.ensures)

pub returns-in_err-step-2 : goal.returns-in_err-step-2
unfolding vendor_refusals
returns-in_err-step-2 c =
    row_passes _ _ c.step.ensures (rw (c.from.ensures, c.from-2.ensures) at c.keys_impossible.ensures) c.in_ok-step.was
    (row_fails_here _ _ _ (rw c.from-3.ensures at c.step-2.ensures) c.in_err-step-2.was (handed_on c.from_residual-in_err-step-2.ensures))

-- past the test of 20
pub overflow_cast-string : goal.overflow_cast-string
overflow_cast-string c = omega (arith, lengths_right c.args.keys c.from-3.result c.args.string (passed _ c.step-2.ensures c.in_ok-step-2.was))

pub too_long-requires : goal.too_long-requires
too_long-requires c = omega (arith, lengths_right c.args.keys c.from-3.result c.args.string (passed _ c.step-2.ensures c.in_ok-step-2.was))

pub returns-in_err-step-3 : goal.returns-in_err-step-3
unfolding vendor_refusals
returns-in_err-step-3 c =
    row_passes _ _ c.step.ensures (rw (c.from.ensures, c.from-2.ensures) at c.keys_impossible.ensures) c.in_ok-step.was
    (row_passes_here _ _ _ (rw c.from-3.ensures at c.step-2.ensures) c.in_ok-step-2.was
    (row_fails _ _ c.step-3.ensures (too_long_is c.args.f.n c.args.string c.args.picture c.picture_start-start.ensures c.too_long.ensures) c.in_err-step-3.was (handed_on c.from_residual-in_err-step-3.ensures)))

-- past the test of 3
pub size_of-requires : goal.size_of-requires
size_of-requires c =
    let short : c.picture_start-start.result + c.args.picture + 65 ≤ 65536 = le_trans (size_holds _) (ltb-false 65536 _ (sym c.too_long.ensures ∙ passed _ c.step-3.ensures c.in_ok-step-3.was)) in
    (omega arith, omega arith)

pub returns : goal.returns
unfolding vendor_refusals
returns c =
    row_passes _ _ c.step.ensures (rw (c.from.ensures, c.from-2.ensures) at c.keys_impossible.ensures) c.in_ok-step.was
    (row_passes_here _ _ _ (rw c.from-3.ensures at c.step-2.ensures) c.in_ok-step-2.was
    (row_passes _ _ c.step-3.ensures (too_long_is c.args.f.n c.args.string c.args.picture c.picture_start-start.ensures c.too_long.ensures) c.in_ok-step-3.was
    (rw (c.size_of.ensures, c.picture_start-start.ensures) at c.step-4.ensures)))
