-- Where the rows refuse, nothing is written; else both halves of the header are written one behind the other, and the rows say that they fit.
use native.Mathlib.Omega.{arith}
use Prim.Native.Nat.{ℕ, ◌+◌}
use mathlib.Core.Path.{◌≡◌, refl, ap, ◌∙◌}
use lib.ListN.{length}
use borrow.Author.Rules.{rules}
use Rattle.octets.specs.Rounding.{round_up}
use Rattle.std.specs.Prelude.{Err}
use Rattle.writer.specs.Writers.{told}
use Rattle.writer.specs.Vendor.{vendor_size, vendor_fields}
use Rattle.writer.proofs.Chain.{wrote_next}
use Rattle.writer.proofs.Taken.{vendor_fits, passes, fails, refused, untouched, wrote, leaves}
use Rattle.writer.proofs.write_vendor.Goals as goal

pub returns-in_err-map_err : goal.returns-in_err-map_err
returns-in_err-map_err c =
    let was : c.map_err.result ≡ Err c.in_err-map_err.field-0.0 = c.in_err-map_err.was in
    fails c.vendor_refusals.result c.map_err.ensures.variant was
    (λ r failed.
    let made = rw (failed, was) at c.map_err.ensures.cases in
    let number : c.in_err-map_err.field-0.0 ≡ r.number = search rules in
    let answer = refused _ c.vendor_refusals.ensures failed number c.from_residual.ensures in
    record { value = (answer, untouched _ _ c.vendor_refusals.ensures failed); told = ap told answer })

-- past the refusals the parts fit
pub overflow_cast-string : goal.overflow_cast-string
overflow_cast-string c = let fits = vendor_fits c.vendor_refusals.ensures (passes c.map_err.ensures.variant c.in_ok-map_err.was) in omega (arith, fits)

pub size_of-v-requires : goal.size_of-v-requires
size_of-v-requires c =
    let fits = vendor_fits c.vendor_refusals.ensures (passes c.map_err.ensures.variant c.in_ok-map_err.was) in
    (omega (arith, fits, c.picture_start-start.ensures), omega (arith, fits, c.picture_start-start.ensures))

pub overflow_cast-v : goal.overflow_cast-v
overflow_cast-v c =
    let fits = vendor_fits c.vendor_refusals.ensures (passes c.map_err.ensures.variant c.in_ok-map_err.was) in
    omega (arith, fits, c.picture_start-start.ensures, c.size_of-v.ensures)

pub vendor_front-requires : goal.vendor_front-requires
vendor_front-requires c =
    let fits = vendor_fits c.vendor_refusals.ensures (passes c.map_err.ensures.variant c.in_ok-map_err.was) in
    record { start = refl; room = omega (arith, fits); keys = fits.keys; string = fits.string }

pub vendor_back-requires : goal.vendor_back-requires
vendor_back-requires c =
    let fits = vendor_fits c.vendor_refusals.ensures (passes c.map_err.ensures.variant c.in_ok-map_err.was) in
    record {
      room = omega (arith, fits, c.picture_start-start.ensures, c.size_of-v.ensures, c.vendor_front.ensures.wrote.same_length);
      picture = omega (arith, fits, c.picture_start-start.ensures, c.size_of-v.ensures, c.vendor_front.ensures.place);
    }

pub returns : goal.returns
unfolding vendor_fields
returns c =
    let v : c.size_of-v.result ≡ vendor_size c.args.f.n (length c.args.string.now) (length c.args.picture.now) =
    c.size_of-v.ensures ∙ ap (λ (x : ℕ). round_up 512 (x + length c.args.picture.now + 65)) c.picture_start-start.ensures in
    let both = wrote_next c.vendor_front.ensures.wrote c.vendor_back.ensures in
    let answer = wrote c.vendor_refusals.ensures (passes c.map_err.ensures.variant c.in_ok-map_err.was) v in
    record { value = (answer, leaves c.vendor_refusals.ensures (passes c.map_err.ensures.variant c.in_ok-map_err.was) (search rules) (rw (c.vendor_front.ensures.place, v) at both.put)); told = ap told answer }
