-- Where the rows refuse, nothing is written; else the fields are, with the hashes of the chunks behind the two headers.
use native.Mathlib.Omega.{arith}
use mathlib.Core.Path.{◌≡◌, refl, ap, ◌∙◌}
use Prim.Native.Nat.{ℕ}
use borrow.Author.Rules.{rules}
use Rattle.blake2s.specs.Rfc7693.{blake2s_of}
use Rattle.image.specs.Chunks.{hashes_of}
use Rattle.std.specs.Prelude.{Err}
use Rattle.writer.specs.Writers.{told}
use Rattle.writer.specs.Firmware.{firmware_header}
use Rattle.writer.proofs.Taken.{firmware_fits, passes, fails, refused, untouched, wrote, leaves}
use Rattle.writer.proofs.write_firmware.Goals as goal

pub returns-in_err-map_err : goal.returns-in_err-map_err
returns-in_err-map_err c =
    let was : c.map_err.result ≡ Err c.in_err-map_err.field-0.0 = c.in_err-map_err.was in
    fails c.firmware_refusals.result c.map_err.ensures.variant was
    (λ r failed.
    let made = rw (failed, was) at c.map_err.ensures.cases in
    let number : c.in_err-map_err.field-0.0 ≡ r.number = search rules in
    let answer = refused _ c.firmware_refusals.ensures failed number c.from_residual.ensures in
    record { value = (answer, untouched _ _ c.firmware_refusals.ensures failed); told = ap told answer })

-- past the refusals the code fits
pub overflow_cast-codelen : goal.overflow_cast-codelen
overflow_cast-codelen c = omega (arith, (firmware_fits c.firmware_refusals.ensures (passes c.map_err.ensures.variant c.in_ok-map_err.was)).code)

pub firmware_fields-requires : goal.firmware_fields-requires
firmware_fields-requires c = (firmware_fits c.firmware_refusals.ensures (passes c.map_err.ensures.variant c.in_ok-map_err.was)).holds

pub returns : goal.returns
unfolding firmware_header
returns c =
    let h = c.hashes_of-table.ensures ∙ ap (λ (i : ℕ). hashes_of blake2s_of 16 i c.args.code.now) c.first_room.ensures in
    let answer = wrote c.firmware_refusals.ensures (passes c.map_err.ensures.variant c.in_ok-map_err.was) refl in
    record { value = (answer, leaves c.firmware_refusals.ensures (passes c.map_err.ensures.variant c.in_ok-map_err.was) (search rules) (rw h at c.firmware_fields.ensures.put)); told = ap told answer }
