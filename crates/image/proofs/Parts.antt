-- What an accepted slot says, as Facts.antt has it of a file; and the parts that a check hands back of an accepted image: they stand where the fields say, and are held whole.
-- Assumes nothing.
use Prim.Native.Nat.{ℕ, ◌+◌, ◌-◌, ◌*◌}
use mathlib.Core.Path.{◌≡◌, refl, subst}
use mathlib.Core.List.{List}
use native.Mathlib.Omega.{arith}
use lib.ListN.{take, drop}
use Rattle.std.specs.Prelude.{Ok}
use Rattle.octets.specs.Read.{between}
use Rattle.header.specs.Layout.{vendor_len, code_len, key_count, string_len, string_start, string_end, picture_start, mask_at, code_start, image_len}
use Rattle.header.specs.Steps.{vendor_magic_missing, tail_not_erased}
use Rattle.header.specs.Table.{first_failing}
use Rattle.header.specs.declared.Inputs.{Inputs}
use Rattle.image.specs.Answer.{image_of}
use Rattle.image.specs.Check.{check_rows, check_slot}
use Rattle.image.specs.Theorems.{PartsStand, AcceptedParts}
use Rattle.image.specs.declared.Image.{Image}
use Rattle.image.proofs.Facts.{told, RowsPass, Sound, sound, accepted_rows, file_rows_pass, file_told, length_part, code_length}

-- ---- an accepted slot

pub slot_rows_pass : (b : List ℕ) (given : Inputs) (i : Image) → check_slot b given ≡ Ok i → RowsPass (vendor_magic_missing b) (tail_not_erased b) b given
unfolding check_slot
slot_rows_pass b given i h = accepted_rows (vendor_magic_missing b) (tail_not_erased b) b given i h

pub slot_told : (b : List ℕ) (given : Inputs) (i : Image) → check_slot b given ≡ Ok i → image_of b ≡ i
unfolding check_slot
slot_told b given i h = told (first_failing (check_rows (vendor_magic_missing b) (tail_not_erased b) b given)) (image_of b) i h

-- ---- the parts

-- n bytes from a on
pub part_taken : (b : List ℕ) (a n s e : ℕ) → s ≡ a → e ≡ a + n → between s e b ≡ take n (drop a b)
unfolding between
part_taken b a n s e h g = let d : e - s ≡ n = omega arith in rw (d, h)

pub parts_stand : (b : List ℕ) → Sound b → PartsStand b (Ok (image_of b)) (image_of b)
unfolding image_of
parts_stand b k =
    let n = key_count b in
    let s = string_len b in
    let v = vendor_len b in
    record {
      string = part_taken b (33 + 32 * n) s (string_start n) (string_end n s) (omega arith) (omega arith);
      string_long = length_part b (string_start n) (string_end n s) s refl (omega (arith, k.vendor.room, k.vendor.held));
      picture = part_taken b (picture_start n s) (v - 65 - picture_start n s) (picture_start n s) (mask_at v) refl (omega (arith, k.vendor.room));
      picture_long = length_part b (picture_start n s) (mask_at v) (v - 65 - picture_start n s) (omega (arith, k.vendor.room)) (omega (arith, k.vendor.held));
      code = part_taken b (v + 1024) (code_len b) (code_start b) (image_len b) refl refl;
      code_long = code_length b k.held;
    }

-- of the image that is told
told_parts_stand : {i : Image} (b : List ℕ) → Sound b → image_of b ≡ i → PartsStand b (Ok i) i
told_parts_stand b k e = subst (λ (j : Image). PartsStand b (Ok j) j) e (parts_stand b k)

pub accepted_parts : AcceptedParts
accepted_parts =
    record {
      file = λ b given i h. rw h (told_parts_stand b (sound (file_rows_pass b given i h)) (file_told b given i h));
      slot = λ b given i h. rw h (told_parts_stand b (sound (slot_rows_pass b given i h)) (slot_told b given i h));
    }
