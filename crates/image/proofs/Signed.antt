-- An accepted image is signed: the rows of its headers pass, and in a slot S22 does.
-- Assumes nothing.
use Prim.Native.Nat.{ℕ}
use mathlib.Core.Path.{◌≡◌}
use mathlib.Core.Bool.{true, false}
use mathlib.Core.List.{List}
use lib.ListN.{drop}
use borrow.Author.Tests.{not-false}
use Rattle.octets.specs.Read.{all_are}
use Rattle.header.specs.Layout.{vendor_len, image_len}
use Rattle.header.specs.Steps.{tail_not_erased}
use Rattle.header.proofs.Facts.{both_signed, extent_passes}
use Rattle.image.specs.Theorems.{AcceptedIsSigned}
use Rattle.image.proofs.Facts.{file_rows_pass}
use Rattle.image.proofs.Parts.{slot_rows_pass}

erased_behind : (b : List ℕ) → tail_not_erased b ≡ false → all_are 255 (drop (image_len b) b) ≡ true
unfolding tail_not_erased
erased_behind b h = not-false _ h

pub accepted_is_signed : AcceptedIsSigned
accepted_is_signed =
    record {
      file = λ b given i h. both_signed _ b given (file_rows_pass b given i h).headers;
      slot = λ b given i h. both_signed _ b given (slot_rows_pass b given i h).headers;
      tail = λ b given i h. erased_behind b (extent_passes _ b (vendor_len b) (slot_rows_pass b given i h).extent).tail;
    }
