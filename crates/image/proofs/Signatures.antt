-- Images that differ inside the two signatures alone are answered alike: they agree on what the steps read, on the code and on what follows it.
-- Assumes nothing.
use Prim.Native.Nat.{ℕ, ◌≤◌}
use mathlib.Core.Path.{◌≡◌, refl, ap, ap₂, ◌∙◌}
use mathlib.Core.List.{List}
use mathlib.Core.Bool.{Bool, not}
use native.Mathlib.Omega.{arith}
use lib.ListN.{drop}
use lib.Dec.{ltb}
use Rattle.std.specs.Prelude.{Ok, Err}
use Rattle.octets.specs.Read.{between, all_are}
use Rattle.header.specs.Layout.{vendor_len, key_count, string_len, string_start, string_end, picture_start, mask_at, image_len}
use Rattle.header.specs.Steps.{vendor_magic_missing, bytes_follow, tail_not_erased}
use Rattle.header.specs.Table.{first_failing}
use Rattle.header.specs.Alike.{Alike, DifferInSignatures}
use Rattle.header.specs.declared.Inputs.{Inputs}
use Rattle.header.proofs.Rows.{same_stage}
use Rattle.header.proofs.Alike.{between_alike, rest_alike, key_count_alike, string_len_alike, image_len_alike, headers_alike}
use Rattle.header.proofs.WordApart.{any_end}
use Rattle.header.proofs.Signatures.{outside, in_vendor, in_firmware, in_code, signed_alike, same_len, long_enough, same_magic, read_outside}
use Rattle.image.specs.Answer.{image_of, answer_of}
use Rattle.image.specs.Check.{check_rows, check_file, check_slot}
use Rattle.image.specs.Parts.{string_of, picture_of, when_accepted}
use Rattle.image.specs.Theorems.{AnsweredAlike, SignaturesAreNotRead}
use Rattle.image.specs.declared.Image.{Image}
use Rattle.image.specs.Answer.{Answer}
use Rattle.image.proofs.Facts.{Sound, sound, file_rows_pass}
use Rattle.image.proofs.Parts.{slot_rows_pass}
use Rattle.image.proofs.Alike.{ReadByCheck, image_of_alike, code_alike, later_rows_alike, same_answer}

-- the same answer, and where it is an acceptance the same part
same_part : (one two : Answer) (x y : List ℕ) → one ≡ two → ((i : Image) → two ≡ Ok i → x ≡ y) → when_accepted one x ≡ when_accepted two y
same_part one (Ok i) x y e h = rw e (h i refl)
same_part one (Err r) x y e h = rw e

module _ {b c : List ℕ} (d : DifferInSignatures b c) where
  abbrev w : Alike (outside (vendor_len b)) any_end b c
  w = signed_alike d

  read : ReadByCheck (outside (vendor_len b)) any_end c
  read =
      let e = same_len d in
      record {
        headers = read_outside d;
        versions = λ l i g h. in_firmware (vendor_len b) i (omega arith) (omega arith);
        hashes = λ l i g h. in_firmware (vendor_len b) i (omega arith) (omega arith);
        code = λ l i g h. in_code (vendor_len b) i (omega arith);
        end = refl;
      }

  least : 512 ≤ vendor_len c
  least = long_enough d

  -- S22
  follow : bytes_follow b ≡ bytes_follow c
  unfolding bytes_follow
  follow = ap₂ ltb (image_len_alike w (read_outside d) least) d.lengths

  tail : tail_not_erased b ≡ tail_not_erased c
  unfolding tail_not_erased
  tail =
      let e = same_len d in
      ap
      (λ (l : List ℕ). not (all_are 255 l))
      (ap (λ (n : ℕ). drop n b) (image_len_alike w (read_outside d) least) ∙ rest_alike w (image_len c) d.lengths (λ i g. in_code (vendor_len b) i (omega arith)))

  answered : (x y : Bool) (given : Inputs) → x ≡ y
      → answer_of (first_failing (check_rows (vendor_magic_missing b) x b given)) (image_of b) ≡ answer_of (first_failing (check_rows (vendor_magic_missing c) y c given)) (image_of c)
  unfolding check_rows
  answered x y given e =
      same_answer _ _ _ _
      (ap (λ (m : Bool). first_failing (check_rows m x b given)) (same_magic d)
      ∙ same_stage _ _ _ _ (headers_alike w (read_outside d) (vendor_magic_missing c) given) (λ p. later_rows_alike w read least x y e))
      (λ p. image_of_alike w read least)

  file_answered : (given : Inputs) → check_file b given ≡ check_file c given
  unfolding check_file
  file_answered given = answered (bytes_follow b) (bytes_follow c) given follow

  slot_answered : (given : Inputs) → check_slot b given ≡ check_slot c given
  unfolding check_slot
  slot_answered given = answered (tail_not_erased b) (tail_not_erased c) given tail

  -- ---- the parts, where the headers have their shape

  module _ (k : Sound c) where
    counts : (key_count b ≡ key_count c) × (string_len b ≡ string_len c)
    counts = (key_count_alike w (read_outside d) least, string_len_alike w (read_outside d) least k.vendor.keys.most)

    string_same : string_of b ≡ string_of c
    string_same =
        let e = same_len d in
        ap₂ (λ (n s : ℕ). between (string_start n) (string_end n s) b) counts.0 counts.1
        ∙ between_alike w (string_start (key_count c)) (string_end (key_count c) (string_len c)) refl (λ i g h. in_vendor (vendor_len b) i (omega (arith, k.vendor.room)))

    picture_same : picture_of b ≡ picture_of c
    picture_same =
        let e = same_len d in
        ap₂ (λ (p v : ℕ). between p (mask_at v) b) (ap₂ picture_start counts.0 counts.1) e
        ∙ between_alike w (picture_start (key_count c) (string_len c)) (mask_at (vendor_len c)) refl (λ i g h. in_vendor (vendor_len b) i (omega (arith, least)))

  alike : (one two : Answer) → one ≡ two → ((i : Image) → two ≡ Ok i → Sound c) → AnsweredAlike b c one two
  alike one two e h =
      record {
        answer = e;
        string = same_part one two _ _ e (λ i g. string_same (h i g));
        picture = same_part one two _ _ e (λ i g. picture_same (h i g));
        code = same_part one two _ _ e (λ i g. code_alike w read least);
      }

pub signatures_are_not_read : SignaturesAreNotRead
signatures_are_not_read =
    record {
      file = λ b c given d. alike d (check_file b given) (check_file c given) (file_answered d given) (λ i h. sound (file_rows_pass c given i h));
      slot = λ b c given d. alike d (check_slot b given) (check_slot c given) (slot_answered d given) (λ i h. sound (slot_rows_pass c given i h));
    }
