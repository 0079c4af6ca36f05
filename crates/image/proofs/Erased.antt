-- The two laws on which the installer rests: a first word that is erased or zero is no magic, and erased bytes behind a file are what a slot's S22 asks while all else reads the file alone.
-- Assumes nothing.
use Prim.Native.Nat.{ℕ, zero, suc, ◌+◌, ◌-◌, ◌*◌, ◌≤◌}
use mathlib.Core.Path.{◌≡◌, refl, sym, ap, ◌∙◌}
use mathlib.Core.List.{List, [], ◌∷◌, ◌++◌}
use mathlib.Core.Bool.{true, false, not}
use mathlib.Core.Logic.{◌⊎◌, inl, inr}
use native.Mathlib.Omega.{arith}
use lib.ListN.{length, take, replicate, length-append, get_or-append}
use lib.Seq.{drop-append_seam}
use lib.Dec.{leb, ltb}
use borrow.Author.Tests.{le-leb, leb-true, lt-ltb, ltb-true}
use Rattle.std.specs.Prelude.{Ok}
use Rattle.octets.specs.Read.{all_are}
use Rattle.header.specs.Layout.{TRZV, vendor_len, key_count, image_len}
use Rattle.header.specs.Steps.{vendor_magic_missing, bytes_follow, tail_not_erased}
use Rattle.header.specs.Table.{first_failing, header_rows}
use Rattle.header.specs.Alike.{Alike, ReadByHeaders}
use Rattle.header.specs.declared.Inputs.{Inputs}
use Rattle.header.proofs.Facts.{extent_passes}
use Rattle.header.proofs.Alike.{image_len_alike, headers_alike}
use Rattle.image.specs.Answer.{image_of}
use Rattle.image.specs.Check.{check_rows, check_slot}
use Rattle.image.specs.Theorems.{ErasedOrZeroRefused, AcceptedBeforeErased}
use Rattle.image.proofs.Facts.{RowsPass, sound, file_rows_pass, file_told, file_length, rows_accepted}
use Rattle.image.proofs.Alike.{ReadByCheck, extent_rows_alike, hash_rows_alike, image_of_alike}
use Rattle.header.proofs.WordApart.{starts_within}

-- neither 255 nor 0 is the magic's first letter
magic_missing_lem : (b : List ℕ) → (take 4 b ≡ replicate 4 255) ⊎ (take 4 b ≡ replicate 4 0) → vendor_magic_missing b ≡ true
unfolding vendor_magic_missing
magic_missing_lem [] h = refl
magic_missing_lem (x ∷ b) (inl h) = let e : x ≡ 255 = cc in rw e
magic_missing_lem (x ∷ b) (inr h) = let e : x ≡ 0 = cc in rw e

pub erased_or_zero_refused : ErasedOrZeroRefused
unfolding check_slot check_rows header_rows first_failing
erased_or_zero_refused b given h = rw (magic_missing_lem b h)

-- erased bytes are erased
pub all_erased : (n : ℕ) → all_are 255 (replicate n 255) ≡ true
all_erased zero = refl
all_erased (suc n) = all_erased n

-- a list agrees with a longer one as far as it goes
pub start_alike : (s more : List ℕ) → Alike (λ i. ltb i (length s)) (λ n. leb n (length s)) (s ++ more) s
start_alike s more =
    record {
      at = λ i h. get_or-append s more 0 i (ltb-true i (length s) h);
      len = λ n h. let g = leb-true n (length s) h in let l = length-append s more in omega arith;
    }

module _ (file : List ℕ) (given : Inputs) (p : RowsPass (vendor_magic_missing file) (bytes_follow file) file given) (n : ℕ) where
  abbrev slot : List ℕ
  slot = file ++ replicate n 255

  abbrev w : Alike (λ i. ltb i (length file)) (λ n. leb n (length file)) slot file
  w = start_alike file (replicate n 255)

  whole : length file ≡ image_len file
  whole = file_length (vendor_magic_missing file) file given p

  least : 512 ≤ vendor_len file
  least = (sound p).vendor.size.least

  read_headers : ReadByHeaders (λ i. ltb i (length file)) (λ n. leb n (length file)) file
  read_headers =
      let l = whole in
      record {
        hdrlen = λ i g h. lt-ltb i (length file) (omega arith);
        expiry = λ v i g h. lt-ltb i (length file) (omega arith);
        counts = λ v i g h. lt-ltb i (length file) (omega arith);
        zeros = λ v i g h. lt-ltb i (length file) (omega arith);
        string = λ v n. lt-ltb (32 + 32 * key_count file) (length file) (omega arith);
        padding = λ v n p i g h. lt-ltb i (length file) (omega arith);
        mask = λ v. lt-ltb (vendor_len file - 65) (length file) (omega arith);
        start = λ v i g h. lt-ltb i (length file) (omega arith);
        gap = λ v i g h. lt-ltb i (length file) (omega arith);
        end = λ v i g h. lt-ltb i (length file) (omega arith);
        ends = λ k h. le-leb k (length file) (omega arith);
      }

  read : ReadByCheck (λ i. ltb i (length file)) (λ n. leb n (length file)) file
  read =
      let l = whole in
      record {
        headers = read_headers;
        versions = λ v i g h. lt-ltb i (length file) (omega arith);
        hashes = λ v i g h. lt-ltb i (length file) (omega arith);
        code = λ v i g h. lt-ltb i (length file) (omega arith);
        end = le-leb (image_len file) (length file) (omega arith);
      }

  magic_stays : vendor_magic_missing slot ≡ vendor_magic_missing file
  unfolding vendor_magic_missing
  magic_stays = let l = whole in ap not (starts_within TRZV file (replicate n 255) (omega arith))

  tail_erased : tail_not_erased slot ≡ false
  unfolding tail_not_erased
  tail_erased =
      let e : image_len slot ≡ length file = image_len_alike w read_headers least ∙ sym whole in
      rw (e, drop-append_seam file (replicate n 255), all_erased n)

  slot_rows_pass : RowsPass (vendor_magic_missing slot) (tail_not_erased slot) slot given
  slot_rows_pass =
      record {
        headers = rw magic_stays (headers_alike w read_headers (vendor_magic_missing file) given ∙ p.headers);
        extent =
            extent_rows_alike w read least _ _ (tail_erased ∙ sym (extent_passes (bytes_follow file) file (vendor_len file) p.extent).tail) ∙ p.extent;
        hashes = hash_rows_alike w read least ∙ p.hashes;
      }

  slot_stays : check_slot slot given ≡ Ok (image_of file)
  unfolding check_slot
  slot_stays = rows_accepted slot_rows_pass ∙ ap Ok (image_of_alike w read least)

pub accepted_before_erased : AcceptedBeforeErased
accepted_before_erased file n given i h =
    slot_stays file given (file_rows_pass file given i h) n ∙ ap Ok (file_told file given i h)
