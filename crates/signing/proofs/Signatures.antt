-- The places of a signature: a word given apart does not change them, and where a digest question is answered they stand in the bytes.
-- Assumes nothing.
use Prim.Native.Nat.{ℕ, ◌+◌, ◌-◌, ◌≤◌}
use mathlib.Core.Path.{◌≡◌, refl, sym, ap, ap₂, ◌∙◌}
use mathlib.Core.List.{List, [], ◌∷◌, ◌++◌}
use mathlib.Core.Bool.{not}
use native.Mathlib.Omega.{arith}
use native.Mathlib.Nat.{add-zero}
use lib.ListN.{length, get_or, take, drop}
use Rattle.std.specs.Prelude.{Ok, Err}
use Rattle.std.specs.Result.{IsOk}
use Rattle.header.specs.declared.Refusal.{Refusal}
use Rattle.octets.specs.Read.{between, bytes_at, starts_with}
use Rattle.octets.proofs.Laws.{between_none, bytes_between, length_bytes_lem}
use Rattle.header.specs.Layout.{TRZV, vendor_len}
use Rattle.header.specs.Steps.{vendor_magic_missing}
use Rattle.header.specs.Table.{first_failing, vendor_shape, firmware_shape}
use Rattle.header.proofs.Facts.{vendor_shaped, firmware_shaped}
use Rattle.header.proofs.WordApart.{word_byte}
use Rattle.signing.specs.Digests.{vendor_rows, firmware_rows, vendor_digest, firmware_digest}
use Rattle.signing.specs.Places.{vendor_places, firmware_places, when_answered, vendor_signature, firmware_signature}
use Rattle.signing.specs.Theorems.{VendorStands, FirmwareStands, SignaturesStand}
use Rattle.signing.proofs.Laws.{outcome_ok, outcome_err, vendor_rows_shape, firmware_rows_shape, firmware_rows_own_shape, word_len, vendor_rows_apart, firmware_rows_apart}

-- ---- the word given apart

-- v, m and n stand behind it
module _ (w b : List ℕ) (l : length w ≡ 4) where
  vendor_places_lem : vendor_places (w ++ drop 4 b) ≡ vendor_places b
  unfolding vendor_places
  vendor_places_lem = rw (word_len w b l)

  firmware_places_lem : firmware_places (w ++ drop 4 b) ≡ firmware_places b
  unfolding firmware_places
  firmware_places_lem = rw (word_len w b l, word_byte w b l 14 (omega arith), word_byte w b l 15 (omega arith))

  pub vendor_signature_apart : vendor_signature (w ++ drop 4 b) ≡ when_answered (first_failing (vendor_rows (not (starts_with TRZV w)) b)) (vendor_places b)
  unfolding vendor_signature
  vendor_signature_apart = ap₂ when_answered (vendor_rows_apart w b l) vendor_places_lem

  pub firmware_signature_apart : firmware_signature (w ++ drop 4 b) ≡ when_answered (first_failing (firmware_rows (not (starts_with TRZV w)) b)) (firmware_places b)
  unfolding firmware_signature
  firmware_signature_apart = ap₂ when_answered (firmware_rows_apart w b l) firmware_places_lem

-- ---- the places in the bytes

one_byte : (b : List ℕ) (a : ℕ) → a + 1 ≤ length b → between a (a + 1) b ≡ get_or b a 0 ∷ []
unfolding bytes_at
one_byte b a h = sym (bytes_between 1 b a h) ∙ ap (λ (i : ℕ). get_or b i 0 ∷ []) (add-zero a)

-- n bytes from a on
taken : (b : List ℕ) (a n s : ℕ) → s ≡ a → between s (s + n) b ≡ take n (drop a b)
unfolding between
taken b a n s h = let d : s + n - s ≡ n = omega arith in rw (d, h)

-- where there are so many, they are n
as_many : (b : List ℕ) (a n : ℕ) → a + n ≤ length b → length (between a (a + n) b) ≡ n
as_many b a n h = ap length (sym (bytes_between n b a h)) ∙ length_bytes_lem n b a

vendor_stands : (b : List ℕ) → first_failing (vendor_shape b) ≡ Ok tt → VendorStands b (vendor_places b)
unfolding vendor_places
vendor_stands b p =
    let k = vendor_shaped b p in
    let least = k.size.least in
    let held = k.held in
    record {
      mask = one_byte b _ (omega arith);
      sig = taken b (vendor_len b - 64) 64 _ (omega arith);
      sig_long = as_many b _ 64 (omega arith);
      keys = between_none 0 0 b (omega arith);
      none = (refl, refl);
    }

firmware_stands : (b : List ℕ) → first_failing (vendor_shape b) ≡ Ok tt → first_failing (firmware_shape b) ≡ Ok tt → FirmwareStands b (firmware_places b)
unfolding firmware_places
firmware_stands b p q =
    let k = vendor_shaped b p in
    let least = k.size.least in
    let most = k.keys.most in
    let held = (firmware_shaped b q).held in
    record {
      mask = one_byte b _ (omega arith);
      sig = taken b (vendor_len b + 1024 - 64) 64 _ (omega arith);
      sig_long = as_many b _ 64 (omega arith);
      keys = taken b 32 _ 32 refl;
      keys_long = as_many b 32 _ (omega arith);
      needed = refl;
      held = refl;
      some = k.keys.some;
      within = k.keys.held;
      most = most;
    }

-- ---- by the answer to the digest question

-- its rows pass where there is a digest, and refuse as it does
vendor_passes : (b : List ℕ) → IsOk (vendor_digest b) → first_failing (vendor_rows (vendor_magic_missing b) b) ≡ Ok tt
unfolding vendor_digest
vendor_passes b h = outcome_ok _ _ h

vendor_refuses : (b : List ℕ) (r : Refusal) → vendor_digest b ≡ Err r → first_failing (vendor_rows (vendor_magic_missing b) b) ≡ Err r
unfolding vendor_digest
vendor_refuses b r h = outcome_err _ _ r h

firmware_passes : (b : List ℕ) → IsOk (firmware_digest b) → first_failing (firmware_rows (vendor_magic_missing b) b) ≡ Ok tt
unfolding firmware_digest
firmware_passes b h = outcome_ok _ _ h

firmware_refuses : (b : List ℕ) (r : Refusal) → firmware_digest b ≡ Err r → first_failing (firmware_rows (vendor_magic_missing b) b) ≡ Err r
unfolding firmware_digest
firmware_refuses b r h = outcome_err _ _ r h

pub signatures_stand : SignaturesStand
unfolding vendor_signature firmware_signature
signatures_stand =
    record {
      vendor = λ b h. let p = vendor_passes b h in rw p (vendor_stands b (vendor_rows_shape _ b p));
      vendor_none = λ b r h. rw (vendor_refuses b r h);
      firmware = λ b h. let p = firmware_passes b h in rw p (firmware_stands b (firmware_rows_shape _ b p) (firmware_rows_own_shape _ b p));
      firmware_none = λ b r h. rw (firmware_refuses b r h);
    }
