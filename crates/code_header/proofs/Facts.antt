-- What a passing test says of numbers, and of a magic.
-- Assumes nothing.
use Prim.Native.Nat.{ℕ, ◌+◌, ◌-◌, ◌^◌, ◌%◌, ◌≤◌}
use mathlib.Core.Path.{◌≡◌, refl, ap₂}
use mathlib.Core.List.{List, [], ◌∷◌}
use mathlib.Core.Bool.{Bool, true, false, not, ◌||◌}
use native.Mathlib.Omega.{arith}
use lib.Dec.{ltb, eqb}
use lib.ListN.{length, take, drop, length-take}
use borrow.Author.Tests.{ltb-false, le-ltb, leb-false, lt-leb, eqb-true, eqb-false, eq-eqb, ne_eqb, not-false}
use Rattle.octets.specs.Read.{between, starts_with, bit_at_or_above, ones_of}
use Rattle.octets.specs.Rounding.{multiple_of}
use Rattle.octets.proofs.Laws.{and_left, and_right, or_left, or_right}
use Rattle.code_header.specs.Tests.{expired, mask_wrong, code_len_outside, magic_missing_at}
use Rattle.code_header.specs.Layout.{magic_at}
use Rattle.code_header.specs.Signers.{Signers}

-- a length of code within a limit
pub record CodeLenInside (limit c : ℕ) : Type 0 where
  pub test : code_len_outside limit c ≡ false
  pub some : 1 ≤ c
  pub whole : c % 4 ≡ 0
  pub most : c ≤ limit

pub code_len_inside : (limit c : ℕ) → code_len_outside limit c ≡ false → CodeLenInside limit c
code_len_inside limit c h =
    let l : (eqb c 0 || not (multiple_of 4 c)) ≡ false = or_left _ (ltb limit c) h in
    record {
      test = h;
      some = let z = eqb-false c 0 (or_left _ (not (multiple_of 4 c)) l) in omega arith;
      whole = eqb-true (c % 4) 0 (not-false _ (or_right (eqb c 0) _ l));
      most = ltb-false limit c (or_right (eqb c 0 || not (multiple_of 4 c)) _ h);
    }

-- and the other way round
pub inside_code_len : (limit c : ℕ) → 1 ≤ c → c % 4 ≡ 0 → c ≤ limit → code_len_outside limit c ≡ false
inside_code_len limit c some whole most =
    let n : c ≡ 0 → ⊥ = λ e. omega arith in
    rw (ne_eqb c 0 n, whole, le-ltb limit c most)

-- an expiry that is not 0 is not passed
pub in_time : (expiry time : ℕ) → expired expiry time ≡ false → (expiry ≡ 0 → ⊥) → time ≤ expiry
in_time expiry time h n = ltb-false expiry time (rw (ne_eqb expiry 0 n) at h)

pub time_passes : (expiry time : ℕ) → ((expiry ≡ 0 → ⊥) → time ≤ expiry) → expired expiry time ≡ false
time_passes expiry time h = go (eqb expiry 0) refl
  where
    go : (z : Bool) → eqb expiry 0 ≡ z → expired expiry time ≡ false
    go true e = rw e
    go false e = rw (e, le-ltb expiry time (h (eqb-false expiry 0 e)))

-- a sigmask passes exactly if it names m signers among n keys, no fewer and no more
pub mask_signed : (m n mask : ℕ) → mask_wrong m n mask ≡ false → Signers m n mask
unfolding bit_at_or_above ones_of
mask_signed m n mask h =
    record {
      within = leb-false (2 ^ n) mask (or_left _ (not (eqb (ones_of mask) m)) h);
      count = eqb-true (ones_of mask) m (not-false _ (or_right (bit_at_or_above n mask) _ h));
    }

pub signed_mask : (m n mask : ℕ) → Signers m n mask → mask_wrong m n mask ≡ false
unfolding bit_at_or_above ones_of
signed_mask m n mask s = rw (lt-leb (2 ^ n) mask s.within, eq-eqb (ones_of mask) m s.count)

-- ---- the magic

-- bytes that start with a magic, and are no longer, are the magic
starts_are : (m s : List ℕ) → starts_with m s ≡ true → length s ≤ length m → s ≡ m
starts_are [] [] h l = refl
starts_are [] (y ∷ s) h l = absurd (omega arith)
starts_are (x ∷ m) [] h l = cc
starts_are (x ∷ m) (y ∷ s) h l =
    ap₂ (λ (z : ℕ) (t : List ℕ). z ∷ t) (eqb-true y x (and_left _ _ h)) (starts_are m s (and_right (eqb y x) _ h) (omega arith))

starts_self : (m : List ℕ) → starts_with m m ≡ true
starts_self [] = refl
starts_self (x ∷ m) = rw (eq-eqb x x refl) (starts_self m)

-- four letters at an offset
module _ (b : List ℕ) (at : ℕ) (letters : List ℕ) (four : length letters ≡ 4) where
  magic_is : magic_at b at ≡ take 4 (drop at b)
  unfolding between
  magic_is = let e : at + 4 - at ≡ 4 = omega arith in rw e

  pub magic_stands : magic_missing_at b at letters ≡ false → take 4 (drop at b) ≡ letters
  magic_stands h =
      let l = length-take 4 (drop at b) in
      starts_are letters (take 4 (drop at b)) (rw (← magic_is) (not-false _ h)) (omega arith)

  pub magic_passes : take 4 (drop at b) ≡ letters → magic_missing_at b at letters ≡ false
  magic_passes h = rw (magic_is, h, starts_self)

  pub magic_missing_lem : (take 4 (drop at b) ≡ letters → ⊥) → magic_missing_at b at letters ≡ true
  magic_missing_lem h = go (magic_missing_at b at letters) refl
    where
      go : (t : Bool) → magic_missing_at b at letters ≡ t → magic_missing_at b at letters ≡ true
      go true e = e
      go false e = absurd (h (magic_stands e))
