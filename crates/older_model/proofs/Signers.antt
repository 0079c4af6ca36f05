-- The key sheet, the indexes and the verdicts: each test passes exactly where the numbers say so.
-- Assumes nothing.
use Prim.Native.Nat.{ℕ, ◌+◌, ◌≤◌}
use mathlib.Core.Path.{◌≡◌, refl}
use mathlib.Core.Bool.{Bool, true, false, ◌&&◌, ◌||◌}
use mathlib.Core.List.{List}
use native.Mathlib.Omega.{arith}
use lib.Dec.{leb, ltb, eqb}
use lib.ListN.{get_or}
use borrow.Author.Tests.{ltb-false, le-ltb, leb-true, le-leb, eqb-false, ne_eqb, not-false}
use Rattle.octets.proofs.Laws.{and_left, and_right, or_left, or_right}
use Rattle.older_model.specs.declared.Verdicts.{Verdicts}
use Rattle.older_model.specs.Steps.{sheet_impossible, no_key, indexes_wrong_at, verdict_missing}
use Rattle.older_model.specs.Theorems.{KeySheet, ThreeKeys, AllYes, SignedByThree}

-- ---- the key sheet

pub sheet_is : (keys : ℕ) → sheet_impossible keys ≡ false → KeySheet keys
unfolding sheet_impossible
sheet_is keys h =
    let t = not-false _ h in
    record { least = leb-true 3 keys (and_left _ _ t); most = leb-true keys 255 (and_right (leb 3 keys) _ t) }

pub sheet_passes : (keys : ℕ) → KeySheet keys → sheet_impossible keys ≡ false
unfolding sheet_impossible
sheet_passes keys s = rw (le-leb 3 keys s.least, le-leb keys 255 s.most)

pub sheet_fails : (keys : ℕ) → (KeySheet keys → ⊥) → sheet_impossible keys ≡ true
sheet_fails keys h = go (sheet_impossible keys) refl
  where
    go : (t : Bool) → sheet_impossible keys ≡ t → sheet_impossible keys ≡ true
    go true e = e
    go false e = absurd (h (sheet_is keys e))

-- ---- an index

key_is : (keys i : ℕ) → no_key keys i ≡ false → (1 ≤ i) × (i ≤ keys)
key_is keys i h =
    let z = eqb-false i 0 (or_left _ (ltb keys i) h) in
    (omega arith, ltb-false keys i (or_right (eqb i 0) _ h))

key_passes : (keys i : ℕ) → (1 ≤ i) × (i ≤ keys) → no_key keys i ≡ false
key_passes keys i h =
    let n : i ≡ 0 → ⊥ = λ e. omega (arith, h.0) in
    rw (ne_eqb i 0 n, le-ltb keys i h.1)

-- ---- three indexes

module _ (keys : ℕ) (b : List ℕ) (at : ℕ) where
  abbrev i : ℕ
  i = get_or b at 0

  abbrev j : ℕ
  j = get_or b (at + 1) 0

  abbrev k : ℕ
  k = get_or b (at + 2) 0

  keys_are : indexes_wrong_at b at keys ≡ false → ThreeKeys keys b at
  unfolding indexes_wrong_at
  keys_are h =
      let h5 = or_left _ (eqb j k) h in
      let h4 = or_left _ (eqb i k) h5 in
      let h3 = or_left _ (eqb i j) h4 in
      let h2 = or_left _ (no_key keys k) h3 in
      record {
        first = key_is keys i (or_left _ (no_key keys j) h2);
        second = key_is keys j (or_right (no_key keys i) _ h2);
        third = key_is keys k (or_right (no_key keys i || no_key keys j) _ h3);
        first_second = eqb-false i j (or_right (no_key keys i || no_key keys j || no_key keys k) _ h4);
        first_third = eqb-false i k (or_right (no_key keys i || no_key keys j || no_key keys k || eqb i j) _ h5);
        second_third = eqb-false j k (or_right (no_key keys i || no_key keys j || no_key keys k || eqb i j || eqb i k) _ h);
      }

  pub indexes_pass : ThreeKeys keys b at → indexes_wrong_at b at keys ≡ false
  unfolding indexes_wrong_at
  indexes_pass s =
      rw (
        key_passes keys i s.first,
        key_passes keys j s.second,
        key_passes keys k s.third,
        ne_eqb i j s.first_second,
        ne_eqb i k s.first_third,
        ne_eqb j k s.second_third,
      )

  pub indexes_fail : (ThreeKeys keys b at → ⊥) → indexes_wrong_at b at keys ≡ true
  indexes_fail h = go (indexes_wrong_at b at keys) refl
    where
      go : (t : Bool) → indexes_wrong_at b at keys ≡ t → indexes_wrong_at b at keys ≡ true
      go true e = e
      go false e = absurd (h (keys_are e))

-- ---- three verdicts

yes_is : (x : Verdicts) → verdict_missing x ≡ false → AllYes x
yes_is x g =
    let t = not-false _ g in
    let l = and_left _ x.three t in
    record { one = and_left _ _ l; two = and_right x.one _ l; three = and_right (x.one && x.two) _ t }

pub verdicts_pass : (x : Verdicts) → AllYes x → verdict_missing x ≡ false
verdicts_pass x s = rw (s.one, s.two, s.three)

pub verdicts_fail : (x : Verdicts) → (AllYes x → ⊥) → verdict_missing x ≡ true
verdicts_fail x h = go (verdict_missing x) refl
  where
    go : (t : Bool) → verdict_missing x ≡ t → verdict_missing x ≡ true
    go true e = e
    go false e = absurd (h (yes_is x e))

-- ---- both

pub signed_is : (keys : ℕ) (b : List ℕ) (at : ℕ) (x : Verdicts) → indexes_wrong_at b at keys ≡ false → verdict_missing x ≡ false → SignedByThree keys b at x
signed_is keys b at x h g = record { signers = keys_are keys b at h; agreed = yes_is x g }
