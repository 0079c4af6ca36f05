-- Lists that differ inside the two signatures alone agree on what the steps read.
-- Assumes nothing.
use Prim.Native.Nat.{ℕ, ◌+◌, ◌-◌, ◌*◌, ◌≤◌, ◌<◌, min}
use mathlib.Core.Path.{◌≡◌, refl, ap}
use mathlib.Core.Logic.{⊎_elim}
use mathlib.Core.List.{List}
use mathlib.Core.Bool.{Bool, true, false, ◌&&◌, ◌||◌}
use native.Mathlib.Omega.{arith}
use lib.Dec.{leb, ltb}
use borrow.Author.Tests.{leb-true, le-leb, ltb-true, lt-ltb}
use Rattle.octets.proofs.Laws.{and_left, and_right, or_cases}
use Rattle.header.specs.Layout.{vendor_len, key_count}
use Rattle.header.specs.Steps.{vendor_magic_missing}
use Rattle.header.specs.Alike.{Alike, ReadByHeaders, DifferInSignatures}
use Rattle.header.proofs.Alike.{u32_alike, magic_alike}
use Rattle.header.proofs.WordApart.{any_end}

-- ---- the positions outside

abbrev pub outside : ℕ → ℕ → Bool
outside v i = ltb (i + 64) v || ((leb v i && ltb i (v + 960)) || leb (v + 1024) i)

second : (x y : Bool) → y ≡ true → (x || y) ≡ true
second true y h = refl
second false y h = h

module _ (v i : ℕ) where
  pub in_vendor : i + 64 < v → outside v i ≡ true
  in_vendor h = rw (lt-ltb (i + 64) v h)

  pub in_firmware : v ≤ i → i < v + 960 → outside v i ≡ true
  in_firmware g h = second (ltb (i + 64) v) _ (rw (le-leb v i g, lt-ltb i (v + 960) h))

  pub in_code : v + 1024 ≤ i → outside v i ≡ true
  in_code h = second (ltb (i + 64) v) _ (second (leb v i && ltb i (v + 960)) (leb (v + 1024) i) (le-leb (v + 1024) i h))

-- ---- the agreement

module _ {b c : List ℕ} (d : DifferInSignatures b c) where
  pub signed_alike : Alike (outside (vendor_len b)) any_end b c
  signed_alike =
      record {
        at = λ i r.
            ⊎_elim
            (λ (h : ltb (i + 64) (vendor_len b) ≡ true). d.vendor i (ltb-true (i + 64) (vendor_len b) h))
            (λ (h : ((leb (vendor_len b) i && ltb i (vendor_len b + 960)) || leb (vendor_len b + 1024) i) ≡ true).
            ⊎_elim
            (λ (g : (leb (vendor_len b) i && ltb i (vendor_len b + 960)) ≡ true).
            d.firmware i (leb-true (vendor_len b) i (and_left _ _ g)) (ltb-true i (vendor_len b + 960) (and_right (leb (vendor_len b) i) _ g)))
            (λ (g : leb (vendor_len b + 1024) i ≡ true). d.code i (leb-true (vendor_len b + 1024) i g))
            (or_cases (leb (vendor_len b) i && ltb i (vendor_len b + 960)) _ h))
            (or_cases (ltb (i + 64) (vendor_len b)) _ r);
        len = λ n h. ap (min n) d.lengths;
      }

  pub same_len : vendor_len b ≡ vendor_len c
  same_len = let l = d.least in u32_alike signed_alike 4 (λ i g h. in_vendor (vendor_len b) i (omega arith))

  pub long_enough : 512 ≤ vendor_len c
  long_enough = let e = same_len in let l = d.least in omega arith

  pub same_magic : vendor_magic_missing b ≡ vendor_magic_missing c
  same_magic = let l = d.least in magic_alike signed_alike refl (λ i h. in_vendor (vendor_len b) i (omega arith))

  pub read_outside : ReadByHeaders (outside (vendor_len b)) any_end c
  read_outside =
      let l = d.least in
      let e = same_len in
      let v = vendor_len b in
      record {
        hdrlen = λ i g h. in_vendor v i (omega arith);
        expiry = λ k i g h. in_vendor v i (omega arith);
        counts = λ k i g h. in_vendor v i (omega arith);
        zeros = λ k i g h. in_vendor v i (omega arith);
        string = λ k n. in_vendor v (32 + 32 * key_count c) (omega arith);
        padding = λ k n p i g h. in_vendor v i (omega arith);
        mask = λ k. in_vendor v (vendor_len c - 65) (omega arith);
        start = λ k i g h. in_firmware v i (omega arith) (omega arith);
        gap = λ k i g h. in_firmware v i (omega arith) (omega arith);
        end = λ k i g h. in_firmware v i (omega arith) (omega arith);
        ends = λ n g. refl;
      }
