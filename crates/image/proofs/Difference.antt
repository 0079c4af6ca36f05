-- Two codes whose chunks have the same digests: no chunk differs, or the lowest that does is a collision. It is the same for every family of images.
-- Assumes nothing.
use Prim.Native.Nat.{ℕ, zero, suc, ◌+◌, ◌-◌, ◌*◌, ◌≤◌, ◌<◌}
use mathlib.Core.Path.{◌≡◌, refl, sym, ap, ap₂, ◌∙◌}
use mathlib.Core.Logic.{⊎_elim}
use mathlib.Core.List.{List, ◌++◌}
use mathlib.Core.Bool.{Bool, true, false, true≢false}
use native.Mathlib.Omega.{arith}
use lib.ListN.{length, take, drop, length-take, length-drop}
use lib.Seq.{take-add, take_all}
use Rattle.octets.specs.Read.{between, same}
use Rattle.octets.proofs.Laws.{split, between_past, same_self, same_equal}
use Rattle.image.specs.Difference.{chunk_of, lowest, difference_from, SameOrCollision, OneCode}

take_between : (a e : ℕ) (s : List ℕ) → a ≤ e → take e s ≡ take a s ++ between a e s
unfolding between
take_between a e s h = let f : e ≡ a + (e - a) = omega arith in ap (λ (n : ℕ). take n s) f ∙ take-add a (e - a) s

not_same : (x y : List ℕ) → same x y ≡ false → x ≡ y → ⊥
not_same x y f e = let t : same x y ≡ true = rw e (same_self y) in true≢false (sym t ∙ f)

-- a chunk and where the one before it ends
chunk_next : (h k : ℕ) (code : List ℕ) → chunk_of h (suc k) code ≡ between (131072 * k - h) (131072 * suc k - h) code
chunk_next h k code = let e : suc k - 1 ≡ k = omega arith in ap (λ (n : ℕ). between (131072 * n - h) (131072 * suc k - h) code) e

-- ---- the chunks of two codes, one after another

module _ (digest : List ℕ → List ℕ) (h : ℕ) (code other : List ℕ) (long : length code ≡ length other) (most : length code + h ≤ 2097152)
    (digests : (k : ℕ) → 1 ≤ k → k ≤ 16 → 131072 * (k - 1) - h < length code → digest (chunk_of h k code) ≡ digest (chunk_of h k other)) where
  -- no chunk before k differs
  abbrev SameBefore : ℕ → Type 0
  SameBefore k = (j : ℕ) → 1 ≤ j → j < k → chunk_of h j code ≡ chunk_of h j other

  start_same : (k : ℕ) → SameBefore (suc k) → take (131072 * k - h) code ≡ take (131072 * k - h) other
  start_same zero p = let e : 131072 * 0 - h ≡ 0 = omega arith in rw e
  start_same (suc k) p =
      let l : 131072 * k - h ≤ 131072 * suc k - h = omega arith in
      take_between (131072 * k - h) (131072 * suc k - h) code l
      ∙ ap₂ (λ (x y : List ℕ). x ++ y) (start_same k (λ j g f. p j g (omega arith))) (sym (chunk_next h k code) ∙ p (suc k) (omega arith) (omega arith) ∙ chunk_next h k other)
      ∙ sym (take_between (131072 * k - h) (131072 * suc k - h) other l)

  all_same : SameBefore 17 → code ≡ other
  all_same p = sym (take_all (131072 * 16 - h) code (omega arith)) ∙ start_same 16 p ∙ take_all (131072 * 16 - h) other (omega arith)

  -- the digests of a chunk agree, since those behind the code's end hold nothing
  same_digests : (k : ℕ) → 1 ≤ k → k ≤ 16 → digest (chunk_of h k code) ≡ digest (chunk_of h k other)
  same_digests k l m =
      ⊎_elim
      (λ (u : 131072 * (k - 1) - h < length code). digests k l m u)
      (λ (u : length code ≤ 131072 * (k - 1) - h). ap digest (between_past _ _ code u ∙ sym (between_past _ _ other (omega arith))))
      (split (131072 * (k - 1) - h) (length code))

  module _ (Same : Type 0) (give : code ≡ other → Same) where
    found : (k n : ℕ) → 1 ≤ k → k + n ≡ 17 → SameBefore k → SameOrCollision Same digest h code other (difference_from h code other k n)
    unfolding difference_from
    found k zero l e p = give (all_same (λ j g f. p j g (omega arith)))
    found k (suc n) l e p = go (same (chunk_of h k code) (chunk_of h k other)) refl (λ r. found (suc k) n (omega arith) (omega arith) r)
      where
        go : (t : Bool) → same (chunk_of h k code) (chunk_of h k other) ≡ t
            → (SameBefore (suc k) → SameOrCollision Same digest h code other (difference_from h code other (suc k) n))
            → SameOrCollision Same digest h code other (lowest t k (chunk_of h k code) (chunk_of h k other) (difference_from h code other (suc k) n))
        go true q later =
            later
            (λ j g f. ⊎_elim (λ (x : j < k). p j g x) (λ (x : k ≤ j). let y : j ≡ k = omega arith in rw y (same_equal _ _ q)) (split j k))
        go false q later =
            record {
              least = l;
              most = omega arith;
              bytes = refl;
              other_bytes = refl;
              differ = not_same _ _ q;
              digests = same_digests k l (omega arith);
              lower = p;
            }

    pub one_code : OneCode Same digest h code other
    one_code = found 1 16 (omega arith) refl (λ j g f. absurd (omega arith))

-- ---- images: the same n bytes of headers, and code behind them

pub image_joined : (n m l k : ℕ) (b c : List ℕ) → take n b ≡ take m c → take l (drop n b) ≡ take k (drop m c) → take (n + l) b ≡ take (m + k) c
image_joined n m l k b c e f = take-add n l b ∙ ap₂ (λ (x y : List ℕ). x ++ y) e f ∙ sym (take-add m k c)

pub code_long : (n l : ℕ) (b : List ℕ) → n + l ≤ length b → length (take l (drop n b)) ≡ l
code_long n l b h = simp (length-take, length-drop) (omega arith)

pub one_image : (digest : List ℕ → List ℕ) (h n l m : ℕ) (b c : List ℕ) (Same : Type 0) → (take (n + l) b ≡ take (n + m) c → Same) → take n b ≡ take n c → l ≡ m → n + l ≤ length b
    → n + m ≤ length c → l + h ≤ 2097152
    → ((k : ℕ) → 1 ≤ k → k ≤ 16 → 131072 * (k - 1) - h < l → digest (chunk_of h k (take l (drop n b))) ≡ digest (chunk_of h k (take m (drop n c))))
    → OneCode Same digest h (take l (drop n b)) (take m (drop n c))
one_image digest h n l m b c Same give same e held kept most digests =
    let x = code_long n l b held in
    one_code digest h (take l (drop n b)) (take m (drop n c)) (x ∙ e ∙ sym (code_long n m c kept)) (omega arith) (λ k g f u. digests k g f (omega arith)) Same
    (λ f. give (image_joined n n l m b c same f))
