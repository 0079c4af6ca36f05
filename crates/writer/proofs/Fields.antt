-- One fact per kind of field: read where it stands behind other bytes, and split off the front of what is left, so that such splits chain.
-- Assumes nothing.
use mathlib.Core.Path.{◌≡◌, refl, sym, ap, ap₂, ◌∙◌}
use mathlib.Core.List.{List, [], ◌∷◌, ◌++◌}
use mathlib.Core.Bool.{true}
use Prim.Native.Nat.{ℕ, zero, suc, ◌+◌, ◌-◌, ◌≤◌, ◌<◌}
use native.Mathlib.Omega.{arith}
use native.Mathlib.Numerals.{add-one}
use lib.ListN.{length, get_or, take, drop, take-append-drop}
use lib.Seq.{drop-cons, drop-drop, take-add, get_or-append-add, drop-append-add, take_at, drop_at}
use lib.Dec.{eqb}
use borrow.Author.Tests.{eqb-true}
use Rattle.octets.specs.Read.{u16_at, u32_at, between, all_are, starts_with}
use Rattle.octets.specs.Put.{le16, le32, zeros}
use Rattle.octets.proofs.Laws.{and_left, and_right}
use Rattle.octets.proofs.Numbers.{bytes_of, halves_of, word_below}
use Rattle.image.proofs.Facts.{length_part}

-- ---- read behind other bytes p

pub byte_past : (p q : List ℕ) (n k : ℕ) → length p ≡ n → get_or (p ++ q) (n + k) 0 ≡ get_or q k 0
byte_past p q n k e = rw (← e) (get_or-append-add p q k 0)

pub word_past : (p q : List ℕ) (n k : ℕ) → length p ≡ n → u32_at (p ++ q) (n + k) ≡ u32_at q k
unfolding u32_at
word_past p q n k e =
    let g : (j : ℕ) → get_or (p ++ q) (n + k + j) 0 ≡ get_or q (k + j) 0 = λ j. ap (λ (i : ℕ). get_or (p ++ q) i 0) (assoc n k j) ∙ byte_past p q n (k + j) e in
    rw (byte_past p q n k e, g 1, g 2, g 3)
  where
    assoc : (a b c : ℕ) → a + b + c ≡ a + (b + c)
    assoc a b c = omega arith

pub part_past : (p q : List ℕ) (n a e : ℕ) → length p ≡ n → between (n + a) (n + e) (p ++ q) ≡ between a e q
unfolding between
part_past p q n a e h =
    let d : n + e - (n + a) ≡ e - a = omega arith in
    rw (d, ← h, drop-append-add p q a)

-- the part in the middle
pub part_is : (p s q : List ℕ) (a e : ℕ) → length p ≡ a → length s ≡ e - a → between a e (p ++ (s ++ q)) ≡ s
unfolding between
part_is p s q a e hp hs = rw (drop_at p (s ++ q) a hp) (take_at s q (e - a) hs)

pub zeros_are_zero : (n : ℕ) → all_are 0 (zeros n) ≡ true
unfolding zeros
zeros_are_zero zero = refl
zeros_are_zero (suc n) = zeros_are_zero n

-- ---- split off the front: what stands from a on is a field and what stands from e on

-- more behind a field that is split off
pub on : (x : List ℕ) {t u : List ℕ} → t ≡ u → x ++ t ≡ x ++ u
on x e = ap (λ (l : List ℕ). x ++ l) e

pub all_zero_is : (l : List ℕ) → all_are 0 l ≡ true → l ≡ zeros (length l)
unfolding zeros
all_zero_is [] h = refl
all_zero_is (x ∷ l) h =
    ap₂ (λ (y : ℕ) (r : List ℕ). y ∷ r) (eqb-true x 0 (and_left (eqb x 0) (all_are 0 l) h)) (all_zero_is l (and_right (eqb x 0) (all_are 0 l) h))

pub split_magic : (m l : List ℕ) → starts_with m l ≡ true → l ≡ m ++ drop (length m) l
split_magic [] l h = refl
split_magic (x ∷ m) [] h = cc
split_magic (x ∷ m) (y ∷ l) h =
    ap₂ (λ (z : ℕ) (r : List ℕ). z ∷ r) (eqb-true y x (and_left (eqb y x) (starts_with m l) h)) (split_magic m l (and_right (eqb y x) (starts_with m l) h))

module _ (b : List ℕ) where
  pub split_part : (a e : ℕ) → a ≤ e → drop a b ≡ between a e b ++ drop e b
  unfolding between
  split_part a e h =
      let k : a + (e - a) ≡ e = omega arith in
      sym (take-append-drop (e - a) (drop a b)) ∙ on (take (e - a) (drop a b)) (drop-drop (e - a) a b ∙ ap (λ (i : ℕ). drop i b) k)

  pub part_add : (a e g : ℕ) → a ≤ e → e ≤ g → between a e b ++ between e g b ≡ between a g b
  unfolding between
  part_add a e g h k =
      let x : e - a + (g - e) ≡ g - a = omega arith in
      let y : a + (e - a) ≡ e = omega arith in
      ap (λ (l : List ℕ). take (e - a) (drop a b) ++ take (g - e) l) (ap (λ (i : ℕ). drop i b) (sym y) ∙ sym (drop-drop (e - a) a b))
      ∙ sym (take-add (e - a) (g - e) (drop a b))
      ∙ ap (λ (i : ℕ). take i (drop a b)) x

  pub split_byte : (a e : ℕ) → e ≡ a + 1 → e ≤ length b → drop a b ≡ get_or b a 0 ∷ drop e b
  split_byte a e h k = rw (h, add-one a) (drop-cons b a 0 (omega arith))

  pub split_zeros : (a e n : ℕ) → e ≡ a + n → e ≤ length b → all_are 0 (between a e b) ≡ true → drop a b ≡ zeros n ++ drop e b
  split_zeros a e n h k z =
      split_part a e (omega arith) ∙ ap (λ (l : List ℕ). l ++ drop e b) (all_zero_is (between a e b) z ∙ ap zeros (length_part b a e n h k))

  module _ (bytes : (i : ℕ) → get_or b i 0 < 256) where
    pub split_word : (a e : ℕ) → e ≡ a + 4 → e ≤ length b → drop a b ≡ le32 (u32_at b a) ++ drop e b
    unfolding u32_at
    split_word a e h k =
        split_byte a (a + 1) refl (omega arith)
        ∙ on (get_or b a 0 ∷ []) (split_byte (a + 1) (a + 2) (omega arith) (omega arith)
        ∙ on (get_or b (a + 1) 0 ∷ []) (split_byte (a + 2) (a + 3) (omega arith) (omega arith)
        ∙ on (get_or b (a + 2) 0 ∷ []) (split_byte (a + 3) e (omega arith) k)))
        ∙ ap (λ (l : List ℕ). l ++ drop e b) (sym (bytes_of (get_or b a 0) (get_or b (a + 1) 0) (get_or b (a + 2) 0) (get_or b (a + 3) 0) (bytes a) (bytes (a + 1)) (bytes (a + 2)) (bytes (a + 3))))

    pub split_half : (a e : ℕ) → e ≡ a + 2 → e ≤ length b → drop a b ≡ le16 (u16_at b a) ++ drop e b
    unfolding u16_at
    split_half a e h k =
        split_byte a (a + 1) refl (omega arith)
        ∙ on (get_or b a 0 ∷ []) (split_byte (a + 1) e (omega arith) k)
        ∙ ap (λ (l : List ℕ). l ++ drop e b) (sym (halves_of (get_or b a 0) (get_or b (a + 1) 0) (bytes a) (bytes (a + 1))))

    pub word_small : (a : ℕ) → u32_at b a < 4294967296
    unfolding u32_at
    word_small a = word_below (get_or b a 0) (get_or b (a + 1) 0) (get_or b (a + 2) 0) (get_or b (a + 3) 0) (bytes a) (bytes (a + 1)) (bytes (a + 2)) (bytes (a + 3))
