-- Laws of the definitions of specs/Read.antt: parts, tests, masks.
-- Assumes nothing.
use mathlib.Core.Path.{◌≡◌, refl, sym, ap, ◌∙◌}
use mathlib.Core.List.{List, [], ◌∷◌, ◌++◌}
use mathlib.Core.Logic.{⊎_elim, ◌⊎◌, inl, inr}
use mathlib.Core.Bool.{Bool, true, false, ◌&&◌, ◌||◌, and-true, and_assoc}
use Prim.Native.Nat.{ℕ, zero, suc, min, ◌+◌, ◌-◌, ◌*◌, ◌^◌, ◌≤◌, ◌<◌}
use native.Mathlib.Numerals.{add-one}
use native.Mathlib.Omega.{arith}
use native.Mathlib.Nat.{pow-suc, zero-mul, suc-mul}
use lib.ListN.{length, get_or, take, drop, set, length-append, length-take, length-drop, take-append-drop}
use lib.Seq.{drop-drop, get_or-drop, take_all, take-suc, take-suc-set}
use lib.Pow.{pow_mono}
use lib.Dec.{ltb, eqb}
use lib.Count.{count_leading_zeros, leading_length}
use borrow.Author.Tests.{eqb-true, eq-eqb, lt-ltb, le-ltb, le-leb, lt-leb, ltb-true, ltb-false}
use Rattle.std.specs.List.{list_all, fold}
use Rattle.std.specs.Simd.{first_chunks}
use Rattle.std.specs.Cmp.Lexicographic.{pointwise}
use Rattle.std.specs.Prelude.{nat_eq}
use Rattle.std.proofs.lemmas.Bool.Decides.{nat_tests}
use Rattle.std.proofs.lemmas.Slice.{between_is}
use Rattle.octets.specs.Read.{between, bytes_at, all_are, starts_with, same, bit_at_or_above}

-- a number is below another, or it is not
pub split : (a b : ℕ) → (a < b) ⊎ (b ≤ a)
split a b = go (ltb a b) refl
  where
    go : (t : Bool) → ltb a b ≡ t → (a < b) ⊎ (b ≤ a)
    go true e = inl (ltb-true a b e)
    go false e = inr (ltb-false a b e)

-- both sides of a conjunction hold
pub and_left : (x y : Bool) → (x && y) ≡ true → x ≡ true
and_left true y h = refl
and_left false y h = h

pub and_right : (x y : Bool) → (x && y) ≡ true → y ≡ true
and_right true y h = h
and_right false y h = cc

-- one side of a disjunction holds
pub or_cases : (x y : Bool) → (x || y) ≡ true → (x ≡ true) ⊎ (y ≡ true)
or_cases true y h = inl refl
or_cases false y h = inr h

-- both sides of a disjunction fail
pub or_left : (x y : Bool) → (x || y) ≡ false → x ≡ false
or_left true y h = h
or_left false y h = refl

pub or_right : (x y : Bool) → (x || y) ≡ false → y ≡ false
or_right true y h = cc
or_right false y h = h

-- ---- parts

nothing : (l : List ℕ) → length l ≡ 0 → l ≡ []
nothing [] h = refl
nothing (x ∷ l) h = absurd (omega arith)

-- a part that ends before it begins, or begins past the end, is empty
pub between_none : (a e : ℕ) (s : List ℕ) → e ≤ a → between a e s ≡ []
unfolding between
between_none a e s h = nothing (between a e s) (simp (length-take, length-drop) (omega arith))

pub between_past : (a e : ℕ) (s : List ℕ) → length s ≤ a → between a e s ≡ []
unfolding between
between_past a e s h = nothing (between a e s) (simp (length-take, length-drop) (omega arith))

-- a part that would end past the end is all that there is
pub between_end : (a e : ℕ) (s : List ℕ) → length s ≤ e → between a e s ≡ drop a s
unfolding between
between_end a e s h = take_all (e - a) (drop a s) (rw length-drop (omega arith))

-- a part is the rest, from its start on, of the bytes up to its end
pub between_cut : {n : ℕ} {r : List ℕ} (a e : ℕ) (s : List ℕ) → n ≡ min e (length s) → r ≡ drop a (take n s) → r ≡ between a e s
unfolding between
between_cut {n} {r} a e s m h =
    let cut : take n s ≡ take e s = grind (arith, take_all) in
    rw (cut, ← between_is s a e) at h

-- a part that is one longer
pub between_more : (a n : ℕ) (s : List ℕ) → a + n < length s → between a (a + (n + 1)) s ≡ between a (a + n) s ++ (get_or s (a + n) 0 ∷ [])
unfolding between
between_more a n s h =
    let e : a + (n + 1) - a ≡ suc n = omega arith in
    let f : a + n - a ≡ n = omega arith in
    let l : n < length (drop a s) = rw length-drop (omega arith) in
    rw (e, f, take-suc (drop a s) n 0 l, get_or-drop a s n 0)

-- ---- what is left from an offset on

-- its byte j is byte a + j of all
pub byte_rest : {x : ℕ} {r : List ℕ} (s : List ℕ) (a j : ℕ) → r ≡ drop a s → x ≡ get_or r j 0 → x ≡ get_or s (a + j) 0
byte_rest s a j e f = f ∙ rw (e, get_or-drop a s j 0)

-- ---- the n bytes at an offset

-- they are n, and a part where there are so many
pub length_bytes_lem : (n : ℕ) (b : List ℕ) (at : ℕ) → length (bytes_at n b at) ≡ n
unfolding bytes_at
length_bytes_lem zero b at = refl
length_bytes_lem (suc n) b at = rw (length-append, length_bytes_lem n b at) (omega arith)

pub bytes_between : (n : ℕ) (b : List ℕ) (at : ℕ) → at + n ≤ length b → bytes_at n b at ≡ between at (at + n) b
unfolding bytes_at
bytes_between zero b at h = sym (between_none at (at + 0) b (omega arith))
bytes_between (suc n) b at h = rw (bytes_between n b at (omega arith), ← add-one n) (sym (between_more at n b (omega arith)))

-- an array that is filled up to j gets its byte j
pub byte_more : {x : ℕ} (d b : List ℕ) (at j : ℕ) → j < length d → take j d ≡ bytes_at j b at → x ≡ get_or b (at + j) 0 → take (j + 1) (set d j x) ≡ bytes_at (j + 1) b at
unfolding bytes_at
byte_more d b at j h e f = rw (add-one, take-suc-set d j _ h, e, f)

-- ---- every byte is x

-- of two lists, one after the other
pub all_append : (x : ℕ) (s t : List ℕ) → all_are x (s ++ t) ≡ (all_are x s && all_are x t)
all_append x [] t = refl
all_append x (y ∷ s) t = ap (λ (r : Bool). eqb y x && r) (all_append x s t) ∙ sym (and_assoc (eqb y x) (all_are x s) (all_are x t))

-- one by one, from an answer so far
pub fold_all : (x : ℕ) (b : Bool) (s : List ℕ) → fold (λ (all : Bool) y. all && nat_eq y x) b s ≡ (b && all_are x s)
fold_all x b [] = sym (and-true b)
fold_all x b (y ∷ s) = fold_all x (b && eqb y x) s ∙ and_assoc b (eqb y x) (all_are x s)

-- one by one, in std's words
pub list_all_are : (x : ℕ) (s : List ℕ) → list_all (λ y. nat_eq y x) s ≡ all_are x s
list_all_are x [] = refl
list_all_are x (y ∷ s) = ap (λ (r : Bool). eqb y x && r) (list_all_are x s)

-- in runs of n bytes, and then the rest
pub all_runs : (x n k : ℕ) (s : List ℕ) → (list_all (all_are x) (first_chunks n k s) && all_are x (drop (k * n) s)) ≡ all_are x s
all_runs x n zero s = rw (zero-mul n)
all_runs x n (suc k) s =
    let e : suc k * n ≡ n + k * n = rw (suc-mul) (omega arith) in
    rw (e, ← drop-drop (k * n) n s, and_assoc, all_runs x n k (drop n s), ← all_append x (take n s) (drop n s), take-append-drop n s)

-- the answers for the runs and for the rest are that for the whole
pub all_in_runs : {q r : Bool} {runs : List (List ℕ)} {tail : List ℕ} (x n k : ℕ) (s : List ℕ) → runs ≡ first_chunks n k s → tail ≡ drop (k * n) s
    → q ≡ list_all (all_are x) runs → r ≡ all_are x tail → (q && r) ≡ all_are x s
all_in_runs x n k s e f g h = rw (g, h, e, f) (all_runs x n k s)

-- ---- a magic stands at the start

-- a byte of each, in either order
same_test : (x y : ℕ) → eqb x y ≡ eqb y x
same_test x y = grind (arith, nat_tests)

-- std's test, of the magic and as many of the bytes
pub starts_is : (m s : List ℕ) → pointwise nat_eq m (take (length m) s) ≡ starts_with m s
starts_is [] s = refl
starts_is (x ∷ m) [] = refl
starts_is (x ∷ m) (y ∷ s) = rw (same_test x y) (ap (λ (r : Bool). eqb y x && r) (starts_is m s))

-- ---- two lists are the same

-- the answer true means equality
pub same_self : (a : List ℕ) → same a a ≡ true
same_self [] = refl
same_self (x ∷ a) = rw (eq-eqb x x refl) (same_self a)

pub same_equal : (a b : List ℕ) → same a b ≡ true → a ≡ b
same_equal [] [] h = refl
same_equal [] (y ∷ b) h = cc
same_equal (x ∷ a) [] h = cc
same_equal (x ∷ a) (y ∷ b) h =
    let p : x ≡ y = eqb-true x y (and_left (eqb x y) (same a b) h) in
    let q : a ≡ b = same_equal a b (and_right (eqb x y) (same a b) h) in
    cc

-- ---- masks

-- the highest set bit of a byte stands at 7 less its leading zeros
pub bit_is : (n x : ℕ) → x < 2 ^ 8 → ltb n (8 - count_leading_zeros 8 x) ≡ bit_at_or_above n x
unfolding bit_at_or_above
bit_is n x h =
    let t = leading_length 8 x h in
    ⊎_elim
    (λ (g : n < t.0).
    let p : 2 ^ suc n ≤ 2 ^ t.0 = pow_mono g in
    let q : 2 ^ suc n ≡ 2 ^ n * 2 = pow-suc 2 n in
    let l : n < 8 - count_leading_zeros 8 x = omega (arith, t.1) in
    let r : 2 ^ n ≤ x = omega (arith, t.3) in
    lt-ltb n (8 - count_leading_zeros 8 x) l ∙ sym (le-leb (2 ^ n) x r))
    (λ (g : t.0 ≤ n).
    let p : 2 ^ t.0 ≤ 2 ^ n = pow_mono g in
    let l : 8 - count_leading_zeros 8 x ≤ n = omega (arith, t.1) in
    let r : x < 2 ^ n = omega (arith, t.2) in
    le-ltb n (8 - count_leading_zeros 8 x) l ∙ sym (lt-leb (2 ^ n) x r))
    (split n t.0)
