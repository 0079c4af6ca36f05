-- Bytes at a place, and the words that they are.
-- Assumes nothing.
use Rattle.std.proofs.Common.{◌≡◌, ℕ, zero, suc, ◌+◌, ◌-◌, ◌*◌, ◌/◌, ◌%◌, ◌^◌, ◌<◌, ◌≤◌, List, [], ◌∷◌, ◌++◌, length, take, drop, set, replicate, sym, refl, ap, ◌∙◌, append_assoc, append-nil, add-zero, add-one, arith, length-set, get_or-set_other, get_or-set_same, take_at, ext_get_or, drop_at, length-drop, get_or-drop, drop_of_length-le, w32, w64}
use Rattle.std.specs.Int.{from_be_bytes, to_be_bytes}
use Rattle.std.proofs.lemmas.List.{drop-replicate, take_all}
use Rattle.std.proofs.lemmas.Nat.{shr-shr}
use Rattle.std.proofs.lemmas.Slice.{take-put_mid}
use borrow.Rule.Slice.PartMut.{put_mid}
use native.Mathlib.Decide.{dec_le}
use lib.ListN.{length-replicate, get_or-replicate, get_or-append, get_or-eq_default}
use lib.Seq.{get_or_at}
use Rattle.octets.specs.Read.{bytes_at}
use Rattle.octets.proofs.Laws.{length_bytes_lem}
use Rattle.sha256.specs.Fips180.{at, word_of, bytes_of, length_bytes, words_of, block_at, serialised}

-- ---- bytes at a place

bytes_at_lem : (n : ℕ) (b : List ℕ) (i j : ℕ) → j < n → at (bytes_at n b i) j ≡ at b (i + j)
unfolding bytes_at
bytes_at_lem zero b i j h = absurd (omega arith)
bytes_at_lem (suc n) b i j h =
    elim (dec_le n j) [
      | yes y ↦ let e : j ≡ n = omega arith in rw e (get_or_at (bytes_at n b i) (at b (i + n)) [] 0 n (length_bytes_lem n b i))
      | no y ↦ get_or-append (bytes_at n b i) (at b (i + n) ∷ []) 0 j (omega (arith, length_bytes_lem n b i)) ∙ bytes_at_lem n b i j (omega arith)
    ]

-- bytes are those at a place if each of them is
pub bytes_are : (r b : List ℕ) (n i : ℕ) → length r ≡ n → ((j : ℕ) → j < n → at r j ≡ at b (i + j)) → r ≡ bytes_at n b i
bytes_are r b n i l h =
    ext_get_or 0 r (bytes_at n b i) (l ∙ sym (length_bytes_lem n b i)) (λ j g. h j (omega arith) ∙ sym (bytes_at_lem n b i j (omega arith)))

-- places that hold the same bytes
pub bytes_alike : (n : ℕ) (b : List ℕ) (i : ℕ) (c : List ℕ) (j : ℕ) → ((k : ℕ) → k < n → at b (i + k) ≡ at c (j + k)) → bytes_at n b i ≡ bytes_at n c j
bytes_alike n b i c j h = bytes_are (bytes_at n b i) c n j (length_bytes_lem n b i) (λ k g. bytes_at_lem n b i k g ∙ h k g)

pub bytes_split : (m n : ℕ) (b : List ℕ) (i : ℕ) → bytes_at (m + n) b i ≡ bytes_at m b i ++ bytes_at n b (i + m)
unfolding bytes_at
bytes_split m zero b i = let z : m + 0 ≡ m = omega arith in rw (z, append-nil)
bytes_split m (suc n) b i =
    let z : m + suc n ≡ suc (m + n) = omega arith in
    let y : i + (m + n) ≡ i + m + n = omega arith in
    rw (z, bytes_split m n b i, y) (append_assoc (bytes_at m b i) (bytes_at n b (i + m)) (at b (i + m + n) ∷ []))

-- past the end there are zeros
bytes_past : (n : ℕ) (b : List ℕ) (i : ℕ) → length b ≤ i → bytes_at n b i ≡ replicate n 0
bytes_past n b i h =
    sym (bytes_are (replicate n 0) b n i (length-replicate n 0) (λ j g. get_or-replicate n j 0 0 g ∙ sym (get_or-eq_default b 0 (omega arith))))

-- the last bytes, and zeros behind them
pub copied : {r : List ℕ} (s : List ℕ) (i : ℕ) → i < length s → length s < i + 64 → r ≡ take (length s - i) (drop i s)
    → r ++ drop (length (take (length s - i) (drop i s))) (replicate 64 0) ≡ bytes_at 64 s i
copied s i g h f =
    let n : ℕ = length s - i in
    let all : take n (drop i s) ≡ drop i s = take_all n (drop i s) (omega (arith, length-drop i s)) in
    let front : drop i s ≡ bytes_at n s i = bytes_are (drop i s) s n i (length-drop i s) (λ j l. get_or-drop i s j 0) in
    let back : drop n (replicate 64 0) ≡ bytes_at (64 - n) s (i + n) = drop-replicate n 64 0 ∙ sym (bytes_past (64 - n) s (i + n) (omega arith)) in
    let z : n + (64 - n) ≡ 64 = omega arith in
    rw (f, all, length-drop i s, back, front, ← bytes_split n (64 - n) s i, z)

-- no byte is left
pub none_left : (s : List ℕ) (i : ℕ) → length s ≤ i → replicate 64 0 ≡ bytes_at 64 s i
none_left s i h = sym (bytes_past 64 s i h)

-- the last eight bytes of 64 written
pub ended : {r : List ℕ} (b x : List ℕ) → length b ≡ 64 → r ≡ x → put_mid 56 8 b r ≡ take 56 b ++ x
ended b x l e = let none : drop 8 (drop 56 b) ≡ [] = drop_of_length-le (drop 56 b) {i = 8} (omega (arith, length-drop 56 b)) in rw (e, none, append-nil)

-- a byte at n of those from i on
pub bytes_set : {r : List ℕ} (s b : List ℕ) (n i x : ℕ) → i ≤ n → r ≡ set (bytes_at 64 s i) (n - i) x → at b n ≡ x → ((j : ℕ) → (j ≡ n → ⊥) → at s j ≡ at b j) → r ≡ bytes_at 64 b i
bytes_set {r} s b n i x h e f g = bytes_are r b 64 i long point
  where
    long : length r ≡ 64
    long = ap length e ∙ length-set (bytes_at 64 s i) (n - i) x ∙ length_bytes_lem 64 s i

    there : (j : ℕ) → j < 64 → j ≡ n - i → at r j ≡ at b (i + j)
    there j l z =
        let y : i + (n - i) ≡ n = omega arith in
        rw (e, z, y, f) (get_or-set_same (bytes_at 64 s i) (n - i) x 0 (omega (arith, length_bytes_lem 64 s i)))

    other : (j : ℕ) → j < 64 → (j ≡ n - i → ⊥) → at r j ≡ at b (i + j)
    other j l z = rw e (get_or-set_other (bytes_at 64 s i) (n - i) j x 0 z) ∙ bytes_at_lem 64 s i j l ∙ g (i + j) (λ y. z (omega arith))

    point : (j : ℕ) → j < 64 → at r j ≡ at b (i + j)
    point j l =
        elim (dec_le j (n - i)) [
          | yes y ↦ elim (dec_le (n - i) j) [ yes z ↦ there j l (omega arith) | no z ↦ other j l (λ o. omega arith) ]
          | no y ↦ other j l (λ o. omega arith)
        ]

-- ---- words

pub word_at : (s : List ℕ) (i : ℕ) → from_be_bytes w32 (at s i ∷ at s (i + 1) ∷ at s (i + 2) ∷ at s (i + 3) ∷ []) ≡ word_of (bytes_at 4 s i)
unfolding bytes_at
word_at s i = rw (add-zero i) (omega arith)

words_step : (n k : ℕ) (b : List ℕ) (i : ℕ) → words_of (suc n) (bytes_at (4 + k) b i) ≡ word_of (bytes_at 4 b i) ∷ words_of n (bytes_at k b (i + 4))
unfolding words_of
words_step n k b i =
    let l : length (bytes_at 4 b i) ≡ 4 = length_bytes_lem 4 b i in
    rw (bytes_split 4 k b i, take_at (bytes_at 4 b i) (bytes_at k b (i + 4)) 4 l, drop_at (bytes_at 4 b i) (bytes_at k b (i + 4)) 4 l)

words_none : (b : List ℕ) → words_of 0 b ≡ []
unfolding words_of
words_none b = refl

-- words and the words behind them
pub words_split : (m n : ℕ) (b : List ℕ) (i : ℕ) → words_of (m + n) (bytes_at (4 * (m + n)) b i) ≡ words_of m (bytes_at (4 * m) b i) ++ words_of n (bytes_at (4 * n) b (i + 4 * m))
words_split zero n b i =
    let z : 0 + n ≡ n = omega arith in
    let y : i + 4 * 0 ≡ i = omega arith in
    rw (z, y, words_none)
words_split (suc m) n b i =
    let z : suc m + n ≡ suc (m + n) = omega arith in
    let y : 4 * suc (m + n) ≡ 4 + 4 * (m + n) = omega arith in
    let x : 4 * suc m ≡ 4 + 4 * m = omega arith in
    let w : i + (4 + 4 * m) ≡ i + 4 + 4 * m = omega arith in
    rw (z, y, x, w, words_step (m + n) (4 * (m + n)) b i, words_step m (4 * m) b i, words_split m n b (i + 4))

-- four words, each by itself
pub four_words_at : (b : List ℕ) (i : ℕ)
    → words_of 4 (bytes_at 16 b i) ≡ word_of (bytes_at 4 b i) ∷ word_of (bytes_at 4 b (i + 4)) ∷ word_of (bytes_at 4 b (i + 8)) ∷ word_of (bytes_at 4 b (i + 12)) ∷ []
unfolding words_of
four_words_at b i =
    let y : i + 4 + 4 ≡ i + 8 = omega arith in
    let z : i + 8 + 4 ≡ i + 12 = omega arith in
    rw (words_step 3 12 b i, words_step 2 8 b (i + 4), y, words_step 1 4 b (i + 8), z, words_step 0 0 b (i + 12))

-- sixteen words, four by four
pub four_fours_at : (b : List ℕ) (i : ℕ)
    → words_of 16 (bytes_at 64 b i) ≡ words_of 4 (bytes_at 16 b i) ++ (words_of 4 (bytes_at 16 b (i + 16)) ++ (words_of 4 (bytes_at 16 b (i + 32)) ++ words_of 4 (bytes_at 16 b (i + 48))))
four_fours_at b i =
    let y : i + 16 + 16 ≡ i + 32 = omega arith in
    let z : i + 32 + 16 ≡ i + 48 = omega arith in
    rw (words_split 4 12 b i, words_split 4 8 b (i + 16), y, words_split 4 4 b (i + 32), z)

-- ---- words as bytes

-- the bytes of the first n words
unfoldable pub spelt : List ℕ → ℕ → List ℕ
spelt h zero = []
spelt h (suc n) = spelt h n ++ bytes_of (at h n)

pub spelt_none : (h : List ℕ) → [] ≡ spelt h 0
unfolding spelt
spelt_none h = refl

-- one word more, written behind those
pub spelt_more : (r h ys : List ℕ) (n k : ℕ) → take (4 * n) r ≡ spelt h n → 4 * n ≤ length r → ys ≡ to_be_bytes w32 (at h n)
    → take (4 * (n + 1)) (put_mid (4 * n) k r ys) ≡ spelt h (n + 1)
unfolding spelt bytes_of
spelt_more r h ys n k e l f =
    let m : length ys ≡ 4 = rw f refl in
    let front : take (4 * (n + 1)) (put_mid (4 * n) k r ys) ≡ take (4 * n) r ++ ys = take-put_mid (4 * n) k r ys (4 * (n + 1)) (omega arith) l in
    rw (front, e, f, add-one) refl

pub spelt_all : (h : List ℕ) → spelt h 8 ≡ serialised h
unfolding spelt serialised
spelt_all h = refl

-- a number as eight bytes, and as two words
two_words : (m : ℕ) → to_be_bytes w64 m ≡ bytes_of (m / 2 ^ 32) ++ bytes_of (m % 2 ^ 32)
unfolding bytes_of
two_words m =
    let a : m / 2 ^ 32 / 16777216 ≡ m / 2 ^ 56 = shr-shr m 32 24 in
    let b : m / 2 ^ 32 / 65536 ≡ m / 2 ^ 48 = shr-shr m 32 16 in
    let c : m / 2 ^ 32 / 256 ≡ m / 2 ^ 40 = shr-shr m 32 8 in
    let d : m % 2 ^ 32 / 16777216 % 256 ≡ m / 2 ^ 24 % 256 = omega arith in
    let e : m % 2 ^ 32 / 65536 % 256 ≡ m / 2 ^ 16 % 256 = omega arith in
    let f : m % 2 ^ 32 / 256 % 256 ≡ m / 2 ^ 8 % 256 = omega arith in
    let g : m % 2 ^ 32 % 256 ≡ m % 256 = omega arith in
    cc

-- the length in bits
pub length_told : (n : ℕ) → to_be_bytes w64 (n * 8 % 2 ^ 64) ≡ length_bytes n
length_told n =
    let h : 8 * n / 2 ^ 32 % 2 ^ 32 ≡ n * 8 % 2 ^ 64 / 2 ^ 32 = omega arith in
    let l : 8 * n % 2 ^ 32 ≡ n * 8 % 2 ^ 64 % 2 ^ 32 = omega arith in
    rw (h, l) (two_words (n * 8 % 2 ^ 64))

-- ---- blocks

pub block_alike : (b : List ℕ) (i : ℕ) (c : List ℕ) (j : ℕ) → ((k : ℕ) → k < 64 → at b (i + k) ≡ at c (j + k)) → block_at b i ≡ block_at c j
unfolding block_at
block_alike b i c j h = ap (words_of 16) (bytes_alike 64 b i c j h)
