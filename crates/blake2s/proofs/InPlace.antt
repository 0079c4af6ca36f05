-- Blocks that are mixed where they lie: how many there are, and the digest as a fold over all blocks.
-- Assumes nothing.
use Rattle.std.proofs.Common.{◌≡◌, ℕ, zero, suc, ◌+◌, ◌-◌, ◌*◌, ◌/◌, ◌<◌, ◌≤◌, true, false, List, [], ◌∷◌, ◌++◌, length, take, drop, replicate, sym, refl, ap, ◌∙◌, arith, get_or-drop, drop-drop, get_or-append-add, le-ltb, lt-ltb, le-leb}
use native.Mathlib.Decide.{dec_le}
use lib.ListN.{get_or-append}
use borrow.Author.Tests.{lt-leb}
use Rattle.blake2s.specs.Rfc7693.{at, F, word_at, four_at, block_at, block_count, is_last, counter, absorbed, initial, serialised, blake2s_of}
use Rattle.blake2s.specs.Parts.{whole_blocks}
use Rattle.blake2s.specs.Theorems.{little_endian, words_of, mixed_before, BlocksInPlace}
use Rattle.blake2s.proofs.Laws.{word_alike, block_alike, padded, resumed}

-- ---- how many blocks lie whole

-- they fit into the lent bytes and end at stop or before it
pub whole_fits : {r : ℕ} (len skip at stop : ℕ) → r ≡ whole_blocks len skip at stop → (r ≤ (stop - at) / 64) × (64 * r ≤ len - (at - skip)) × (0 < r → skip ≤ at)
unfolding whole_blocks
whole_fits len skip at stop e =
    elim (dec_le skip at) [
      | yes y ↦ let z = rw (le-ltb at skip y) at e in (omega arith, omega arith, λ g. y)
      | no y ↦ let z = rw (lt-ltb at skip (omega arith)) at e in (omega arith, omega arith, λ g. omega arith)
    ]

lent_whole : (len skip at stop j : ℕ) → skip ≤ at → at - skip + 64 * j + 64 ≤ len → at + 64 * j + 64 ≤ stop → j < whole_blocks len skip at stop
unfolding whole_blocks
lent_whole len skip at stop j h l e = rw (le-ltb at skip h) (omega arith)

-- a block behind the run reaches past the end of the lent bytes
pub past_whole : {r : ℕ} (len skip from end k : ℕ) → r ≡ whole_blocks len skip (64 * from) (64 * end) → skip ≤ 64 * from → from + r ≤ k → k < end → len < 64 * k - skip + 64
past_whole len skip from end k e p g h =
    elim (dec_le (64 * k - skip + 64) len) [
      | yes y ↦ let z : k - from < whole_blocks len skip (64 * from) (64 * end) = lent_whole len skip (64 * from) (64 * end) (k - from) p (omega arith) (omega arith) in absurd (omega arith)
      | no n ↦ omega arith
    ]

whole_lent : (len skip at stop j : ℕ) → j < whole_blocks len skip at stop → (skip ≤ at) × (at - skip + 64 * j + 64 ≤ len) × (at + 64 * j + 64 ≤ stop)
whole_lent len skip at stop j h =
    let f = whole_fits len skip at stop refl in
    (f.2 (omega arith), omega (arith, f.1), omega (arith, f.0))

-- ---- a block by itself

-- a word as a number
word_number : (b : List ℕ) → little_endian (take 4 b) ≡ word_at b 0
unfolding little_endian word_at
word_number [] = refl
word_number (w ∷ []) = omega arith
word_number (w ∷ x ∷ []) = omega arith
word_number (w ∷ x ∷ y ∷ []) = omega arith
word_number (w ∷ x ∷ y ∷ z ∷ b) = omega arith

-- the word at i, and n words behind it
next_word : (n : ℕ) (d : List ℕ) (i j : ℕ) → j ≡ i + 4 → words_of (suc n) (drop i d) ≡ word_at d i ∷ words_of n (drop j d)
unfolding words_of
next_word n d i j e =
    let a : word_at (drop i d) 0 ≡ word_at d i = word_alike (drop i d) 0 d i (λ k g. let z : 0 + k ≡ k = omega arith in rw z (get_or-drop i d k 0)) in
    rw (word_number (drop i d), a, drop-drop 4 i d, e)

next_four : (n : ℕ) (d : List ℕ) (i : ℕ) → words_of (suc (suc (suc (suc n)))) (drop i d) ≡ four_at d i ++ words_of n (drop (i + 16) d)
unfolding four_at
next_four n d i =
    rw (
      next_word (suc (suc (suc n))) d i (i + 4) refl,
      next_word (suc (suc n)) d (i + 4) (i + 8) (omega arith),
      next_word (suc n) d (i + 8) (i + 12) (omega arith),
      next_word n d (i + 12) (i + 16) (omega arith),
    )

-- a block as words
block_words : (b : List ℕ) → block_at b 0 ≡ words_of 16 b
unfolding block_at four_at words_of
block_words b = sym (next_four 12 b 0 ∙ ap (λ (l : List ℕ). four_at b 0 ++ l) (next_four 8 b 16 ∙ ap (λ (l : List ℕ). four_at b 16 ++ l) (next_four 4 b 32 ∙ ap (λ (l : List ℕ). four_at b 32 ++ l) (next_four 0 b 48))))

block_anywhere : (p b q : List ℕ) → length b ≡ 64 → block_at (p ++ (b ++ q)) (length p) ≡ words_of 16 b
block_anywhere p b q l = block_alike (p ++ (b ++ q)) (length p) b 0 same ∙ block_words b
  where
    same : (k : ℕ) → k < 64 → at (p ++ (b ++ q)) (length p + k) ≡ at b (0 + k)
    same k g =
        let z : 0 + k ≡ k = omega arith in
        rw z (get_or-append-add p (b ++ q) k 0 ∙ get_or-append b q 0 k (omega arith))

block_padded : (p b : List ℕ) (z : ℕ) → length b + z ≡ 64 → block_at (p ++ b) (length p) ≡ words_of 16 (b ++ replicate z 0)
block_padded p b z l = block_alike (p ++ b) (length p) (b ++ replicate z 0) 0 same ∙ block_words (b ++ replicate z 0)
  where
    same : (k : ℕ) → k < 64 → at (p ++ b) (length p + k) ≡ at (b ++ replicate z 0) (0 + k)
    same k g =
        let y : 0 + k ≡ k = omega arith in
        rw y (get_or-append-add p b k 0 ∙ sym (padded b z k))

-- ---- the digest by its blocks

-- the last of k + 1 blocks
absorbed_last : (m : ℕ → List ℕ) (n : ℕ) (h : List ℕ) (k : ℕ) → absorbed m n h 0 (k + 1) ≡ F (absorbed m n h 0 k) (m k) (counter n k) (is_last n k)
unfolding absorbed
absorbed_last m n h k = let z : 0 + k ≡ k = omega arith in rw z at (resumed m n h 0 k 1)

-- a byte behind the first k blocks: none of them is the last
before_last : (d : List ℕ) (k : ℕ) → (0 < k → 64 * k < length d) → absorbed (λ j. block_at d (64 * j)) (length d) initial 0 k ≡ mixed_before d k
unfolding absorbed mixed_before
before_last d zero h = refl
before_last d (suc k) h =
    let l : 64 * k + 64 < length d = let g = h (omega arith) in omega arith in
    let z : k + 1 ≡ suc k = omega arith in
    let t : counter (length d) k ≡ 64 * k + 64 = omega arith in
    let f : is_last (length d) k ≡ false = lt-leb (length d) (64 * k + 64) l in
    rw (t, f, before_last d k (λ g. omega arith), z) at (absorbed_last (λ j. block_at d (64 * j)) (length d) initial k)

fold_of_blocks : (d : List ℕ) (k : ℕ) → (0 < k → 64 * k < length d) → length d ≤ 64 * k + 64 → blake2s_of d ≡ serialised (F (mixed_before d k) (block_at d (64 * k)) (length d) true)
unfolding blake2s_of
fold_of_blocks d k h l =
    let c : block_count (length d) ≡ k + 1 = elim (dec_le 1 k) [ yes y ↦ let g = h y in omega arith | no y ↦ omega arith ] in
    let t : counter (length d) k ≡ length d = omega arith in
    let f : is_last (length d) k ≡ true = le-leb (length d) (64 * k + 64) l in
    ap serialised (rw c (rw (t, f, before_last d k h) at (absorbed_last (λ j. block_at d (64 * j)) (length d) initial k)))

pub blocks_in_place : BlocksInPlace
blocks_in_place = record {
  anywhere = block_anywhere;
  padded = block_padded;
  fold = fold_of_blocks;
  lent = lent_whole;
  whole = whole_lent;
}
