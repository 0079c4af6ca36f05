-- Laws of the definition that the proofs cite: rounds, blocks, and messages whose bytes do not lie together.
-- Assumes nothing.
use Rattle.std.proofs.Common.{◌≡◌, ℕ, zero, suc, ◌+◌, ◌-◌, ◌*◌, ◌<◌, ◌≤◌, min, Bool, List, [], ◌∷◌, ◌++◌, length, get_or, take, drop, replicate, sym, refl, ap, ◌∙◌, add-zero, arith, length-append, length-drop, length-take-le, get_or-drop, get_or-take, get_or-append-add, le-ltb, lt-ltb}
use native.Mathlib.Nat.{sub-zero}
use lib.ListN.{length-replicate, get_or-append, get_or-eq_default}
use lib.Seq.{paste, length_paste_head}
use native.Mathlib.Decide.{dec_le}
use Rattle.blake2s.specs.Rfc7693.{at, columns, diagonals, round, rounds, work_vector, folded, SIGMA, F, word_at, four_at, block_at, block_count, is_last, counter, absorbed, initial, serialised, blake2s_of}
use Rattle.blake2s.specs.Parts.{block_of, run_at, zero_tailed}
use Rattle.blake2s.specs.Theorems.{Resumable}

-- ---- rounds

-- the halves of a round by a row s of SIGMA
abbrev columns_by : List ℕ → List ℕ → List ℕ → List ℕ
columns_by v m s = columns v (at m (at s 0)) (at m (at s 1)) (at m (at s 2)) (at m (at s 3)) (at m (at s 4)) (at m (at s 5)) (at m (at s 6)) (at m (at s 7))

abbrev diagonals_by : List ℕ → List ℕ → List ℕ → List ℕ
diagonals_by v m s = diagonals v (at m (at s 8)) (at m (at s 9)) (at m (at s 10)) (at m (at s 11)) (at m (at s 12)) (at m (at s 13)) (at m (at s 14)) (at m (at s 15))

-- one round more, by its two halves
pub ran : {w x y : List ℕ} (v m s : List ℕ) (rows : List (List ℕ)) → w ≡ columns_by v m s → x ≡ diagonals_by w m s → y ≡ rounds x m rows → y ≡ rounds v m (s ∷ rows)
unfolding round rounds
ran v m s rows p q r = r ∙ ap (λ (u : List ℕ). rounds u m rows) (q ∙ ap (λ (u : List ℕ). diagonals_by u m s) p)

-- no round more
pub none : (v m : List ℕ) → v ≡ rounds v m []
unfolding rounds
none v m = refl

-- the compression, by what its parts give
pub compressed : {r u v : List ℕ} (h m : List ℕ) (t : ℕ) (f : Bool) → u ≡ work_vector h t f → r ≡ folded h v → v ≡ rounds u m SIGMA → r ≡ F h m t f
unfolding F
compressed h m t f p q e = q ∙ ap (folded h) (e ∙ ap (λ (w : List ℕ). rounds w m SIGMA) p)

-- ---- the loop over the blocks

-- no block
pub absorbed_none : (m : ℕ → List ℕ) (n : ℕ) (h : List ℕ) (k : ℕ) → h ≡ absorbed m n h k 0
unfolding absorbed
absorbed_none m n h k = refl

-- blocks that are the same give the same state
absorbed_same : (b c : ℕ → List ℕ) (n : ℕ) (h : List ℕ) (k left : ℕ) → ((j : ℕ) → k ≤ j → j < k + left → b j ≡ c j) → absorbed b n h k left ≡ absorbed c n h k left
unfolding absorbed
absorbed_same b c n h k zero e = refl
absorbed_same b c n h k (suc left) e =
    rw (e k (omega arith) (omega arith)) (absorbed_same b c n (F h (c k) (counter n k) (is_last n k)) (suc k) left (λ j g l. e j (omega arith) (omega arith)))

-- hashing goes on from the state after the first a blocks
pub resumed : Resumable
unfolding absorbed
resumed m n h k zero b =
    let p : 0 + b ≡ b = omega arith in
    let q : k + 0 ≡ k = omega arith in
    rw (p, q)
resumed m n h k (suc a) b =
    let p : suc a + b ≡ suc (a + b) = omega arith in
    let q : k + suc a ≡ suc k + a = omega arith in
    rw (p, q) (resumed m n (F h (m k) (counter n k) (is_last n k)) (suc k) a b)

-- one block more
pub absorbed_more : {r s b : List ℕ} {t : ℕ} {f : Bool} (m : ℕ → List ℕ) (n : ℕ) (h : List ℕ) (k j : ℕ) → s ≡ absorbed m n h k j
    → b ≡ m (k + j) → t ≡ counter n (k + j) → f ≡ is_last n (k + j) → r ≡ F s b t f → r ≡ absorbed m n h k (j + 1)
unfolding absorbed
absorbed_more m n h k j o p q u e = e ∙ rw (o, p, q, u) (sym (resumed m n h k j 1))

-- count blocks more
pub absorbed_on : {r s : List ℕ} (b m : ℕ → List ℕ) (n : ℕ) (h : List ℕ) (from k count : ℕ) → from ≤ k → ((j : ℕ) → k ≤ j → j < k + count → b j ≡ m j)
    → s ≡ absorbed m n h from (k - from) → r ≡ absorbed b n s k count → r ≡ absorbed m n h from (k + count - from)
absorbed_on b m n h from k count l e p q =
    let z : k + count - from ≡ k - from + count = omega arith in
    let y : from + (k - from) ≡ k = omega arith in
    q ∙ absorbed_same b m n _ k count e ∙ rw z (sym (rw (y, ← p) at (resumed m n h from (k - from) count)))

-- ---- words and blocks at places that hold the same bytes

-- the bytes of d from i on are those of e from j on, len of them
abbrev Alike : List ℕ → ℕ → List ℕ → ℕ → ℕ → Type 0
Alike d i e j len = (k : ℕ) → k < len → at d (i + k) ≡ at e (j + k)

-- a part of them
alike_part : (d : List ℕ) (i : ℕ) (e : List ℕ) (j len m n : ℕ) → m + n ≤ len → Alike d i e j len → Alike d (i + m) e (j + m) n
alike_part d i e j len m n l h k g =
    let p : i + m + k ≡ i + (m + k) = omega arith in
    let q : j + m + k ≡ j + (m + k) = omega arith in
    rw (p, q) (h (m + k) (omega arith))

pub word_alike : (d : List ℕ) (i : ℕ) (e : List ℕ) (j : ℕ) → Alike d i e j 4 → word_at d i ≡ word_at e j
unfolding word_at
word_alike d i e j h =
    let p : at d i ≡ at e j = rw (add-zero, add-zero) at (h 0 (omega arith)) in
    rw (p, h 1 (omega arith), h 2 (omega arith), h 3 (omega arith))

four_alike : (d : List ℕ) (i : ℕ) (e : List ℕ) (j : ℕ) → Alike d i e j 16 → four_at d i ≡ four_at e j
unfolding four_at
four_alike d i e j h =
    rw (
      word_alike d i e j (λ k g. h k (omega arith)),
      word_alike d (i + 4) e (j + 4) (alike_part d i e j 16 4 4 (omega arith) h),
      word_alike d (i + 8) e (j + 8) (alike_part d i e j 16 8 4 (omega arith) h),
      word_alike d (i + 12) e (j + 12) (alike_part d i e j 16 12 4 (omega arith) h),
    )

pub block_alike : (d : List ℕ) (i : ℕ) (e : List ℕ) (j : ℕ) → Alike d i e j 64 → block_at d i ≡ block_at e j
unfolding block_at
block_alike d i e j h =
    rw (
      four_alike d i e j (λ k g. h k (omega arith)),
      four_alike d (i + 16) e (j + 16) (alike_part d i e j 64 16 16 (omega arith) h),
      four_alike d (i + 32) e (j + 32) (alike_part d i e j 64 32 16 (omega arith) h),
      four_alike d (i + 48) e (j + 48) (alike_part d i e j 64 48 16 (omega arith) h),
    )

-- ---- a block copied together

-- what stands in d before, in and behind the n bytes of s that are copied over it at an offset
module _ (d s : List ℕ) (at n : ℕ) (room : at + n ≤ length d) (there : n ≤ length s) where
  head_length : length (take at d) ≡ at
  head_length = length-take-le at d (omega arith)

  both_length : length (take at d ++ take n s) ≡ at + n
  both_length = length_paste_head d at s n (omega arith) there

  pub copied_before : (k : ℕ) → k < at → get_or (paste d at s n) k 0 ≡ get_or d k 0
  copied_before k h =
      get_or-append (take at d ++ take n s) (drop (at + n) d) 0 k (omega (arith, both_length))
      ∙ get_or-append (take at d) (take n s) 0 k (omega (arith, head_length))
      ∙ get_or-take at d k 0 h

  pub copied_in : (k : ℕ) → k < n → get_or (paste d at s n) (at + k) 0 ≡ get_or s k 0
  copied_in k h =
      get_or-append (take at d ++ take n s) (drop (at + n) d) 0 (at + k) (omega (arith, both_length))
      ∙ ap (λ (i : ℕ). get_or (take at d ++ take n s) (i + k) 0) (sym head_length)
      ∙ get_or-append-add (take at d) (take n s) k 0
      ∙ get_or-take n s k 0 h

  pub copied_behind : (k : ℕ) → get_or (paste d at s n) (at + n + k) 0 ≡ get_or d (at + n + k) 0
  copied_behind k =
      ap (λ (i : ℕ). get_or (paste d at s n) (i + k) 0) (sym both_length)
      ∙ get_or-append-add (take at d ++ take n s) (drop (at + n) d) k 0
      ∙ get_or-drop (at + n) d k 0

zeros_at : (n k : ℕ) → ◌≡◌ {A = ℕ} (get_or (replicate n 0) k 0) 0
zeros_at zero k = refl
zeros_at (suc n) zero = refl
zeros_at (suc n) (suc k) = zeros_at n k

-- the bytes of s from i on, copied over zeros
pub block_copied : {c r : List ℕ} {n : ℕ} (s : List ℕ) (i : ℕ) → r ≡ drop i s → n ≡ min (length r) 64 → c ≡ paste (replicate 64 0) 0 r n → block_at c 0 ≡ block_at s i
block_copied {c} {r} {n} s i e l q = block_alike c 0 s i (λ k g. elim (dec_le n k) [ yes y ↦ past k g y | no y ↦ here k (omega arith) ])
  where
    long : length r ≡ length s - i
    long = ap length e ∙ length-drop i s

    room : 0 + n ≤ length (replicate {A = ℕ} 64 0)
    room = omega (arith, length-replicate {A = ℕ} 64 0)

    here : (k : ℕ) → k < n → at c (0 + k) ≡ at s (i + k)
    here k y = rw q (copied_in (replicate 64 0) r 0 n room (omega arith) k y) ∙ ap (λ (x : List ℕ). get_or x k 0) e ∙ get_or-drop i s k 0

    past : (k : ℕ) → k < 64 → n ≤ k → at c (0 + k) ≡ at s (i + k)
    past k g y =
        let z : 0 + k ≡ 0 + n + (k - n) = omega arith in
        rw (q, z) (copied_behind (replicate 64 0) r 0 n room (omega arith) (k - n)) ∙ zeros_at 64 (0 + n + (k - n)) ∙ sym (get_or-eq_default s 0 (omega (arith, long)))

-- ---- the blocks of a message

-- a block that stands apart
pub block_apart : (first s : List ℕ) (skip k : ℕ) → 64 * k < skip → block_at first 0 ≡ block_of first s skip k
block_apart first s skip k h = rw (lt-ltb _ _ h)

-- a block that stands in s
pub block_in : (first s : List ℕ) (skip k : ℕ) → skip ≤ 64 * k → block_at s (64 * k - skip) ≡ block_of first s skip k
block_in first s skip k h = rw (le-ltb _ _ h)

-- a run of blocks in s
pub run_in : (first s : List ℕ) (skip k : ℕ) → skip ≤ 64 * k → (j : ℕ) → k ≤ j → run_at s (64 * k - skip) k j ≡ block_of first s skip j
run_in first s skip k h j g =
    let y : skip ≤ 64 * j = omega arith in
    let z : 64 * k - skip + 64 * (j - k) ≡ 64 * j - skip = omega arith in
    rw (le-ltb (64 * j) skip y, z)

-- one block by itself
pub run_one : (c : List ℕ) (m : ℕ → List ℕ) (k : ℕ) → block_at c 0 ≡ m k → (j : ℕ) → k ≤ j → j < k + 1 → run_at c 0 k j ≡ m j
run_one c m k e j g h =
    let z : j ≡ k = omega arith in
    let y : 0 + 64 * (k - k) ≡ 0 = omega arith in
    rw (z, y) e

-- ---- a message of some bytes w, those of s, and 65 zeros

-- zeros past the end change nothing that is read
pub padded : (s : List ℕ) (z j : ℕ) → get_or (s ++ replicate z 0) j 0 ≡ get_or s j 0
padded [] zero j = refl
padded [] (suc z) zero = refl
padded [] (suc z) (suc j) = padded [] z j
padded (x ∷ s) z zero = refl
padded (x ∷ s) z (suc j) = padded s z j

module _ (w s : List ℕ) where
  abbrev message : List ℕ
  message = w ++ zero_tailed s

  message_at : (j : ℕ) → at message (length w + j) ≡ at s j
  message_at j = get_or-append-add w (zero_tailed s) j 0 ∙ padded s 65 j

  message_length : length message ≡ length w + length s + 65
  message_length = omega (arith, length-append w (zero_tailed s), length-append s (replicate 65 0), length-replicate {A = ℕ} 65 0)

  -- what the message holds from i on, behind w, is what s holds
  message_alike : (i j len : ℕ) → i ≡ length w + j → Alike message i s j len
  message_alike i j len e k g =
      let p : i + k ≡ length w + (j + k) = omega arith in
      rw p (message_at (j + k))

  message_block : (first : List ℕ) (skip : ℕ) → length w ≡ skip → skip ≤ 64 → (0 < skip → block_at first 0 ≡ block_at message 0) → (k : ℕ)
      → block_of first s skip k ≡ block_at message (64 * k)
  message_block first skip l h f k = elim (dec_le skip (64 * k)) [ yes y ↦ later y | no y ↦ earlier (omega arith) ]
    where
      later : skip ≤ 64 * k → block_of first s skip k ≡ block_at message (64 * k)
      later y = rw (le-ltb (64 * k) skip y) (sym (block_alike message (64 * k) s (64 * k - skip) (message_alike (64 * k) (64 * k - skip) 64 (omega arith))))

      earlier : 64 * k < skip → block_of first s skip k ≡ block_at message (64 * k)
      earlier y = let z : 64 * k ≡ 0 = omega arith in rw (lt-ltb (64 * k) skip y, z) (f (omega arith))

  -- the digest, by the loop over its blocks
  pub message_hashed : {r : List ℕ} {n skip : ℕ} (first : List ℕ) → length w ≡ skip → skip ≤ 64 → n ≡ skip + length s + 65 → (0 < skip → block_at first 0 ≡ block_at message 0)
      → r ≡ serialised (absorbed (block_of first s skip) n initial 0 (block_count n)) → r ≡ blake2s_of message
  unfolding blake2s_of
  message_hashed {skip = skip} first l b q p e =
      let t : length message ≡ skip + length s + 65 = omega (arith, message_length) in
      e ∙ ap serialised (rw (q, t) (absorbed_same _ _ _ _ _ _ (λ k g h. message_block first skip l b p k)))

  -- its first block, copied together behind a word
  pub word_block : {a c : List ℕ} {n : ℕ} → length w ≡ 4 → n ≡ min (length s) 60 → a ≡ paste (replicate 64 0) 0 w 4 → length a ≡ 64 → c ≡ paste a 4 s n → block_at c 0 ≡ block_at message 0
  word_block {a} {c} {n} l m e la f = block_alike c 0 message 0 (λ k g. elim (dec_le 4 k) [ yes y ↦ elim (dec_le (4 + n) k) [ yes z ↦ past k g z | no z ↦ here k y (omega arith) ] | no y ↦ first k (omega arith) ])
    where
      room : 0 + 4 ≤ length (replicate {A = ℕ} 64 0)
      room = omega (arith, length-replicate {A = ℕ} 64 0)

      behind : 4 + n ≤ length a
      behind = omega arith

      there : n ≤ length s
      there = omega arith

      first : (k : ℕ) → k < 4 → at c (0 + k) ≡ at message (0 + k)
      first k h =
          let z : 0 + k ≡ k = omega arith in
          rw (z, f)
          (copied_before a s 4 n behind there k h
          ∙ rw e (ap (λ (i : ℕ). get_or (paste (replicate 64 0) 0 w 4) i 0) (sym z) ∙ copied_in (replicate 64 0) w 0 4 room (omega arith) k h)
          ∙ sym (get_or-append w (zero_tailed s) 0 k (omega arith)))

      here : (k : ℕ) → 4 ≤ k → k < 4 + n → at c (0 + k) ≡ at message (0 + k)
      here k y h =
          let z : 0 + k ≡ 4 + (k - 4) = omega arith in
          let v : 4 + (k - 4) ≡ length w + (k - 4) = omega arith in
          rw (z, f) (copied_in a s 4 n behind there (k - 4) (omega arith) ∙ sym (ap (at message) v ∙ message_at (k - 4)))

      -- past the bytes of s the message has zeros
      past : (k : ℕ) → k < 64 → 4 + n ≤ k → at c (0 + k) ≡ at message (0 + k)
      past k g h =
          let z : 0 + k ≡ 4 + n + (k - (4 + n)) = omega arith in
          let y : 4 + n + (k - (4 + n)) ≡ 0 + 4 + (k - 4) = omega arith in
          let v : 4 + n + (k - (4 + n)) ≡ length w + (k - 4) = omega arith in
          rw (z, f)
          (copied_behind a s 4 n behind there (k - (4 + n))
          ∙ ap (at a) y
          ∙ rw e (copied_behind (replicate 64 0) w 0 4 room (omega arith) (k - 4))
          ∙ zeros_at 64 (0 + 4 + (k - 4))
          ∙ sym (ap (at message) v ∙ message_at (k - 4) ∙ get_or-eq_default s 0 (omega arith)))

-- ---- a message that lies together

plain_block : (first d : List ℕ) (k : ℕ) → block_of first d 0 k ≡ block_at d (64 * k)
plain_block first d k = let z : 0 ≤ 64 * k = omega arith in rw (le-ltb (64 * k) 0 z, sub-zero)

pub plain_hashed : {r : List ℕ} (first d : List ℕ) → r ≡ serialised (absorbed (block_of first d 0) (length d) initial 0 (block_count (length d))) → r ≡ blake2s_of d
unfolding blake2s_of
plain_hashed first d e = e ∙ ap serialised (absorbed_same _ _ _ _ _ _ (λ k g h. plain_block first d k))
