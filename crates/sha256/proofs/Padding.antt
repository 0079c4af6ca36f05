-- The padded message by its bytes and blocks, and the digest by the loop over these.
-- Assumes nothing.
use Rattle.std.proofs.Common.{◌≡◌, ℕ, zero, suc, ◌+◌, ◌-◌, ◌*◌, ◌/◌, ◌<◌, ◌≤◌, true, List, [], ◌∷◌, ◌++◌, length, take, drop, set, replicate, sym, refl, ap, ◌∙◌, append_assoc, arith, length-append, take_at, get_or-append-add, drop_at}
use native.Mathlib.Decide.{dec_le}
use lib.ListN.{length-replicate, get_or-append, get_or-eq_default}
use lib.Seq.{get_or_at}
use Rattle.octets.specs.Read.{bytes_at, all_are}
use Rattle.octets.proofs.Laws.{length_bytes_lem}
use Rattle.sha256.specs.Fips180.{at, bytes_of, zeros_between, length_bytes, padded, words_of, block_at, initial, compressed, absorbed, serialised, sha256_of}
use Rattle.sha256.specs.Words.{zero_tailed, marker, block_count}
use Rattle.sha256.specs.Theorems.{PaddedMessage, BlocksInPlace}
use Rattle.sha256.proofs.Bytes.{bytes_are, bytes_alike, bytes_split, bytes_set, block_alike}

-- ---- the loop over the blocks

-- one block more: what is left after it is what was left before it
pub absorbed_step : {r b : List ℕ} (m : ℕ → List ℕ) (h : List ℕ) (k end : ℕ) → k < end → b ≡ m k → r ≡ compressed h b
    → absorbed m r (k + 1) (end - (k + 1)) ≡ absorbed m h k (end - k)
unfolding absorbed
absorbed_step m h k end l p e =
    let z : end - k ≡ suc (end - (k + 1)) = omega arith in
    let y : k + 1 ≡ suc k = omega arith in
    rw (z, e, p, y)

-- no block is left
pub absorbed_all : (m : ℕ → List ℕ) (h : List ℕ) (k end : ℕ) → end ≤ k → absorbed m h k (end - k) ≡ h
unfolding absorbed
absorbed_all m h k end l = let z : end - k ≡ 0 = omega arith in rw z

-- blocks that are the same give the same hash value
absorbed_same : (b c : ℕ → List ℕ) (h : List ℕ) (k left : ℕ) → ((j : ℕ) → k ≤ j → j < k + left → b j ≡ c j) → absorbed b h k left ≡ absorbed c h k left
unfolding absorbed
absorbed_same b c h k zero e = refl
absorbed_same b c h k (suc left) e =
    rw (e k (omega arith) (omega arith)) (absorbed_same b c (compressed h (c k)) (suc k) left (λ j g l. e j (omega arith) (omega arith)))

-- the blocks after the first a
resumed : (m : ℕ → List ℕ) (h : List ℕ) (k a b : ℕ) → absorbed m h k (a + b) ≡ absorbed m (absorbed m h k a) (k + a) b
unfolding absorbed
resumed m h k zero b =
    let p : 0 + b ≡ b = omega arith in
    let q : k + 0 ≡ k = omega arith in
    rw (p, q)
resumed m h k (suc a) b =
    let p : suc a + b ≡ suc (a + b) = omega arith in
    let q : k + suc a ≡ suc k + a = omega arith in
    rw (p, q) (resumed m (compressed h (m k)) (suc k) a b)

-- ---- the padded message

-- zeros past the end change nothing that is read
zeros_after : (s : List ℕ) (z j : ℕ) → at (s ++ replicate z 0) j ≡ at s j
zeros_after [] zero j = refl
zeros_after [] (suc z) zero = refl
zeros_after [] (suc z) (suc j) = zeros_after [] z j
zeros_after (x ∷ s) z zero = refl
zeros_after (x ∷ s) z (suc j) = zeros_after s z j

-- what stands before the length
abbrev before : List ℕ → List ℕ
before d = (d ++ (marker ∷ [])) ++ replicate (zeros_between (length d)) 0

padded_parts : (d : List ℕ) → padded d ≡ before d ++ length_bytes (length d)
unfolding padded
padded_parts d = simp append_assoc

length_before : (d : List ℕ) → length (before d) ≡ length d + 1 + zeros_between (length d)
length_before d = simp (length-append, length-replicate)

length_told : (n : ℕ) → length (length_bytes n) ≡ 8
unfolding bytes_of
length_told n = refl

count_parts : (n : ℕ) → n + 1 + zeros_between n + 8 ≡ 64 * block_count n
count_parts n = omega arith

length_padded : (d : List ℕ) → length (padded d) ≡ 64 * block_count (length d)
length_padded d =
    rw (padded_parts d, length-append (before d) (length_bytes (length d)), length_before d, length_told (length d)) (count_parts (length d))

-- the length stands in the last 8 bytes
length_place : (d : List ℕ) → length (before d) ≡ 64 * block_count (length d) - 8
length_place d = omega (arith, length_before d, count_parts (length d))

-- the message and the byte behind it, up to the length
padded_before : (d : List ℕ) (i : ℕ) → i < 64 * block_count (length d) - 8 → at (padded d) i ≡ at (d ++ (marker ∷ [])) i
padded_before d i h =
    rw (padded_parts d) (get_or-append (before d) (length_bytes (length d)) 0 i (omega (arith, length_place d)) ∙ zeros_after (d ++ (marker ∷ [])) (zeros_between (length d)) i)

padded_message : (d : List ℕ) (i : ℕ) → i < length d → at (padded d) i ≡ at d i
unfolding padded
padded_message d i h = get_or-append d _ 0 i h

padded_told : (d : List ℕ) (i : ℕ) → i ≡ length (before d) → bytes_at 8 (padded d) i ≡ length_bytes (length d)
padded_told d i e =
    sym (bytes_are (length_bytes (length d)) (padded d) 8 i (length_told (length d)) (λ j l. rw (e, padded_parts d) (sym (get_or-append-add (before d) (length_bytes (length d)) j 0))))

-- the block of bytes that were made
pub made_block : {b w : List ℕ} (d : List ℕ) (i : ℕ) → b ≡ bytes_at 64 d i → w ≡ block_at b 0 → w ≡ block_at d i
unfolding block_at
made_block {b} d i e f =
    let l : length b ≡ 64 = ap length e ∙ length_bytes_lem 64 d i in
    let m : b ≡ bytes_at 64 b 0 = bytes_are b b 64 0 l (λ j g. let z : 0 + j ≡ j = omega arith in rw z) in
    f ∙ ap (words_of 16) (sym m ∙ e)

-- ---- a message of n bytes, those of s and zeros

module _ (s : List ℕ) (n : ℕ) (most : length s ≤ n) where
  length_tailed : length (zero_tailed n s) ≡ n
  length_tailed = rw (length-append s (replicate (n - length s) 0), length-replicate {A = ℕ} (n - length s) 0) (omega arith)

  -- the bytes of the message and of the byte behind it
  tailed_at : (i : ℕ) → (i ≡ n → ⊥) → at s i ≡ at (zero_tailed n s ++ (marker ∷ [])) i
  tailed_at i h =
      elim (dec_le n i) [
        | yes y ↦ get_or-eq_default s 0 (omega arith) ∙ sym (get_or-eq_default (zero_tailed n s ++ (marker ∷ [])) 0 (omega (arith, length_tailed, length-append (zero_tailed n s) (marker ∷ []), other i h y)))
        | no y ↦ sym (get_or-append (zero_tailed n s) (marker ∷ []) 0 i (omega (arith, length_tailed)) ∙ zeros_after s (n - length s) i)
      ]
    where
      other : (i : ℕ) → (i ≡ n → ⊥) → n ≤ i → n < i
      other i h g = elim (dec_le i n) [ yes y ↦ absurd (h (omega arith)) | no y ↦ omega arith ]

  -- the message ends before a block
  pub tail_past : (i : ℕ) → n < i → bytes_at 64 s i ≡ bytes_at 64 (zero_tailed n s ++ (marker ∷ [])) i
  tail_past i h = bytes_alike 64 s i (zero_tailed n s ++ (marker ∷ [])) i (λ k g. tailed_at (i + k) (λ e. omega arith))

  -- it ends in a block or behind it
  pub tail_marked : {b r : List ℕ} (i : ℕ) → i ≤ n → b ≡ bytes_at 64 s i → r ≡ set b (n - i) marker → r ≡ bytes_at 64 (zero_tailed n s ++ (marker ∷ [])) i
  tail_marked i h e f =
      bytes_set s (zero_tailed n s ++ (marker ∷ [])) n i marker h (rw e at f) (get_or_at (zero_tailed n s) marker [] 0 n length_tailed) tailed_at

  -- a block that ends before the length
  pub tail_earlier : {b : List ℕ} (k : ℕ) → k + 1 < block_count n → b ≡ bytes_at 64 (zero_tailed n s ++ (marker ∷ [])) (64 * k) → b ≡ bytes_at 64 (padded (zero_tailed n s)) (64 * k)
  tail_earlier k h e =
      e ∙ bytes_alike 64 (zero_tailed n s ++ (marker ∷ [])) (64 * k) (padded (zero_tailed n s)) (64 * k)
      (λ j g. sym (padded_before (zero_tailed n s) (64 * k + j) (rw length_tailed (omega arith))))

  -- the last block
  pub tail_last : {b r : List ℕ} (k : ℕ) → k + 1 ≡ block_count n → b ≡ bytes_at 64 (zero_tailed n s ++ (marker ∷ [])) (64 * k) → r ≡ take 56 b ++ length_bytes n
      → r ≡ bytes_at 64 (padded (zero_tailed n s)) (64 * k)
  tail_last k h e f =
      let m : List ℕ = zero_tailed n s in
      let p : List ℕ = m ++ (marker ∷ []) in
      let first : take 56 (bytes_at 64 p (64 * k)) ≡ bytes_at 56 (padded m) (64 * k) =
      rw (bytes_split 56 8 p (64 * k)) (take_at (bytes_at 56 p (64 * k)) (bytes_at 8 p (64 * k + 56)) 56 (length_bytes_lem 56 p (64 * k)))
      ∙ bytes_alike 56 p (64 * k) (padded m) (64 * k) (λ j l. sym (padded_before m (64 * k + j) (rw length_tailed (omega arith)))) in
      let second : bytes_at 8 (padded m) (64 * k + 56) ≡ length_bytes n = padded_told m (64 * k + 56) (omega (arith, length_place m, length_tailed)) ∙ ap length_bytes length_tailed in
      rw e at f ∙ rw (first, ← second) (sym (bytes_split 56 8 (padded m) (64 * k)))

  -- a block that lies whole in s
  whole_block : (k : ℕ) → 64 * k + 64 ≤ length s → block_at s (64 * k) ≡ block_at (padded (zero_tailed n s)) (64 * k)
  whole_block k h =
      block_alike s (64 * k) (padded (zero_tailed n s)) (64 * k)
      (λ j g. sym (padded_message (zero_tailed n s) (64 * k + j) (omega (arith, length_tailed)) ∙ zeros_after s (n - length s) (64 * k + j)))

  -- the digest, by the blocks that lie whole in s and the loop over the others
  pub hashed : {x u r : List ℕ} (whole : ℕ) → 64 * whole ≤ length s → x ≡ absorbed (λ k. block_at s (64 * k)) initial 0 whole
      → u ≡ absorbed (λ k. block_at (padded (zero_tailed n s)) (64 * k)) x whole (block_count n - whole) → r ≡ serialised u → r ≡ sha256_of (zero_tailed n s)
  unfolding sha256_of
  hashed whole l e f g =
      let m : ℕ → List ℕ = λ k. block_at (padded (zero_tailed n s)) (64 * k) in
      let z : length (padded (zero_tailed n s)) / 64 ≡ whole + (block_count n - whole) = omega (arith, length_padded (zero_tailed n s), length_tailed) in
      let y : absorbed (λ k. block_at s (64 * k)) initial 0 whole ≡ absorbed m initial 0 whole = absorbed_same (λ k. block_at s (64 * k)) m initial 0 whole (λ j a b. whole_block j (omega arith)) in
      let w : 0 + whole ≡ whole = omega arith in
      g ∙ ap serialised (f ∙ rw (z, resumed m initial 0 whole (block_count n - whole), w, e, y))

-- ---- what is shown of the definition

all_zeros : (n : ℕ) → all_are 0 (replicate n 0) ≡ true
all_zeros zero = refl
all_zeros (suc n) = all_zeros n

padded_starts : (d : List ℕ) → take (length d) (padded d) ≡ d
unfolding padded
padded_starts d = take_at d _ (length d) refl

padded_marked : (d : List ℕ) → at (padded d) (length d) ≡ 0x80
unfolding padded
padded_marked d = get_or_at d _ _ 0 (length d) refl

padded_zeros : (d : List ℕ) (z : ℕ) → z ≡ zeros_between (length d) → all_are 0 (take z (drop (length d + 1) (padded d))) ≡ true
padded_zeros d z e =
    let p : List ℕ = d ++ (marker ∷ []) in
    let q : List ℕ = replicate z 0 ++ length_bytes (length d) in
    let w : padded d ≡ p ++ q = padded_parts d ∙ rw (← e) (append_assoc p (replicate z 0) (length_bytes (length d))) in
    rw (w, drop_at p q (length d + 1) (length-append d (marker ∷ [])), take_at (replicate z 0) (length_bytes (length d)) z (length-replicate z 0)) (all_zeros z)

padding : (d : List ℕ) → PaddedMessage d
padding d =
    let n : ℕ = length d in
    let l : length (padded d) ≡ 64 * block_count n = length_padded d in
    let p : length (before d) ≡ 64 * block_count n - 8 = length_place d in
    let q : length (before d) ≡ n + 1 + zeros_between n = length_before d in
    record {
      message = padded_starts d;
      marked = padded_marked d;
      zeros = padded_zeros d (length (padded d) - 8 - (n + 1)) (omega arith);
      told = rw (padded_parts d) (drop_at (before d) (length_bytes n) (length (before d ++ length_bytes n) - 8) (omega (arith, length-append (before d) (length_bytes n), length_told n)));
      whole = omega arith;
      room = omega arith;
      fewest = omega arith;
    }

block_anywhere : (p b q : List ℕ) → length b ≡ 64 → block_at (p ++ (b ++ q)) (length p) ≡ words_of 16 b
unfolding block_at
block_anywhere p b q l =
    sym (ap (words_of 16) (bytes_are b (p ++ (b ++ q)) 64 (length p) l (λ j g. sym (get_or-append-add p (b ++ q) j 0 ∙ get_or-append b q 0 j (omega arith)))))

all_mixed : (d : List ℕ) (n : ℕ) → length (padded d) ≡ 64 * n → sha256_of d ≡ serialised (absorbed (λ k. block_at (padded d) (64 * k)) initial 0 n)
unfolding sha256_of
all_mixed d n e = let q : length (padded d) / 64 ≡ n = omega arith in rw q

pub blocks_in_place : BlocksInPlace
blocks_in_place = record {
  anywhere = block_anywhere;
  lent = λ d k h. block_alike (padded d) (64 * k) d (64 * k) (λ j g. padded_message d (64 * k + j) (omega arith));
  padding = padding;
  all = all_mixed;
}
