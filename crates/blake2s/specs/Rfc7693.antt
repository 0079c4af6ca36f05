-- BLAKE2s as RFC 7693 defines it, with no key and a digest of 32 bytes, in the order of the RFC's sections.
-- Everything is on lists of natural numbers. A byte is below 2 ^ 8 and a word below 2 ^ 32. Sums of words wrap.
-- Assumes nothing.
use Rattle.std.specs.Prelude.{ℕ, zero, suc, ◌+◌, ◌-◌, ◌*◌, ◌/◌, ◌%◌, ◌^◌, min, Bool, true, false, List, [], ◌∷◌, ◌++◌, length, set, bit_xor, nat_le, slice_index}

-- what stands at index i
abbrev pub at : List ℕ → ℕ → ℕ
at v i = slice_index v i

-- ---- section 2.3: arithmetic

-- x + y, modulo 2 ^ 32
abbrev pub plus : ℕ → ℕ → ℕ
plus x y = (x + y) % 2 ^ 32

-- x >>> n: x rotated to the right by n bits
unfoldable pub rotr : ℕ → ℕ → ℕ
rotr x n = bit_xor (x / 2 ^ n) ((x * 2 ^ (32 - n)) % 2 ^ 32)

-- ---- section 2.4: words as bytes, the least byte first

-- the word whose bytes stand at i. A byte past the end reads as 0, which is the zero padding of section 3.3
unfoldable pub word_at : List ℕ → ℕ → ℕ
word_at d i = at d i + 256 * at d (i + 1) + 65536 * at d (i + 2) + 16777216 * at d (i + 3)

-- the bytes of a word
unfoldable pub bytes_of : ℕ → List ℕ
bytes_of w = w % 256 ∷ w / 256 % 256 ∷ w / 65536 % 256 ∷ w / 16777216 % 256 ∷ []

-- ---- section 2.6: the initialization vector

abbrev pub IV : List ℕ
IV = 0x6a09e667 ∷ 0xbb67ae85 ∷ 0x3c6ef372 ∷ 0xa54ff53a ∷ 0x510e527f ∷ 0x9b05688c ∷ 0x1f83d9ab ∷ 0x5be0cd19 ∷ []

-- ---- section 2.7: the message schedule

unfoldable pub SIGMA : List (List ℕ)
SIGMA =
    (0 ∷ 1 ∷ 2 ∷ 3 ∷ 4 ∷ 5 ∷ 6 ∷ 7 ∷ 8 ∷ 9 ∷ 10 ∷ 11 ∷ 12 ∷ 13 ∷ 14 ∷ 15 ∷ [])
    ∷ (14 ∷ 10 ∷ 4 ∷ 8 ∷ 9 ∷ 15 ∷ 13 ∷ 6 ∷ 1 ∷ 12 ∷ 0 ∷ 2 ∷ 11 ∷ 7 ∷ 5 ∷ 3 ∷ [])
    ∷ (11 ∷ 8 ∷ 12 ∷ 0 ∷ 5 ∷ 2 ∷ 15 ∷ 13 ∷ 10 ∷ 14 ∷ 3 ∷ 6 ∷ 7 ∷ 1 ∷ 9 ∷ 4 ∷ [])
    ∷ (7 ∷ 9 ∷ 3 ∷ 1 ∷ 13 ∷ 12 ∷ 11 ∷ 14 ∷ 2 ∷ 6 ∷ 5 ∷ 10 ∷ 4 ∷ 0 ∷ 15 ∷ 8 ∷ [])
    ∷ (9 ∷ 0 ∷ 5 ∷ 7 ∷ 2 ∷ 4 ∷ 10 ∷ 15 ∷ 14 ∷ 1 ∷ 11 ∷ 12 ∷ 6 ∷ 8 ∷ 3 ∷ 13 ∷ [])
    ∷ (2 ∷ 12 ∷ 6 ∷ 10 ∷ 0 ∷ 11 ∷ 8 ∷ 3 ∷ 4 ∷ 13 ∷ 7 ∷ 5 ∷ 15 ∷ 14 ∷ 1 ∷ 9 ∷ [])
    ∷ (12 ∷ 5 ∷ 1 ∷ 15 ∷ 14 ∷ 13 ∷ 4 ∷ 10 ∷ 0 ∷ 7 ∷ 6 ∷ 3 ∷ 9 ∷ 2 ∷ 8 ∷ 11 ∷ [])
    ∷ (13 ∷ 11 ∷ 7 ∷ 14 ∷ 12 ∷ 1 ∷ 3 ∷ 9 ∷ 5 ∷ 0 ∷ 15 ∷ 4 ∷ 8 ∷ 6 ∷ 2 ∷ 10 ∷ [])
    ∷ (6 ∷ 15 ∷ 14 ∷ 9 ∷ 11 ∷ 3 ∷ 0 ∷ 8 ∷ 12 ∷ 2 ∷ 13 ∷ 7 ∷ 1 ∷ 4 ∷ 10 ∷ 5 ∷ [])
    ∷ (10 ∷ 2 ∷ 8 ∷ 4 ∷ 7 ∷ 6 ∷ 1 ∷ 5 ∷ 15 ∷ 11 ∷ 9 ∷ 14 ∷ 3 ∷ 12 ∷ 13 ∷ 0 ∷ [])
    ∷ []

-- ---- section 3.1: the mixing function G, by its eight assignments to the work vector v

unfoldable pub G : List ℕ → ℕ → ℕ → ℕ → ℕ → ℕ → ℕ → List ℕ
G v a b c d x y =
    let v1 : List ℕ = set v a (plus (at v a + at v b) x) in
    let v2 : List ℕ = set v1 d (rotr (bit_xor (at v1 d) (at v1 a)) 16) in
    let v3 : List ℕ = set v2 c (plus (at v2 c) (at v2 d)) in
    let v4 : List ℕ = set v3 b (rotr (bit_xor (at v3 b) (at v3 c)) 12) in
    let v5 : List ℕ = set v4 a (plus (at v4 a + at v4 b) y) in
    let v6 : List ℕ = set v5 d (rotr (bit_xor (at v5 d) (at v5 a)) 8) in
    let v7 : List ℕ = set v6 c (plus (at v6 c) (at v6 d)) in
    set v7 b (rotr (bit_xor (at v7 b) (at v7 c)) 7)

-- ---- section 3.2: the compression function F

-- the first half of a round: G on the four columns, with eight words of the message
unfoldable pub columns : List ℕ → ℕ → ℕ → ℕ → ℕ → ℕ → ℕ → ℕ → ℕ → List ℕ
columns v x0 x1 x2 x3 x4 x5 x6 x7 =
    let v1 : List ℕ = G v 0 4 8 12 x0 x1 in
    let v2 : List ℕ = G v1 1 5 9 13 x2 x3 in
    let v3 : List ℕ = G v2 2 6 10 14 x4 x5 in
    G v3 3 7 11 15 x6 x7

-- the second half: G on the four diagonals
unfoldable pub diagonals : List ℕ → ℕ → ℕ → ℕ → ℕ → ℕ → ℕ → ℕ → ℕ → List ℕ
diagonals v x0 x1 x2 x3 x4 x5 x6 x7 =
    let v1 : List ℕ = G v 0 5 10 15 x0 x1 in
    let v2 : List ℕ = G v1 1 6 11 12 x2 x3 in
    let v3 : List ℕ = G v2 2 7 8 13 x4 x5 in
    G v3 3 4 9 14 x6 x7

-- a round takes the words of the message m in the order of a row s of SIGMA
unfoldable pub round : List ℕ → List ℕ → List ℕ → List ℕ
round v m s =
    diagonals
    (columns v (at m (at s 0)) (at m (at s 1)) (at m (at s 2)) (at m (at s 3)) (at m (at s 4)) (at m (at s 5)) (at m (at s 6)) (at m (at s 7)))
    (at m (at s 8)) (at m (at s 9)) (at m (at s 10)) (at m (at s 11)) (at m (at s 12)) (at m (at s 13)) (at m (at s 14)) (at m (at s 15))

-- a round for each row
unfoldable pub rounds : List ℕ → List ℕ → List (List ℕ) → List ℕ
rounds v m [] = v
rounds v m (s ∷ rows) = rounds (round v m s) m rows

-- the flag f inverts v[14]
abbrev pub inverting : Bool → ℕ
inverting true = 0xffffffff
inverting false = 0

-- the work vector at first: the state h, the IV, the counter t in two words, and the flag f of the last block
unfoldable pub work_vector : List ℕ → ℕ → Bool → List ℕ
work_vector h t f =
    at h 0 ∷ at h 1 ∷ at h 2 ∷ at h 3 ∷ at h 4 ∷ at h 5 ∷ at h 6 ∷ at h 7
    ∷ at IV 0 ∷ at IV 1 ∷ at IV 2 ∷ at IV 3
    ∷ bit_xor (at IV 4) (t % 2 ^ 32) ∷ bit_xor (at IV 5) (t / 2 ^ 32) ∷ bit_xor (at IV 6) (inverting f) ∷ at IV 7 ∷ []

-- the state at last: the two halves of the work vector folded into it
unfoldable pub folded : List ℕ → List ℕ → List ℕ
folded h v =
    bit_xor (bit_xor (at h 0) (at v 0)) (at v 8)
    ∷ bit_xor (bit_xor (at h 1) (at v 1)) (at v 9)
    ∷ bit_xor (bit_xor (at h 2) (at v 2)) (at v 10)
    ∷ bit_xor (bit_xor (at h 3) (at v 3)) (at v 11)
    ∷ bit_xor (bit_xor (at h 4) (at v 4)) (at v 12)
    ∷ bit_xor (bit_xor (at h 5) (at v 5)) (at v 13)
    ∷ bit_xor (bit_xor (at h 6) (at v 6)) (at v 14)
    ∷ bit_xor (bit_xor (at h 7) (at v 7)) (at v 15)
    ∷ []

unfoldable pub F : List ℕ → List ℕ → ℕ → Bool → List ℕ
F h m t f = folded h (rounds (work_vector h t f) m SIGMA)

-- ---- section 3.3: padding data and computing the digest

-- the sixteen words of the block at i, four at a time. Past the end they are zero, as word_at has it
unfoldable pub four_at : List ℕ → ℕ → List ℕ
four_at d i = word_at d i ∷ word_at d (i + 4) ∷ word_at d (i + 8) ∷ word_at d (i + 12) ∷ []

unfoldable pub block_at : List ℕ → ℕ → List ℕ
block_at d i = four_at d i ++ four_at d (i + 16) ++ four_at d (i + 32) ++ four_at d (i + 48)

-- how many blocks n bytes have. The empty message has one
abbrev pub block_count : ℕ → ℕ
block_count n = (n - 1) / 64 + 1

-- block k is the last of a message of n bytes
abbrev pub is_last : ℕ → ℕ → Bool
is_last n k = nat_le n (64 * k + 64)

-- the counter t of block k: the message's bytes up to the block's end
abbrev pub counter : ℕ → ℕ → ℕ
counter n k = min (64 * k + 64) n

-- the state after `left` blocks, from block k and the state h on. Block j of the n bytes has the words m j
unfoldable pub absorbed : (ℕ → List ℕ) → ℕ → List ℕ → ℕ → ℕ → List ℕ
absorbed m n h k zero = h
absorbed m n h k (suc left) = absorbed m n (F h (m k) (counter n k) (is_last n k)) (suc k) left

-- the state before the first block: section 2.5's parameter block for 32 bytes of digest and no key
abbrev pub initial : List ℕ
initial = bit_xor (at IV 0) 0x01010020 ∷ at IV 1 ∷ at IV 2 ∷ at IV 3 ∷ at IV 4 ∷ at IV 5 ∷ at IV 6 ∷ at IV 7 ∷ []

-- the state as bytes
unfoldable pub serialised : List ℕ → List ℕ
serialised h =
    bytes_of (at h 0) ++ bytes_of (at h 1) ++ bytes_of (at h 2) ++ bytes_of (at h 3) ++ bytes_of (at h 4) ++ bytes_of (at h 5) ++ bytes_of (at h 6) ++ bytes_of (at h 7)

-- the digest of the bytes d
unfoldable pub blake2s_of : List ℕ → List ℕ
blake2s_of d = serialised (absorbed (λ k. block_at d (64 * k)) (length d) initial 0 (block_count (length d)))
