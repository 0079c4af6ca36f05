-- SHA-256 as FIPS 180-4 defines it, in the order of the standard's sections.
-- Everything is on lists of natural numbers. A byte is below 2 ^ 8 and a word below 2 ^ 32. Sums of words wrap.
-- Assumes nothing.
use Rattle.std.specs.Prelude.{ℕ, zero, suc, ◌+◌, ◌-◌, ◌*◌, ◌/◌, ◌%◌, ◌^◌, List, [], ◌∷◌, ◌++◌, length, take, drop, replicate, bit_and, bit_xor, slice_index}
use Rattle.octets.specs.Read.{bytes_at}

-- what stands at index i
abbrev pub at : List ℕ → ℕ → ℕ
at v i = slice_index v i

-- ---- section 2.2.2: operations on words

-- the complement of a word
abbrev pub complement : ℕ → ℕ
complement x = 2 ^ 32 - 1 - x

-- ROTR^n(x): x rotated to the right by n bits
unfoldable pub rotr : ℕ → ℕ → ℕ
rotr n x = bit_xor (x / 2 ^ n) ((x * 2 ^ (32 - n)) % 2 ^ 32)

-- ---- section 3.1: words as bytes, the most significant byte first

-- the word of four bytes
abbrev pub word_of : List ℕ → ℕ
word_of b = 16777216 * at b 0 + 65536 * at b 1 + 256 * at b 2 + at b 3

-- the bytes of a word
unfoldable pub bytes_of : ℕ → List ℕ
bytes_of w = w / 16777216 % 256 ∷ w / 65536 % 256 ∷ w / 256 % 256 ∷ w % 256 ∷ []

-- ---- section 4.1.2: the functions

unfoldable pub Ch : ℕ → ℕ → ℕ → ℕ
Ch x y z = bit_xor (bit_and x y) (bit_and (complement x) z)

unfoldable pub Maj : ℕ → ℕ → ℕ → ℕ
Maj x y z = bit_xor (bit_xor (bit_and x y) (bit_and x z)) (bit_and y z)

-- Σ0 and Σ1
unfoldable pub Sigma0 : ℕ → ℕ
Sigma0 x = bit_xor (bit_xor (rotr 2 x) (rotr 13 x)) (rotr 22 x)

unfoldable pub Sigma1 : ℕ → ℕ
Sigma1 x = bit_xor (bit_xor (rotr 6 x) (rotr 11 x)) (rotr 25 x)

-- σ0 and σ1, whose last part is shifted and not rotated
unfoldable pub sigma0 : ℕ → ℕ
sigma0 x = bit_xor (bit_xor (rotr 7 x) (rotr 18 x)) (x / 2 ^ 3)

unfoldable pub sigma1 : ℕ → ℕ
sigma1 x = bit_xor (bit_xor (rotr 17 x) (rotr 19 x)) (x / 2 ^ 10)

-- ---- section 4.2.2: the constants

unfoldable pub K : List ℕ
K =
    0x428a2f98 ∷ 0x71374491 ∷ 0xb5c0fbcf ∷ 0xe9b5dba5 ∷ 0x3956c25b ∷ 0x59f111f1 ∷ 0x923f82a4 ∷ 0xab1c5ed5
    ∷ 0xd807aa98 ∷ 0x12835b01 ∷ 0x243185be ∷ 0x550c7dc3 ∷ 0x72be5d74 ∷ 0x80deb1fe ∷ 0x9bdc06a7 ∷ 0xc19bf174
    ∷ 0xe49b69c1 ∷ 0xefbe4786 ∷ 0x0fc19dc6 ∷ 0x240ca1cc ∷ 0x2de92c6f ∷ 0x4a7484aa ∷ 0x5cb0a9dc ∷ 0x76f988da
    ∷ 0x983e5152 ∷ 0xa831c66d ∷ 0xb00327c8 ∷ 0xbf597fc7 ∷ 0xc6e00bf3 ∷ 0xd5a79147 ∷ 0x06ca6351 ∷ 0x14292967
    ∷ 0x27b70a85 ∷ 0x2e1b2138 ∷ 0x4d2c6dfc ∷ 0x53380d13 ∷ 0x650a7354 ∷ 0x766a0abb ∷ 0x81c2c92e ∷ 0x92722c85
    ∷ 0xa2bfe8a1 ∷ 0xa81a664b ∷ 0xc24b8b70 ∷ 0xc76c51a3 ∷ 0xd192e819 ∷ 0xd6990624 ∷ 0xf40e3585 ∷ 0x106aa070
    ∷ 0x19a4c116 ∷ 0x1e376c08 ∷ 0x2748774c ∷ 0x34b0bcb5 ∷ 0x391c0cb3 ∷ 0x4ed8aa4a ∷ 0x5b9cca4f ∷ 0x682e6ff3
    ∷ 0x748f82ee ∷ 0x78a5636f ∷ 0x84c87814 ∷ 0x8cc70208 ∷ 0x90befffa ∷ 0xa4506ceb ∷ 0xbef9a3f7 ∷ 0xc67178f2
    ∷ []

-- ---- section 5.1.1: padding

-- how many zero bytes stand between the byte 0x80 and the length: the fewest that leave 8 bytes of a block of 64 for the length
abbrev pub zeros_between : ℕ → ℕ
zeros_between n = (119 - n % 64) % 64

-- the length in bits as 64 bits. The standard has no message of 2 ^ 64 bits or more
abbrev pub length_bytes : ℕ → List ℕ
length_bytes n = bytes_of (8 * n / 2 ^ 32 % 2 ^ 32) ++ bytes_of (8 * n % 2 ^ 32)

-- the message, the bit 1, zeros, and the length
unfoldable pub padded : List ℕ → List ℕ
padded d = d ++ (0x80 ∷ (replicate (zeros_between (length d)) 0 ++ length_bytes (length d)))

-- ---- section 5.2.1: blocks of sixteen words

-- the first n words of bytes, four bytes each
unfoldable pub words_of : ℕ → List ℕ → List ℕ
words_of zero b = []
words_of (suc n) b = word_of (take 4 b) ∷ words_of n (drop 4 b)

-- the block at i: the sixteen words of its 64 bytes
unfoldable pub block_at : List ℕ → ℕ → List ℕ
block_at d i = words_of 16 (bytes_at 64 d i)

-- ---- section 5.3.3: the initial hash value

abbrev pub initial : List ℕ
initial = 0x6a09e667 ∷ 0xbb67ae85 ∷ 0x3c6ef372 ∷ 0xa54ff53a ∷ 0x510e527f ∷ 0x9b05688c ∷ 0x1f83d9ab ∷ 0x5be0cd19 ∷ []

-- ---- section 6.2.2: the hash computation

-- step 1, the message schedule: from the words w up to W[t - 1], the word W[t], for t = n + 16
unfoldable pub scheduled_word : List ℕ → ℕ → ℕ
scheduled_word w n = (sigma1 (at w (n + 14)) + at w (n + 9) + sigma0 (at w (n + 1)) + at w n) % 2 ^ 32

-- the words of a block, and n words more
unfoldable pub schedule : List ℕ → ℕ → List ℕ
schedule m zero = m
schedule m (suc n) = schedule m n ++ (scheduled_word (schedule m n) n ∷ [])

-- step 3, for one t, on the working variables a to h: T1, T2, and the assignments
unfoldable pub round : List ℕ → ℕ → ℕ → List ℕ
round v k w =
    let t1 : ℕ = (at v 7 + Sigma1 (at v 4) + Ch (at v 4) (at v 5) (at v 6) + k + w) % 2 ^ 32 in
    let t2 : ℕ = (Sigma0 (at v 0) + Maj (at v 0) (at v 1) (at v 2)) % 2 ^ 32 in
    (t1 + t2) % 2 ^ 32 ∷ at v 0 ∷ at v 1 ∷ at v 2 ∷ (at v 3 + t1) % 2 ^ 32 ∷ at v 4 ∷ at v 5 ∷ at v 6 ∷ []

-- step 3, for each constant and the word of the schedule beside it
unfoldable pub rounds : List ℕ → List ℕ → List ℕ → List ℕ
rounds v [] w = v
rounds v (k ∷ ks) [] = v
rounds v (k ∷ ks) (x ∷ w) = rounds (round v k x) ks w

-- step 4: the working variables added to the hash value
unfoldable pub added : List ℕ → List ℕ → List ℕ
added h v =
    (at v 0 + at h 0) % 2 ^ 32
    ∷ (at v 1 + at h 1) % 2 ^ 32
    ∷ (at v 2 + at h 2) % 2 ^ 32
    ∷ (at v 3 + at h 3) % 2 ^ 32
    ∷ (at v 4 + at h 4) % 2 ^ 32
    ∷ (at v 5 + at h 5) % 2 ^ 32
    ∷ (at v 6 + at h 6) % 2 ^ 32
    ∷ (at v 7 + at h 7) % 2 ^ 32
    ∷ []

-- steps 1 to 4: the hash value after a block m. Step 2 starts the working variables with the hash value h
unfoldable pub compressed : List ℕ → List ℕ → List ℕ
compressed h m = added h (rounds h K (schedule m 48))

-- the hash value after `left` blocks, from block k and the hash value h on. Block j has the words m j
unfoldable pub absorbed : (ℕ → List ℕ) → List ℕ → ℕ → ℕ → List ℕ
absorbed m h k zero = h
absorbed m h k (suc left) = absorbed m (compressed h (m k)) (suc k) left

-- the hash value as bytes
unfoldable pub serialised : List ℕ → List ℕ
serialised h =
    bytes_of (at h 0) ++ bytes_of (at h 1) ++ bytes_of (at h 2) ++ bytes_of (at h 3) ++ bytes_of (at h 4) ++ bytes_of (at h 5) ++ bytes_of (at h 6) ++ bytes_of (at h 7)

-- the digest of the bytes d, whose padded message has N blocks of 64 bytes
unfoldable pub sha256_of : List ℕ → List ℕ
sha256_of d = serialised (absorbed (λ k. block_at (padded d) (64 * k)) initial 0 (length (padded d) / 64))
