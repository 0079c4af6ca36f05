-- What is shown of the definition itself.
-- Assumes nothing.
use Rattle.std.specs.Prelude.{◌≡◌, ℕ, zero, suc, ◌+◌, ◌-◌, ◌*◌, ◌<◌, ◌≤◌, true, false, List, [], ◌∷◌, ◌++◌, length, take, drop, replicate}
use Rattle.blake2s.specs.Rfc7693.{F, block_at, absorbed, initial, serialised, blake2s_of}
use Rattle.blake2s.specs.Parts.{whole_blocks}

-- a message may be hashed in slices: b blocks after a blocks give the state after a + b
abbrev pub Resumable : Type 0
Resumable = (m : ℕ → List ℕ) (n : ℕ) (h : List ℕ) (k a b : ℕ) → absorbed m n h k (a + b) ≡ absorbed m n (absorbed m n h k a) (k + a) b

-- the number whose bytes these are, the least first (section 2.4)
unfoldable pub little_endian : List ℕ → ℕ
little_endian [] = 0
little_endian (x ∷ s) = x + 256 * little_endian s

-- the first n words of bytes, four bytes each
unfoldable pub words_of : ℕ → List ℕ → List ℕ
words_of zero b = []
words_of (suc n) b = little_endian (take 4 b) ∷ words_of n (drop 4 b)

-- section 3.3's loop over the blocks of d before block k: the counter of each is the number of bytes up to its end, and none is flagged
unfoldable pub mixed_before : List ℕ → ℕ → List ℕ
mixed_before d zero = initial
mixed_before d (suc k) = F (mixed_before d k) (block_at d (64 * k)) (64 * k + 64) false

pub record BlocksInPlace : Type 0 where
  -- the block at any place of lent bytes, which is what is mixed there, is its own 64 bytes b as words, whatever stands before them, p,
  -- and behind them, q
  pub anywhere : (p b q : List ℕ) → length b ≡ 64 → block_at (p ++ (b ++ q)) (length p) ≡ words_of 16 b
  -- the block at the end of lent bytes is what is left of them, b, and zeros
  pub padded : (p b : List ℕ) (z : ℕ) → length b + z ≡ 64 → block_at (p ++ b) (length p) ≡ words_of 16 (b ++ replicate z 0)
  -- the digest of d is section 3.3's fold over its blocks. Block k is the last if no byte is behind it and, but for the empty message's
  -- one block, a byte is in it. Its counter is the length of d, and it alone is flagged
  pub fold : (d : List ℕ) (k : ℕ) → (0 < k → 64 * k < length d) → length d ≤ 64 * k + 64 → blake2s_of d ≡ serialised (F (mixed_before d k) (block_at d (64 * k)) (length d) true)
  -- of the run of blocks from offset at on, block j is counted exactly if the run starts in the lent bytes, not before them, and block j
  -- ends in them, a full last block too, and at stop or before it
  pub lent : (len skip at stop j : ℕ) → skip ≤ at → at - skip + 64 * j + 64 ≤ len → at + 64 * j + 64 ≤ stop → j < whole_blocks len skip at stop
  pub whole : (len skip at stop j : ℕ) → j < whole_blocks len skip at stop → (skip ≤ at) × (at - skip + 64 * j + 64 ≤ len) × (at + 64 * j + 64 ≤ stop)
