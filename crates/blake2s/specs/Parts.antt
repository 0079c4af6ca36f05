-- A message whose bytes do not lie together: its first skip bytes stand in a block of their own, and its later bytes in lent bytes.
-- Assumes nothing.
use Rattle.std.specs.Prelude.{ℕ, ◌+◌, ◌-◌, ◌*◌, ◌/◌, min, cond, List, ◌++◌, replicate, nat_lt}
use Rattle.blake2s.specs.Rfc7693.{block_at}

-- block k: the one given apart where it starts before skip, and else the one that stands skip places earlier in s
abbrev pub block_of : List ℕ → List ℕ → ℕ → ℕ → List ℕ
block_of first s skip k = cond (nat_lt (64 * k) skip) (block_at first 0) (block_at s (64 * k - skip))

-- blocks that lie together in s from i on, the first of them being block k
abbrev pub run_at : List ℕ → ℕ → ℕ → ℕ → List ℕ
run_at s i k j = block_at s (i + 64 * (j - k))

-- how many blocks, one after another from the one at offset at and up to stop, lie whole in len lent bytes that start at offset skip of
-- the message. None if the first of them starts before those
unfoldable pub whole_blocks : ℕ → ℕ → ℕ → ℕ → ℕ
whole_blocks len skip at stop = cond (nat_lt at skip) 0 (min ((len - (at - skip)) / 64) ((stop - at) / 64))

-- bytes and 65 zeros after them: a header whose sigmask and signature are taken as zero
abbrev pub zero_tailed : List ℕ → List ℕ
zero_tailed s = s ++ replicate 65 0
