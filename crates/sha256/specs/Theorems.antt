-- What is shown of the definition itself.
-- Assumes nothing.
use Rattle.std.specs.Prelude.{◌≡◌, ℕ, ◌+◌, ◌-◌, ◌*◌, ◌/◌, ◌%◌, ◌^◌, ◌<◌, true, List, ◌++◌, length, take, drop}
use Rattle.octets.specs.Read.{all_are}
use Rattle.sha256.specs.Fips180.{at, bytes_of, padded, words_of, block_at, initial, absorbed, serialised, sha256_of}

-- a padded message (section 5.1.1): the message, then one byte with its highest bit set, zeros, and 8 bytes with the length, up to the first
-- end of a block that leaves room for these
pub record PaddedMessage (d : List ℕ) : Type 0 where
  pub message : take (length d) (padded d) ≡ d
  pub marked : at (padded d) (length d) ≡ 0x80
  pub zeros : all_are 0 (take (length (padded d) - 8 - (length d + 1)) (drop (length d + 1) (padded d))) ≡ true
  pub told : drop (length (padded d) - 8) (padded d) ≡ bytes_of (8 * length d / 2 ^ 32 % 2 ^ 32) ++ bytes_of (8 * length d % 2 ^ 32)
  pub whole : length (padded d) ≡ 64 * (length (padded d) / 64)
  pub room : length d + 8 < length (padded d)
  pub fewest : length (padded d) - 64 < length d + 9

pub record BlocksInPlace : Type 0 where
  -- the block at any place of lent bytes, which is what is mixed there, is its own 64 bytes b as words, whatever stands before them, p,
  -- and behind them, q
  pub anywhere : (p b q : List ℕ) → length b ≡ 64 → block_at (p ++ (b ++ q)) (length p) ≡ words_of 16 b
  -- every block of a padded message but the last one or two is a block of the message's own bytes
  pub lent : (d : List ℕ) (k : ℕ) → 64 * k + 64 < length d + 1 → block_at (padded d) (64 * k) ≡ block_at d (64 * k)
  pub padding : (d : List ℕ) → PaddedMessage d
  -- all blocks of the padded message are mixed, from the first one on
  pub all : (d : List ℕ) (n : ℕ) → length (padded d) ≡ 64 * n → sha256_of d ≡ serialised (absorbed (λ k. block_at (padded d) (64 * k)) initial 0 n)
