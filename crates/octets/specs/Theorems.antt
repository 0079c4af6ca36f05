-- What is shown of rounding, once for every size.
-- Assumes nothing.
use Rattle.std.specs.Prelude.{ℕ, ◌*◌, ◌/◌, ◌%◌, ◌<◌, ◌≡◌}
use Rattle.octets.specs.Rounding.{round_up, LeastMultiple}

pub record RoundingIsRight : Type 0 where
  -- rounding up gives the least multiple
  pub rounds_up : (size x : ℕ) → 0 < size → LeastMultiple size x (round_up size x)
  -- a multiple is that many times the size, and rounding leaves it
  pub whole_times : (size x : ℕ) → 0 < size → x % size ≡ 0 → x / size * size ≡ x
  pub stays : (size x : ℕ) → 0 < size → x % size ≡ 0 → round_up size x ≡ x
