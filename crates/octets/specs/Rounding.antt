-- Multiples of a size, and rounding up to one: of 4, 512 and 4,096 alike.
-- Assumes nothing.
use Rattle.std.specs.Prelude.{ℕ, ◌+◌, ◌-◌, ◌*◌, ◌/◌, ◌%◌, ◌≤◌, ◌≡◌, Bool, eqb}

abbrev pub multiple_of : ℕ → ℕ → Bool
multiple_of size x = eqb (x % size) 0

-- the least multiple of size that is not below x
abbrev pub round_up : ℕ → ℕ → ℕ
round_up size x = (x + (size - 1)) / size * size

-- r is the least multiple of size that is not below x
pub record LeastMultiple (size x r : ℕ) : Type 0 where
  pub multiple : r % size ≡ 0
  pub holds : x ≤ r
  pub least : (m : ℕ) → m % size ≡ 0 → x ≤ m → r ≤ m
