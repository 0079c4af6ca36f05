-- Rounding is right for every size: a number is its quotient times the size and a remainder below the size.
-- Assumes nothing.
use mathlib.Core.Path.{◌≡◌}
use Prim.Native.Nat.{ℕ, ◌+◌, ◌-◌, ◌*◌, ◌/◌, ◌%◌, ◌≤◌, ◌<◌}
use native.Mathlib.Nat.{div-add-mod', mod-lt, mul-mod_left, mul-le-mul_right, div-lt_iff_lt-mul, add-mul, one-mul, le_antisymm}
use native.Mathlib.Omega.{arith}
use Rattle.octets.specs.Rounding.{round_up, LeastMultiple}

-- a multiple is that many times the size
pub whole_times : (size x : ℕ) → x % size ≡ 0 → x / size * size ≡ x
whole_times size x e = omega (arith, div-add-mod' x size)

-- above: the remainder taken off is at most size - 1; below: a smaller quotient gives a smaller multiple
pub rounds_up : (size x : ℕ) → 0 < size → LeastMultiple size x (round_up size x)
rounds_up size x h = record { multiple = mul-mod_left _ size; holds = above; least = below }
  where
    y : ℕ
    y = x + (size - 1)

    above : x ≤ round_up size x
    above = omega (arith, div-add-mod' y size, mod-lt y h)

    below : (m : ℕ) → m % size ≡ 0 → x ≤ m → round_up size x ≤ m
    below m e g =
        let w = whole_times size m e in
        let k : y < (m / size + 1) * size = rw (add-mul, one-mul) (omega arith) in
        let l : y / size < m / size + 1 = (div-lt_iff_lt-mul h).1 k in
        let n : y / size * size ≤ m / size * size = mul-le-mul_right size (omega arith) in
        omega arith

-- a multiple is its own least multiple
pub stays : (size x : ℕ) → 0 < size → x % size ≡ 0 → round_up size x ≡ x
stays size x h e = let r = rounds_up size x h in le_antisymm (r.least x e (omega arith)) r.holds
