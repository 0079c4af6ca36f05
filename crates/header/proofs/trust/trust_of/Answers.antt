-- `header::trust::trust_of` meets its contract: each call of `seconds` promises the seconds of one bit, and four bits add at most 15.
use Prim.Native.Nat.{ℕ, ◌+◌, ◌≤◌}
use mathlib.Core.Bool.{Bool, true, false, cond}
use native.Mathlib.Omega.{arith}
use Rattle.octets.specs.Read.{bit_unset}
use Rattle.header.specs.Trust.{trust_of}
use Rattle.header.proofs.trust.trust_of.Goals as goal

at_most : (active : Bool) (n : ℕ) → cond active n 0 ≤ n
at_most true n = omega arith
at_most false n = omega arith

-- the whole sum fits, and so do the sums before it
at_most_fifteen : (x : ℕ) → cond (bit_unset 0 x) 1 0 + cond (bit_unset 1 x) 2 0 + cond (bit_unset 2 x) 4 0 + cond (bit_unset 3 x) 8 0 ≤ 15
at_most_fifteen x = omega (arith, at_most (bit_unset 0 x) 1, at_most (bit_unset 1 x) 2, at_most (bit_unset 2 x) 4, at_most (bit_unset 3 x) 8)

pub overflow_add-result : goal.overflow_add-result
overflow_add-result c = omega (arith, at_most_fifteen c.args.x)

pub overflow_add-result-2 : goal.overflow_add-result-2
overflow_add-result-2 c = omega (arith, at_most_fifteen c.args.x)

pub overflow_add-result-3 : goal.overflow_add-result-3
overflow_add-result-3 c = omega (arith, at_most_fifteen c.args.x)

pub returns : goal.returns
unfolding trust_of
returns c = rw (c.seconds-one.ensures, c.seconds-two.ensures, c.seconds-four.ensures, c.seconds-eight.ensures)
