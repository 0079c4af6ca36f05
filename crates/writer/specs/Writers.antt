-- What both writers answer and leave in the output.
-- Assumes nothing.
use Rattle.std.specs.Prelude.{ℕ, List, [], ◌∷◌, ◌++◌, length, drop, Result, Ok, Err}
use Rattle.header.specs.Outcome.{Outcome}

-- the header's length, or the number of a refusal
abbrev pub Written : Type 0
Written = Result ℕ ℕ

-- the number of every answer (specification, 14)
abbrev pub number_of : Written → ℕ
number_of (Ok len) = 0
number_of (Err number) = number

-- every value: the number, and of a success the header's length
abbrev pub told : Written → List ℕ
told (Ok len) = 0 ∷ len ∷ []
told (Err number) = number ∷ []

-- the header's length, or the number of the first failing row
abbrev pub answered : Outcome → ℕ → Written
answered (Ok _) len = Ok len
answered (Err r) len = Err r.number

-- the output: the header and what stood behind it, or all as it was
abbrev pub output : Outcome → List ℕ → List ℕ → List ℕ
output (Ok _) header out = header ++ drop (length header) out
output (Err r) header out = out
