-- What an answer tells: the number (specification, 14) and the values of every case.
-- Assumes nothing.
use Rattle.std.specs.Prelude.{ℕ, List, [], ◌∷◌, Result, Ok, Err}
use Rattle.header.specs.declared.Refusal.{Refusal}

-- what a list of steps answers: nothing more where all pass, or the first failing step's refusal
abbrev pub Outcome : Type 0
Outcome = Result Unit Refusal

abbrev pub number_of : {A : Type 0} → Result A Refusal → ℕ
number_of (Ok a) = 0
number_of (Err r) = r.number

-- part and chunk
abbrev pub where_of : {A : Type 0} → Result A Refusal → List ℕ
where_of (Ok a) = 0 ∷ 0 ∷ []
where_of (Err r) = r.part ∷ r.chunk ∷ []

-- number, part and chunk
abbrev pub told : {A : Type 0} → Result A Refusal → List ℕ
told o = number_of o ∷ where_of o
