-- What the installer's calls answer: the number (specification, 14) and the values of every case.
-- Assumes nothing.
use Rattle.std.specs.Prelude.{ℕ, List, [], ◌∷◌}
use Rattle.sessions.specs.declared.Reply.{Reply}
use Rattle.sessions.specs.declared.Reply.TheVariants.{Begun, Erased, Took, Accepted, Done, Refused, Rejected}

-- 0, or the number of the refusal: the installer's own, or that of the check which a close passes on
abbrev pub number_of : Reply → ℕ
number_of Begun = 0
number_of Erased = 0
number_of (Took k) = 0
number_of Accepted = 0
number_of Done = 0
number_of (Refused number) = number
number_of (Rejected r) = r.number

-- part and chunk of a check's refusal, and 0 otherwise
abbrev pub where_of : Reply → List ℕ
where_of Begun = 0 ∷ 0 ∷ []
where_of Erased = 0 ∷ 0 ∷ []
where_of (Took k) = 0 ∷ 0 ∷ []
where_of Accepted = 0 ∷ 0 ∷ []
where_of Done = 0 ∷ 0 ∷ []
where_of (Refused number) = 0 ∷ 0 ∷ []
where_of (Rejected r) = r.part ∷ r.chunk ∷ []

-- every value: number, part and chunk; and of a Fill how many bytes it took
abbrev pub told : Reply → List ℕ
told Begun = 0 ∷ 0 ∷ 0 ∷ []
told Erased = 0 ∷ 0 ∷ 0 ∷ []
told (Took k) = 0 ∷ 0 ∷ 0 ∷ k ∷ []
told Accepted = 0 ∷ 0 ∷ 0 ∷ []
told Done = 0 ∷ 0 ∷ 0 ∷ []
told (Refused number) = number ∷ 0 ∷ 0 ∷ []
told (Rejected r) = r.number ∷ r.part ∷ r.chunk ∷ []
