-- The words of the code's structs, as lists; and what the code makes of them at a time.
-- Assumes nothing.
use Rattle.std.specs.Prelude.{ℕ, ◌+◌, ◌-◌, ◌/◌, List, [], ◌∷◌, ◌++◌, length, replicate}
use Rattle.sha256.specs.declared.mixing.State.{State}
use Rattle.sha256.specs.declared.mixing.Quad.{Quad}
use Rattle.sha256.specs.declared.mixing.Block.{Block}
use Rattle.sha256.specs.Fips180.{at}

abbrev pub state : State → List ℕ
state r = r.a ∷ r.b ∷ r.c ∷ r.d ∷ r.e ∷ r.f ∷ r.g ∷ r.h ∷ []

abbrev pub quad : Quad → List ℕ
quad r = r.a ∷ r.b ∷ r.c ∷ r.d ∷ []

-- sixteen words
abbrev pub sixteen : Quad → Quad → Quad → Quad → List ℕ
sixteen p q r s = quad p ++ (quad q ++ (quad r ++ quad s))

abbrev pub block : Block → List ℕ
block r = sixteen r.q0 r.q1 r.q2 r.q3

-- two words of k from t on
abbrev pub two : List ℕ → ℕ → List ℕ
two k t = at k t ∷ at k (t + 1) ∷ []

-- sixteen words of k from t on
abbrev pub sixteen_at : List ℕ → ℕ → List ℕ
sixteen_at k t =
    two k t ++ (two k (t + 2) ++ (two k (t + 4) ++ (two k (t + 6) ++ (two k (t + 8) ++ (two k (t + 10) ++ (two k (t + 12) ++ two k (t + 14)))))))

-- a message of n bytes: those of s, and zeros
abbrev pub zero_tailed : ℕ → List ℕ → List ℕ
zero_tailed n s = s ++ replicate (n - length s) 0

-- the byte behind a message: its highest bit is the bit 1 of the padding
abbrev pub marker : ℕ
marker = 0x80

-- how many blocks a message of n bytes has when it is padded
abbrev pub block_count : ℕ → ℕ
block_count n = (n + 8) / 64 + 1
