-- The words of the code's structs, as lists.
use Rattle.std.specs.Prelude.{ℕ, List, [], ◌∷◌}
use Rattle.blake2s.specs.declared.mixing.Quad.{Quad}
use Rattle.blake2s.specs.declared.mixing.Triples.{Triples}
use Rattle.blake2s.specs.declared.mixing.Work.{Work}
use Rattle.blake2s.specs.declared.mixing.Block.{Block}
use Rattle.blake2s.specs.declared.mixing.State.{State}

abbrev pub quad : Quad → List ℕ
quad r = r.a ∷ r.b ∷ r.c ∷ r.d ∷ []

-- the words of the first, the second and the third of three Gs
abbrev pub firsts : Triples → List ℕ
firsts r = r.a.x ∷ r.b.x ∷ r.c.x ∷ r.d.x ∷ []

abbrev pub seconds : Triples → List ℕ
seconds r = r.a.y ∷ r.b.y ∷ r.c.y ∷ r.d.y ∷ []

abbrev pub thirds : Triples → List ℕ
thirds r = r.a.z ∷ r.b.z ∷ r.c.z ∷ r.d.z ∷ []

abbrev pub work : Work → List ℕ
work r = r.v0 ∷ r.v1 ∷ r.v2 ∷ r.v3 ∷ r.v4 ∷ r.v5 ∷ r.v6 ∷ r.v7 ∷ r.v8 ∷ r.v9 ∷ r.v10 ∷ r.v11 ∷ r.v12 ∷ r.v13 ∷ r.v14 ∷ r.v15 ∷ []

abbrev pub block : Block → List ℕ
block r = r.m0 ∷ r.m1 ∷ r.m2 ∷ r.m3 ∷ r.m4 ∷ r.m5 ∷ r.m6 ∷ r.m7 ∷ r.m8 ∷ r.m9 ∷ r.m10 ∷ r.m11 ∷ r.m12 ∷ r.m13 ∷ r.m14 ∷ r.m15 ∷ []

abbrev pub state : State → List ℕ
state r = r.h0 ∷ r.h1 ∷ r.h2 ∷ r.h3 ∷ r.h4 ∷ r.h5 ∷ r.h6 ∷ r.h7 ∷ []
