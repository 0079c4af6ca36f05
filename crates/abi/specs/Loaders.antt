-- What the exported checks of a loader are given, as five words, and how the choice between the two areas is told (specification, 16.5).
-- Assumes nothing.
use Rattle.std.specs.Prelude.{ℕ, List, [], ◌∷◌, eqb, length, get_or}
use Rattle.loader.specs.declared.AreaInputs.{AreaInputs}
use Rattle.header.specs.Outcome.{number_of, where_of}
use Rattle.loader.specs.Choice.{Choice, area_of, part_of}

-- the time, m and n of the key policy, and the verdicts on the card's loader and on the internal one. A verdict is yes where its word is 1
unfoldable pub area_inputs_of : List ℕ → AreaInputs
area_inputs_of w =
    record { time = get_or w 0 0; m = get_or w 1 0; n = get_or w 2 0; card = eqb (get_or w 3 0) 1; internal = eqb (get_or w 4 0) 1 }

-- number, part and chunk
abbrev pub choice_words : Choice → List ℕ
choice_words c = number_of c ∷ where_of c

-- where the loader to run stands: the area, and start and length in it
unfoldable pub loader_words : Choice → List ℕ → List ℕ → List ℕ
loader_words c card internal = area_of c ∷ 0 ∷ length (part_of c card internal) ∷ []
