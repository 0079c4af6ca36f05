-- Which loader runs (specification, 16.4): the card's if it is accepted, otherwise the internal one if it is, otherwise none, with the internal
-- refusal. And the loader itself, header and code in one piece, as a part of the area that holds it.
-- Assumes nothing.
use Rattle.std.specs.Prelude.{ℕ, List, [], ◌∷◌, ◌++◌, Result, Ok, Err}
use Rattle.octets.specs.Read.{between}
use Rattle.code_header.specs.Layout.{code_end_at}
use Rattle.header.specs.declared.Refusal.{Refusal}
use Rattle.header.specs.Outcome as outcome
use Rattle.image.specs.Answer.{Answer}
use Rattle.loader.specs.declared.AreaInputs.{AreaInputs}
use Rattle.loader.specs.declared.choice.Area.{Area}
use Rattle.loader.specs.declared.choice.Area.TheVariants.{Card, Internal}
use Rattle.loader.specs.Check.{check_card, check_internal}

-- ---- what a choice tells

-- the area of the loader to run, or a refusal
abbrev pub Choice : Type 0
Choice = Result Area Refusal

-- 1 for the card, 2 for the internal area, 0 for none
abbrev pub area_of : Choice → ℕ
area_of (Ok Card) = 1
area_of (Ok Internal) = 2
area_of (Err r) = 0

-- number, part, chunk and area
abbrev pub told : Choice → List ℕ
told c = outcome.told c ++ (area_of c ∷ [])

-- ---- the choice

-- by the check of the card, and of the internal area. The card's refusal is not told
abbrev pub chosen : Answer → Answer → Choice
chosen (Ok i) internal = Ok Card
chosen (Err r) (Ok i) = Ok Internal
chosen (Err r) (Err s) = Err s

unfoldable pub choose : List ℕ → List ℕ → AreaInputs → Choice
choose card internal given = chosen (check_card card given) (check_internal internal given)

-- ---- the loader

-- header and code in one piece, without the bytes behind them
unfoldable pub loader_of : List ℕ → List ℕ
loader_of b = between 0 (code_end_at b 0) b

-- of the area that is chosen
abbrev pub part_of : Choice → List ℕ → List ℕ → List ℕ
part_of (Ok Card) card internal = loader_of card
part_of (Ok Internal) card internal = loader_of internal
part_of (Err r) card internal = []
