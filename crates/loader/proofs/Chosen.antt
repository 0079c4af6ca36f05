-- How a choice follows from the answers of the two checks.
-- Assumes nothing.
use mathlib.Core.Path.{◌≡◌, ◌∙◌}
use mathlib.Core.Bool.{true, false}
use Rattle.std.specs.Prelude.{Ok, Err}
use Rattle.std.specs.Result.{is_ok}
use Rattle.header.specs.declared.Refusal.{Refusal}
use Rattle.image.specs.declared.Image.{Image}
use Rattle.image.specs.Answer.{Answer}
use Rattle.loader.specs.Choice.{Choice, chosen}
use Rattle.loader.specs.declared.choice.Area.TheVariants.{Card, Internal}

-- a and b are what the checks returned, card and internal what they promise
pub card_chosen : {card : Answer} (a internal : Answer) → a ≡ card → true ≡ is_ok a → Ok Card ≡ chosen card internal
card_chosen (Ok i) internal e h = rw (← e)
card_chosen (Err r) internal e h = cc

pub internal_chosen : {b card internal : Answer} {i : Image} (a : Answer) → a ≡ card → false ≡ is_ok a → b ≡ internal → b ≡ Ok i → Ok Internal ≡ chosen card internal
internal_chosen (Ok j) e h f g = cc
internal_chosen (Err r) e h f g = rw (← e, ← f, g)

pub none_chosen : {b card internal : Answer} {s : Refusal} {o : Choice} (a : Answer) → a ≡ card → false ≡ is_ok a → b ≡ internal → b ≡ Err s → o ≡ Err s → o ≡ chosen card internal
none_chosen (Ok j) e h f g k = cc
none_chosen (Err r) e h f g k = k ∙ rw (← e, ← f, g)
