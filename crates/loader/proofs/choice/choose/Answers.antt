-- `loader::choice::choose` meets its contract: the answers of the two checks are what the calls promise, and the choice goes by the same cases.
use Rattle.header.proofs.Rows.{handed_on}
use Rattle.header.proofs.Told.{told_too}
use Rattle.loader.specs.Choice.{told, choose}
use Rattle.loader.proofs.Chosen.{card_chosen, internal_chosen, none_chosen}
use Rattle.loader.proofs.choice.choose.Goals as goal

pub returns-then-is_ok : goal.returns-then-is_ok
unfolding choose
returns-then-is_ok c =
    let both = told_too told (card_chosen _ _ c.check_card.ensures.value c.if-is_ok.ensures.value) in
    record { value = both.0; told = both.1 }

pub returns-in_err-check_internal : goal.returns-in_err-check_internal
unfolding choose
returns-in_err-check_internal c =
    let both = told_too told (none_chosen _ c.check_card.ensures.value c.if-is_ok.ensures.value c.check_internal.ensures.value c.in_err-check_internal.was (handed_on c.from_residual.ensures)) in
    record { value = both.0; told = both.1 }

pub returns : goal.returns
unfolding choose
returns c =
    let both = told_too told (internal_chosen _ c.check_card.ensures.value c.if-is_ok.ensures.value c.check_internal.ensures.value c.in_ok-check_internal.was) in
    record { value = both.0; told = both.1 }
