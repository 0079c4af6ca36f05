-- `abi::places::part_words` meets its contract: after a refusal zeros, and otherwise the places of the three spans.
use borrow.Author.Tests.{eq-eqb, ne_eqb}
use Rattle.abi.specs.Places.{part_words}
use Rattle.abi.proofs.places.part_words.Goals as goal

pub returns-then-number-ne0 : goal.returns-then-number-ne0
unfolding part_words
returns-then-number-ne0 c = rw (ne_eqb _ _ c.if-number-ne0.true)

pub returns : goal.returns
unfolding part_words
returns c = rw (
  eq-eqb _ _ c.if-number-ne0.false,
  c.placed.ensures,
  c.placed-2.ensures,
  c.placed-3.ensures,
  c.string_span.ensures,
  c.picture_span.ensures,
  c.code_span.ensures,
)
