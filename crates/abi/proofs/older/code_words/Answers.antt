-- `abi::older::code_words` meets its contract: after a refusal zeros, and otherwise the place of the span.
use borrow.Author.Tests.{eq-eqb, ne_eqb}
use Rattle.abi.specs.Older.{code_words}
use Rattle.abi.proofs.older.code_words.Goals as goal

pub returns-then-number-ne0 : goal.returns-then-number-ne0
unfolding code_words
returns-then-number-ne0 c = rw (ne_eqb _ _ c.if-number-ne0.true)

pub returns : goal.returns
unfolding code_words
returns c = rw (eq-eqb _ _ c.if-number-ne0.false, c.placed.ensures, c.code_span_at.ensures)
