-- S1 is asked of the word, and the other rows and the digest are the same with the word in its place.
use borrow.Author.Rules.{rules}
use mathlib.Core.Path.{sym, ◌∙◌}
use Rattle.signing.proofs.Laws.{tells, firmware_apart}
use Rattle.signing.proofs.firmware_digest_word_apart.Goals as goal

pub returns : goal.returns
returns c =
    let both = tells ((rw c.starts_with.ensures at c.firmware_answer.ensures)
    ∙ sym (firmware_apart c.args.first c.args.b.now (search rules))) in
    record { value = both.0; told = both.1 }
