-- `image::check_file_word_apart` meets its contract: S1 looks at the first word alone, and no other step looks at it.
use borrow.Author.Rules.{rules}
use mathlib.Core.Path.{◌≡◌}
use lib.ListN.{length}
use Rattle.header.proofs.Told.{told_too}
use Rattle.image.specs.Answer.{told}
use Rattle.image.proofs.Alike.{file_word_apart}
use Rattle.image.proofs.check_file_word_apart.Goals as goal

pub returns : goal.returns
returns c =
    let l : length c.args.first ≡ 4 = search rules in
    let both = told_too told (file_word_apart c.args.first c.args.b.now c.args.given l c.starts_with.ensures c.bytes_follow.ensures c.check_rows-outcome.ensures c.answer_of.ensures) in
    record { value = both.0; told = both.1 }
