-- `signing::places::firmware_signature_word_apart` meets its contract: S1 is asked of the word, and the other rows and the places are the same with the word in its place.
use borrow.Author.Rules.{rules}
use mathlib.Core.Path.{sym}
use Rattle.signing.proofs.Signatures.{firmware_signature_apart}
use Rattle.signing.proofs.places.firmware_signature_word_apart.Goals as goal

pub returns : goal.returns
returns c = rw (c.when_answered.ensures, c.firmware_places.ensures, c.firmware_rows.ensures, c.starts_with.ensures)
    (sym (firmware_signature_apart c.args.first c.args.b.now (search rules)))
