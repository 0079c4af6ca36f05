-- `signing::places::vendor_signature_word_apart` meets its contract: S1 is asked of the word, and the other rows and the places are the same with the word in its place.
use borrow.Author.Rules.{rules}
use mathlib.Core.Path.{sym}
use Rattle.signing.proofs.Signatures.{vendor_signature_apart}
use Rattle.signing.proofs.places.vendor_signature_word_apart.Goals as goal

pub returns : goal.returns
returns c = rw (c.when_answered.ensures, c.vendor_places.ensures, c.vendor_rows.ensures, c.starts_with.ensures)
    (sym (vendor_signature_apart c.args.first c.args.b.now (search rules)))
