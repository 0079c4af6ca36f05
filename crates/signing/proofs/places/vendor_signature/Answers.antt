-- `signing::places::vendor_signature` meets its contract: the rows are asked with S1's own answer, and the calls promise the rest.
use Rattle.signing.specs.Places.{vendor_signature}
use Rattle.signing.proofs.places.vendor_signature.Goals as goal

pub returns : goal.returns
unfolding vendor_signature
returns c = rw (c.when_answered.ensures, c.vendor_places.ensures, c.vendor_rows.ensures, c.vendor_magic_missing.ensures)
