-- `signing::places::firmware_signature` meets its contract: the rows are asked with S1's own answer, and the calls promise the rest.
use Rattle.signing.specs.Places.{firmware_signature}
use Rattle.signing.proofs.places.firmware_signature.Goals as goal

pub returns : goal.returns
unfolding firmware_signature
returns c = rw (c.when_answered.ensures, c.firmware_places.ensures, c.firmware_rows.ensures, c.vendor_magic_missing.ensures)
