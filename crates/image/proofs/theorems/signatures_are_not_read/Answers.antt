-- No signature is read, by the law of that name.
use Rattle.image.proofs.Signatures.{signatures_are_not_read}
use Rattle.image.proofs.theorems.signatures_are_not_read.Goals as goal

pub returns : goal.returns
returns c = signatures_are_not_read
