-- No signature is signed, by the law of that name.
use Rattle.signing.proofs.Unsigned.{signatures_are_not_signed}
use Rattle.signing.proofs.theorems.signatures_are_not_signed.Goals as goal

pub returns : goal.returns
returns c = signatures_are_not_signed
