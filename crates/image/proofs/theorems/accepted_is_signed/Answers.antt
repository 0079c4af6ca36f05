-- An accepted image is signed, by the law of that name.
use Rattle.image.proofs.Signed.{accepted_is_signed}
use Rattle.image.proofs.theorems.accepted_is_signed.Goals as goal

pub returns : goal.returns
returns c = accepted_is_signed
