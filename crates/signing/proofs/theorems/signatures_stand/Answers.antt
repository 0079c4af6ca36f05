-- `signing::theorems::signatures_stand` meets its contract: the law of `Signatures.antt`.
use Rattle.signing.proofs.Signatures.{signatures_stand}
use Rattle.signing.proofs.theorems.signatures_stand.Goals as goal

pub returns : goal.returns
returns c = signatures_stand
