-- `image::theorems::accepted_before_erased_bytes` meets its contract: the law of `Erased.antt`.
use Rattle.image.proofs.Erased.{accepted_before_erased}
use Rattle.image.proofs.theorems.accepted_before_erased_bytes.Goals as goal

pub returns : goal.returns
returns c = accepted_before_erased
