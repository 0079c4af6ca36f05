-- `image::theorems::erased_or_zero_is_refused` meets its contract: the law of `Erased.antt`.
use Rattle.image.proofs.Erased.{erased_or_zero_refused}
use Rattle.image.proofs.theorems.erased_or_zero_is_refused.Goals as goal

pub returns : goal.returns
returns c = erased_or_zero_refused
