-- `loader::theorems::loaders_are_accepted` meets its contract: the law of `Accepted.antt`.
use Rattle.loader.proofs.Accepted.{loaders_are_accepted}
use Rattle.loader.proofs.theorems.loaders_are_accepted.Goals as goal

pub returns : goal.returns
returns c = loaders_are_accepted
