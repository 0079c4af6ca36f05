-- `abi::theorems::words_tell_the_loader` meets its contract: the law of `Told.antt`.
use Rattle.abi.proofs.Told.{words_tell_the_loader}
use Rattle.abi.proofs.theorems.words_tell_the_loader.Goals as goal

pub returns : goal.returns
returns c = words_tell_the_loader
