-- `abi_session::theorems::words_tell_the_operation` meets its contract: the law of `Told.antt`.
use Rattle.abi_session.proofs.Told.{words_tell_the_operation}
use Rattle.abi_session.proofs.theorems.words_tell_the_operation.Goals as goal

pub returns : goal.returns
returns c = words_tell_the_operation
