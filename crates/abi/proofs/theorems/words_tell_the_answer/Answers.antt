-- `abi::theorems::words_tell_the_answer` meets its contract: the law of `Told.antt`.
use Rattle.abi.proofs.Told.{words_tell_the_answer}
use Rattle.abi.proofs.theorems.words_tell_the_answer.Goals as goal

pub returns : goal.returns
returns c = words_tell_the_answer
