-- `loader::theorems::loader_headers_answer` meets its contract: the law of `Accepted.antt`.
use Rattle.loader.proofs.Accepted.{loader_headers_answer}
use Rattle.loader.proofs.theorems.loader_headers_answer.Goals as goal

pub returns : goal.returns
returns c = loader_headers_answer
