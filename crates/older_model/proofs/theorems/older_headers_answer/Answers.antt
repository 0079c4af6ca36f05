-- `older_model::theorems::older_headers_answer`: the rows of each question pass exactly for its headers.
use Rattle.older_model.proofs.Answers.{older_headers_answer}
use Rattle.older_model.proofs.theorems.older_headers_answer.Goals as goal

pub returns : goal.returns
returns c = older_headers_answer
