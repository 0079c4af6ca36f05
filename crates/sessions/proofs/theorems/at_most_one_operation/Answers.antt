-- The law of `Operations.antt`.
use Rattle.sessions.proofs.Operations.{at_most_one_operation}
use Rattle.sessions.proofs.theorems.at_most_one_operation.Goals as goal

pub returns : goal.returns
returns c = at_most_one_operation
