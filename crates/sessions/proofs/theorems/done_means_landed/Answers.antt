-- The law of `Landing.antt`.
use Rattle.sessions.proofs.Landing.{done_means_landed}
use Rattle.sessions.proofs.theorems.done_means_landed.Goals as goal

pub returns : goal.returns
returns c = done_means_landed
