-- The law of `Interrupted.antt`.
use Rattle.flash.proofs.Interrupted.{interrupted_operations}
use Rattle.flash.proofs.theorems.interrupted_operations.Goals as goal

pub returns : goal.returns
returns c = interrupted_operations
