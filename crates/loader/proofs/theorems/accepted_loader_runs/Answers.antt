-- `loader::theorems::accepted_loader_runs` meets its contract: the law of `Runs.antt`.
use Rattle.loader.proofs.Runs.{accepted_loader_runs}
use Rattle.loader.proofs.theorems.accepted_loader_runs.Goals as goal

pub returns : goal.returns
returns c = accepted_loader_runs
