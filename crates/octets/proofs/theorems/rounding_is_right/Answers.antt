-- Each field is a law of its own.
use Rattle.octets.proofs.Rounding.{rounds_up, whole_times, stays}
use Rattle.octets.proofs.theorems.rounding_is_right.Goals as goal

pub returns : goal.returns
returns c = record { rounds_up = rounds_up; whole_times = λ size x h. whole_times size x; stays = stays }
