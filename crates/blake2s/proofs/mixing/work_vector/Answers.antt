-- `blake2s::mixing::work_vector` meets its contract: by computation.
use Rattle.blake2s.specs.Rfc7693.{work_vector}
use Rattle.blake2s.proofs.mixing.work_vector.Goals as goal

pub returns : goal.returns
unfolding work_vector
returns c = rw (← c.inverting-f.ensures)
