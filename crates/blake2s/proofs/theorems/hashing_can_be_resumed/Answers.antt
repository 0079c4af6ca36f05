-- `blake2s::theorems::hashing_can_be_resumed`: by induction on the first slice's blocks.
use Rattle.blake2s.proofs.Laws.{resumed}
use Rattle.blake2s.proofs.theorems.hashing_can_be_resumed.Goals as goal

pub returns : goal.returns
returns c = resumed
