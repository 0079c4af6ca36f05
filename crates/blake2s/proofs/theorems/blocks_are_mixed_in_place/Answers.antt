-- `blake2s::theorems::blocks_are_mixed_in_place` meets its contract, by the laws of blocks in place.
use Rattle.blake2s.proofs.InPlace.{blocks_in_place}
use Rattle.blake2s.proofs.theorems.blocks_are_mixed_in_place.Goals as goal

pub returns : goal.returns
returns c = blocks_in_place
