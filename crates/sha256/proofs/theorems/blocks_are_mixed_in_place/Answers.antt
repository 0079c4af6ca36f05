-- `sha256::theorems::blocks_are_mixed_in_place` meets its contract, by the laws of the padded message.
use Rattle.sha256.proofs.Padding.{blocks_in_place}
use Rattle.sha256.proofs.theorems.blocks_are_mixed_in_place.Goals as goal

pub returns : goal.returns
returns c = blocks_in_place
