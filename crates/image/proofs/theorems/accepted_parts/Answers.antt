-- `image::theorems::accepted_parts` meets its contract: the law of `Parts.antt`.
use Rattle.image.proofs.Parts.{accepted_parts}
use Rattle.image.proofs.theorems.accepted_parts.Goals as goal

pub returns : goal.returns
returns c = accepted_parts
