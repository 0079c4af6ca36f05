-- `older_model::theorems::older_images_are_accepted`: what an acceptance says, and what makes one.
use Rattle.older_model.proofs.Accepted.{older_images_are_accepted}
use Rattle.older_model.proofs.theorems.older_images_are_accepted.Goals as goal

pub returns : goal.returns
returns c = older_images_are_accepted
