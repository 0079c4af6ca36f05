-- The law of proofs/Again.antt.
use Rattle.writer.proofs.Again.{rewritten_images_are_the_same}
use Rattle.writer.proofs.theorems.rewritten_images_are_the_same.Goals as goal

pub returns : goal.returns
returns c = rewritten_images_are_the_same
