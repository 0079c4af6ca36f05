-- The law of proofs/Passes.antt.
use Rattle.writer.proofs.Passes.{written_images_pass}
use Rattle.writer.proofs.theorems.written_images_pass.Goals as goal

pub returns : goal.returns
returns c = written_images_pass
