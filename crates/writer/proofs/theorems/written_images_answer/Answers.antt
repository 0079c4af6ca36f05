-- The law of proofs/Answers.antt.
use Rattle.writer.proofs.Answers.{written_images_answer}
use Rattle.writer.proofs.theorems.written_images_answer.Goals as goal

pub returns : goal.returns
returns c = written_images_answer
