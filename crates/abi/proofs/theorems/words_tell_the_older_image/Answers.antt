-- `abi::theorems::words_tell_the_older_image` meets its contract, by the laws of the words and of places.
use Rattle.abi.proofs.OlderWords.{words_tell_the_older_image}
use Rattle.abi.proofs.theorems.words_tell_the_older_image.Goals as goal

pub returns : goal.returns
returns c = words_tell_the_older_image
