-- `blake2s::blocks::four_words` meets its contract: by what the calls ensure.
use Rattle.blake2s.specs.Rfc7693.{four_at}
use Rattle.blake2s.proofs.blocks.four_words.Goals as goal

pub returns : goal.returns
unfolding four_at
returns c = rw (c.word.ensures, c.word-2.ensures, c.word-3.ensures, c.word-4.ensures)
