-- `blake2s::blocks::block_at` meets its contract: by what the calls ensure.
use Rattle.blake2s.specs.Rfc7693.{block_at}
use Rattle.blake2s.proofs.blocks.block_at.Goals as goal

pub returns : goal.returns
unfolding block_at
returns c = rw (← c.four_words-w0.ensures, ← c.four_words-w1.ensures, ← c.four_words-w2.ensures, ← c.four_words-w3.ensures)
