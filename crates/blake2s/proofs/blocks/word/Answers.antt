-- `blake2s::blocks::word` meets its contract: a sum of what the calls ensure.
use Rattle.std.proofs.Common.{rules}
use Rattle.blake2s.specs.Rfc7693.{word_at}
use Rattle.blake2s.proofs.blocks.word.Goals as goal

pub returns : goal.returns
unfolding word_at
returns c = search rules
