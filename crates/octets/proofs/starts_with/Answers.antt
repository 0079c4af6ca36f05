-- std's test compares the magic with as many of the bytes.
use Rattle.std.proofs.Common.{◌∙◌}
use Rattle.octets.proofs.Laws.{starts_is}
use Rattle.octets.proofs.starts_with.Goals as goal

pub returns : goal.returns
returns c = c.starts_with.ensures.value ∙ starts_is c.args.magic.now c.args.s.now
