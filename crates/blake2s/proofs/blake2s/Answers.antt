-- `blake2s::blake2s` meets its contract: its blocks are those of the lent bytes.
use Rattle.blake2s.proofs.Laws.{plain_hashed}
use Rattle.blake2s.proofs.blake2s.Goals as goal

pub returns : goal.returns
returns c = plain_hashed _ _ c.digest.ensures
