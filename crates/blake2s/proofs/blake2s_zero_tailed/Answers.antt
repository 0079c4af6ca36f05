-- `blake2s::blake2s_zero_tailed` meets its contract: past the end of the lent bytes its blocks are zeros.
use Rattle.std.proofs.Common.{[], refl, arith}
use Rattle.blake2s.proofs.Laws.{message_hashed}
use Rattle.blake2s.proofs.blake2s_zero_tailed.Goals as goal

pub returns : goal.returns
returns c = message_hashed [] _ _ refl (omega arith) (omega arith) (λ h. absurd (omega arith)) c.digest.ensures
