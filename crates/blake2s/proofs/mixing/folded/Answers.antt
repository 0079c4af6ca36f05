-- `blake2s::mixing::folded` meets its contract: by computation.
use Rattle.std.proofs.Common.{refl}
use Rattle.blake2s.specs.Rfc7693.{folded}
use Rattle.blake2s.proofs.mixing.folded.Goals as goal

pub returns : goal.returns
unfolding folded
returns c = refl
