-- `blake2s::mixing::g` meets its contract: the definition's steps are the code's.
use Rattle.blake2s.proofs.Halves.{steps}
use Rattle.blake2s.proofs.mixing.g.Goals as goal

pub returns : goal.returns
returns c = steps _ _ _ _ _ _ c.ranges.b.fits c.ranges.d.fits c.rotate_right-d1.type_inv c.rotate_right-d1.ensures c.rotate_right-b1.type_inv c.rotate_right-b1.ensures c.rotate_right-d2.ensures c.rotate_right-b2.ensures
