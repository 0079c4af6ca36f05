-- `blake2s::mixing::g3` meets its contract: in each of the three, the definition's steps are the code's.
use Rattle.blake2s.proofs.Halves.{stepped}
use Rattle.blake2s.proofs.mixing.g3.Goals as goal

pub returns : goal.returns
returns c = (
  stepped _ _ _ _ _ _
      (rw c.wrapping_add.ensures.0 at c.wrapping_add-a1.ensures.0) (rw c.bitxor.ensures.0 at c.rotate_right-d1.ensures.0)
      c.wrapping_add-c1.ensures.0 (rw c.bitxor-2.ensures.0 at c.rotate_right-b1.ensures.0)
      (rw c.wrapping_add-2.ensures.0 at c.wrapping_add-a2.ensures.0) (rw c.bitxor-3.ensures.0 at c.rotate_right-d2.ensures.0)
      c.wrapping_add-c2.ensures.0 (rw c.bitxor-4.ensures.0 at c.rotate_right-b2.ensures.0),
  stepped _ _ _ _ _ _
      (rw c.wrapping_add.ensures.1 at c.wrapping_add-a1.ensures.1) (rw c.bitxor.ensures.1 at c.rotate_right-d1.ensures.1)
      c.wrapping_add-c1.ensures.1 (rw c.bitxor-2.ensures.1 at c.rotate_right-b1.ensures.1)
      (rw c.wrapping_add-2.ensures.1 at c.wrapping_add-a2.ensures.1) (rw c.bitxor-3.ensures.1 at c.rotate_right-d2.ensures.1)
      c.wrapping_add-c2.ensures.1 (rw c.bitxor-4.ensures.1 at c.rotate_right-b2.ensures.1),
  stepped _ _ _ _ _ _
      (rw c.wrapping_add.ensures.2 at c.wrapping_add-a1.ensures.2) (rw c.bitxor.ensures.2 at c.rotate_right-d1.ensures.2)
      c.wrapping_add-c1.ensures.2 (rw c.bitxor-2.ensures.2 at c.rotate_right-b1.ensures.2)
      (rw c.wrapping_add-2.ensures.2 at c.wrapping_add-a2.ensures.2) (rw c.bitxor-3.ensures.2 at c.rotate_right-d2.ensures.2)
      c.wrapping_add-c2.ensures.2 (rw c.bitxor-4.ensures.2 at c.rotate_right-b2.ensures.2),
)
