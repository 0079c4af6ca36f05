-- `blake2s::mixing::columns` meets its contract: `g` and `g3` mix four words of the vector in each G.
use Rattle.blake2s.proofs.Halves.{handed, mixed, columns_mixed, columns_met}
use Rattle.blake2s.proofs.mixing.columns.Goals as goal

pub returns : goal.returns
unfolding columns_mixed mixed
returns c = columns_met _ _ _ _ _ _ _ _ _ _ _ _ _ _ _ _ _ _ _ _ _ _ _ _
    (rw (
      ← c.g-q.ensures,
      ← handed c.new.ensures.0 c.new-2.ensures.0 c.new-3.ensures.0 c.new-4.ensures.0 c.new-5.ensures.0 c.new-6.ensures.0 c.g3-p.ensures.0,
      ← handed c.new.ensures.1 c.new-2.ensures.1 c.new-3.ensures.1 c.new-4.ensures.1 c.new-5.ensures.1 c.new-6.ensures.1 c.g3-p.ensures.1,
      ← handed c.new.ensures.2 c.new-2.ensures.2 c.new-3.ensures.2 c.new-4.ensures.2 c.new-5.ensures.2 c.new-6.ensures.2 c.g3-p.ensures.2,
    ))
