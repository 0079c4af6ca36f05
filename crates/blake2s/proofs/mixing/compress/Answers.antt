-- `blake2s::mixing::compress` meets its contract: each call is a step of F.
use Rattle.blake2s.specs.Rfc7693.{SIGMA}
use Rattle.blake2s.proofs.Laws.{ran, none, compressed}
use Rattle.blake2s.proofs.mixing.compress.Goals as goal

pub returns : goal.returns
unfolding SIGMA
returns c = compressed _ _ _ _ c.work_vector-v.ensures c.folded.ensures
    (ran _ _ _ _ c.columns-v.ensures c.diagonals-v.ensures
    (ran _ _ _ _ c.columns-v-2.ensures c.diagonals-v-2.ensures
    (ran _ _ _ _ c.columns-v-3.ensures c.diagonals-v-3.ensures
    (ran _ _ _ _ c.columns-v-4.ensures c.diagonals-v-4.ensures
    (ran _ _ _ _ c.columns-v-5.ensures c.diagonals-v-5.ensures
    (ran _ _ _ _ c.columns-v-6.ensures c.diagonals-v-6.ensures
    (ran _ _ _ _ c.columns-v-7.ensures c.diagonals-v-7.ensures
    (ran _ _ _ _ c.columns-v-8.ensures c.diagonals-v-8.ensures
    (ran _ _ _ _ c.columns-v-9.ensures c.diagonals-v-9.ensures
    (ran _ _ _ _ c.columns-v-10.ensures c.diagonals-v-10.ensures
    (none _ _)))))))))))
