-- `image::chunks::hash_table_at` meets its contract: the loop's invariant is that the first k hashes are in the table; each turn appends one.
use borrow.Author.Rules.{rules}
use native.Mathlib.Omega.{arith}
use mathlib.Core.Path.{◌≡◌, refl, sym, ◌∙◌}
use lib.Seq.{take_all}
use Rattle.image.specs.Chunks.{hashes_at}
use Rattle.image.proofs.Hashes.{hash_at_more}
use Rattle.image.proofs.chunks.hash_table_at.Goals as goal

pub loop-k-init : goal.loop-k-init
unfolding hashes_at
loop-k-init c = (search rules, refl)

pub loop-k-preserved : goal.loop-k-preserved
loop-k-preserved c = (search rules, hash_at_more c.loop-k.t _ _ c.loop-k.k (omega arith) c.loop-k.invariant.1 c.bytes_at.ensures)

pub returns : goal.returns
returns c =
    let e : c.loop-k.k ≡ 16 = omega arith in
    sym (take_all 16 c.loop-k.t (omega arith)) ∙ (rw e at c.loop-k.invariant.1)
