-- `sha256::blocks::serialised` meets its contract. The invariant: the bytes of i words are written.
use Rattle.std.proofs.Common.{◌≡◌, rules, sym, ◌∙◌, arith}
use Rattle.std.proofs.lemmas.List.{take_all}
use Rattle.std.proofs.lemmas.Slice.{overwrites}
use Rattle.sha256.proofs.Bytes.{spelt_more, spelt_all}
use Rattle.sha256.proofs.blocks.serialised.Goals as goal

pub loop-i-preserved : goal.loop-i-preserved
loop-i-preserved c = (
  search (rules, overwrites),
  spelt_more c.loop-i.digest _ _ c.loop-i.i _ c.loop-i.invariant.1 (omega arith) (rw (c.copy_from_slice.ensures.after, c.to_be_bytes.ensures)),
)

pub returns : goal.returns
returns c =
    let done : c.loop-i.i ≡ 8 = omega arith in
    sym (take_all 32 c.loop-i.digest (omega arith)) ∙ rw done at c.loop-i.invariant.1 ∙ spelt_all _
