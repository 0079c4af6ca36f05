-- So far the loop has pasted the first i bytes of s; each turn pastes one more, and all of them pasted is the splice.
use mathlib.Core.Path.{◌≡◌, refl, ◌∙◌}
use native.Mathlib.Omega.{arith}
use native.Mathlib.Numerals.{add-one}
use lib.ListN.{length, length-set}
use lib.Seq.{paste-zero, paste-suc}
use Rattle.octets.proofs.Splice.{splice_paste}
use Rattle.octets.proofs.put.put_bytes.Goals as goal

pub loop-i-init : goal.loop-i-init
loop-i-init c = record { same_length = refl; pasted = paste-zero _ c.args.at c.args.s.now }

pub loop-i-preserved : goal.loop-i-preserved
loop-i-preserved c = record {
  same_length = simp length-set c.loop-i.invariant.same_length;
  pasted = rw (c.loop-i.invariant.pasted, add-one) (paste-suc c.args.out.now c.args.at c.args.s.now c.loop-i.i 0 (omega arith) (omega arith));
}

pub returns : goal.returns
returns c =
    let e : c.loop-i.i ≡ length c.args.s.now = omega arith in
    record { room = omega (arith); place = omega arith; is = (rw e at c.loop-i.invariant.pasted) ∙ splice_paste c.args.at c.args.s.now c.args.out.now }
