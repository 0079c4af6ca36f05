-- `blake2s::blocks::absorb_run` meets its contract. The invariant: the state now is that after the blocks before offset o.
use Rattle.std.proofs.Common.{◌≡◌, ◌+◌, ◌-◌, ◌*◌, ◌/◌, refl, ap, arith}
use lib.Dec.{leb}
use Rattle.blake2s.proofs.Laws.{absorbed_none, absorbed_more}
use Rattle.blake2s.proofs.blocks.absorb_run.Goals as goal

pub loop-o-init : goal.loop-o-init
loop-o-init c = record { in_range = omega arith; whole = refl; so_far = absorbed_none _ _ _ _ }

pub loop-o-preserved : goal.loop-o-preserved
loop-o-preserved c =
    let j = c.loop-o.o / 64 in
    let place : 64 * (c.args.k + j - c.args.k) ≡ c.loop-o.o = omega (arith, c.loop-o.invariant.whole) in
    let stop : 64 * c.args.k + c.loop-o.o + 64 ≡ 64 * (c.args.k + j) + 64 = omega (arith, c.loop-o.invariant.whole) in
    let next : (c.loop-o.o + 64) / 64 ≡ j + 1 = omega arith in
    record {
      in_range = omega (arith, c.loop-o.invariant.whole);
      whole = omega (arith, c.loop-o.invariant.whole);
      so_far = rw next (absorbed_more _ _ _ c.args.k j c.loop-o.invariant.so_far (rw place) (rw stop at c.min.ensures) (ap (leb c.args.n) (omega (arith, c.loop-o.invariant.whole))) c.mix_at-now.ensures);
    }

pub returns : goal.returns
returns c = let z : c.loop-o.o / 64 ≡ c.args.count = omega (arith, c.loop-o.invariant.whole) in rw z at c.loop-o.invariant.so_far
