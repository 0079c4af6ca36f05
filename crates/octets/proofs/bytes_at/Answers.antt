-- After j turns the first j bytes of the array are the first j of the place.
use Rattle.std.proofs.Common.{◌≡◌, sym, ◌∙◌, arith, rules, refl}
use Rattle.std.proofs.Math.ListN.{length-replicate}
use Rattle.std.proofs.Math.Seq.{take_all}
use Rattle.octets.specs.Read.{bytes_at}
use Rattle.octets.proofs.Laws.{byte_rest, byte_more}
use Rattle.octets.proofs.bytes_at.Goals as goal

pub loop-j-init : goal.loop-j-init
unfolding bytes_at
loop-j-init g c = record { long = length-replicate g.row.N 0; filled = refl }

pub loop-j-preserved : goal.loop-j-preserved
loop-j-preserved g c =
    let x = byte_rest c.args.s.now c.args.at c.loop-j.j c.rest-r.ensures c.byte_at.ensures in
    record { long = search rules; filled = byte_more c.loop-j.bytes _ _ c.loop-j.j (omega arith) c.loop-j.invariant.filled x }

pub returns : goal.returns
returns g c =
    let e : c.loop-j.j ≡ g.row.N = omega arith in
    sym (take_all g.row.N c.loop-j.bytes (omega arith)) ∙ (rw e at c.loop-j.invariant.filled)
