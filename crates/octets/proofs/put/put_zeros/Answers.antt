-- What the slice holds is the splice of the zeros.
use Rattle.std.proofs.Common.{arith, ◌≡◌, length, rules, refl, ◌∙◌}
use Rattle.std.proofs.lemmas.Slice.{put_mid-paste}
use Rattle.octets.specs.Put.{zeros}
use Rattle.octets.proofs.Splice.{splice_paste, length_zeros}
use Rattle.octets.proofs.put.put_zeros.Goals as goal

pub returns : goal.returns
unfolding zeros
returns c =
    let n : length (zeros c.args.n) ≡ c.args.n = length_zeros c.args.n in
    let filled : c.fill.new.self ≡ zeros c.args.n = search rules in (
      refl,
      record {
        room = omega arith;
        place = omega arith;
        is = put_mid-paste c.args.at _ c.args.out.now _ (zeros c.args.n) (length (zeros c.args.n)) filled (omega arith) (omega arith) ∙ splice_paste c.args.at (zeros c.args.n) c.args.out.now;
      },
    )
