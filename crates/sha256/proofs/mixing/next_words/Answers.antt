-- `sha256::mixing::next_words` meets its contract: four words of the schedule at a time.
use Rattle.std.proofs.Common.{refl}
use Rattle.sha256.specs.Words.{quad}
use Rattle.sha256.proofs.Rounds.{sixteen_more}
use Rattle.sha256.proofs.mixing.next_words.Goals as goal

pub returns : goal.returns
returns c =
    let w = c.args.w in
    let q0 = c.next_four-q0 in
    let q1 = c.next_four-q1 in
    let q2 = c.next_four-q2 in
    let q3 = c.next_four-q3 in
    sixteen_more (quad w.q0) (quad w.q1) (quad w.q2) (quad w.q3) (quad q0.result) (quad q1.result) (quad q2.result) (quad q3.result) refl refl refl q0.ensures q1.ensures q2.ensures q3.ensures
