-- Number, part and chunk of each question are the promise of `answer_words`.
use mathlib.Core.Path.{◌≡◌, refl}
use mathlib.Core.List.{[], ◌∷◌, ◌++◌}
use lib.ListN.{get_or}
use Rattle.std.specs.Prelude.{Ok, Err}
use Rattle.abi.specs.Answers.{answer_words}
use Rattle.signing.specs.Digests.{Digest}
use Rattle.abi_session.proofs.asked.asked_words.Goals as goal

-- six words one by one
one_by_one : (v f : Digest) →
    get_or (answer_words v) 0 0 ∷ get_or (answer_words v) 1 0 ∷ get_or (answer_words v) 2 0 ∷ get_or (answer_words f) 0 0 ∷ get_or (answer_words f) 1 0 ∷ get_or (answer_words f) 2 0 ∷ []
    ≡ answer_words v ++ answer_words f
one_by_one (Ok d) (Ok e) = refl
one_by_one (Ok d) (Err r) = refl
one_by_one (Err r) (Ok d) = refl
one_by_one (Err r) (Err s) = refl

pub returns : goal.returns
returns c = rw (c.answer_words-v.ensures, c.answer_words-f.ensures) (one_by_one c.args.asked.vendor c.args.asked.firmware)
