-- What the words of a check and of a choice tell. A loader starts its area, so its own length is all that is needed to find it.
-- Assumes nothing.
use Prim.Native.Nat.{ℕ, zero, suc, ◌+◌, ◌-◌, ◌≤◌}
use mathlib.Core.Path.{◌≡◌, refl, ap}
use mathlib.Core.List.{List, [], ◌∷◌}
use native.Mathlib.Omega.{arith}
use lib.ListN.{length, get_or, take, drop, length-take}
use Rattle.octets.specs.Read.{between}
use Rattle.code_header.specs.Layout.{code_end_at}
use Rattle.std.specs.Prelude.{Result, Ok, Err}
use Rattle.header.specs.Outcome.{number_of}
use Rattle.header.specs.declared.Refusal.{Refusal}
use Rattle.loader.specs.declared.choice.Area.TheVariants.{Card, Internal}
use Rattle.loader.specs.Choice.{Choice, loader_of, part_of}
use Rattle.abi.specs.Inputs.{inputs_of}
use Rattle.abi.specs.Answers.{answer_words, told_words}
use Rattle.abi.specs.Loaders.{area_inputs_of, loader_words}
use Rattle.abi.specs.Theorems.{area_bytes, WordsTellTheAnswer, WordsTellTheLoader}

-- as many bytes from the start as the start has
start_found : (n : ℕ) (b : List ℕ) → take (length (take n b)) b ≡ take n b
start_found zero b = refl
start_found (suc n) [] = refl
start_found (suc n) (x ∷ b) = ap (λ (t : List ℕ). x ∷ t) (start_found n b)

loader_found : (b : List ℕ) → take (length (loader_of b)) b ≡ loader_of b
unfolding loader_of between
loader_found b = start_found (code_end_at b 0 - 0) b

placed : (c : Choice) (card internal : List ℕ)
    → take (get_or (loader_words c card internal) 2 0) (drop (get_or (loader_words c card internal) 1 0) (area_bytes c card internal)) ≡ part_of c card internal
unfolding loader_words
placed (Ok Card) card internal = loader_found card
placed (Ok Internal) card internal = loader_found internal
placed (Err r) card internal = refl

loader_within : (b : List ℕ) → length (loader_of b) ≤ length b
unfolding loader_of between
loader_within b = let l = length-take (code_end_at b 0 - 0) b in omega arith

held : (c : Choice) (card internal : List ℕ) → get_or (loader_words c card internal) 1 0 + get_or (loader_words c card internal) 2 0 ≤ length (area_bytes c card internal)
unfolding loader_words
held (Ok Card) card internal = let w = loader_within card in omega arith
held (Ok Internal) card internal = let w = loader_within internal in omega arith
held (Err r) card internal = omega arith

-- the number of any answer is its first word
first_word : {A : Type 0} (a : Result A Refusal) → number_of a ≡ get_or (answer_words a) 0 0
first_word (Ok a) = refl
first_word (Err r) = refl

pub words_tell_the_loader : WordsTellTheLoader
unfolding area_inputs_of loader_words
words_tell_the_loader =
    record {
      time = λ w. refl;
      m = λ w. refl;
      n = λ w. refl;
      card_verdict = λ w. refl;
      internal_verdict = λ w. refl;
      chosen = (refl, refl);
      refused = λ r. refl;
      number = first_word;
      card = λ card internal. refl;
      internal = λ card internal. refl;
      neither = λ r card internal. refl;
      bytes = placed;
      within = held;
    }

-- ---- a check

pub words_tell_the_answer : WordsTellTheAnswer
unfolding inputs_of told_words
words_tell_the_answer =
    record {
      time = λ w. refl;
      m = λ w. refl;
      n = λ w. refl;
      vendor = λ w. refl;
      firmware = λ w. refl;
      accepted = λ i. refl;
      rejected = λ r. refl;
      number = first_word;
      passed = λ d. refl;
      refused = λ r. refl;
      question_number = first_word;
      digest = λ d old. refl;
      digest_kept = λ r old. refl;
      told = λ i old. refl;
      kept = λ r old. refl;
    }
