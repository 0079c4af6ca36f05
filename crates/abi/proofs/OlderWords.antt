-- What the words of the older model tell: each input is read at its place, and the place of the code holds it.
-- Assumes nothing.
use Prim.Native.Nat.{ℕ, ◌+◌, ◌-◌, ◌≤◌, min}
use mathlib.Core.Path.{◌≡◌, refl, sym, ap₂, ◌∙◌}
use mathlib.Core.Bool.{Bool, true, false, cond}
use mathlib.Core.List.{List, [], ◌∷◌}
use native.Mathlib.Omega.{arith}
use native.Mathlib.Decide.{dec_le}
use lib.Dec.{eqb}
use lib.ListN.{length, get_or, take, drop, replicate}
use borrow.Author.Tests.{ne_eqb}
use Rattle.octets.specs.Read.{between}
use Rattle.octets.proofs.Laws.{between_end, between_past}
use Rattle.code_header.specs.Layout.{code_start_at, code_end_at}
use Rattle.image.specs.Areas.{code_span_at}
use Rattle.image.specs.Chunks.{code_at}
use Rattle.abi.specs.Places.{placed}
use Rattle.abi.specs.Older.{older_inputs_of, code_words}
use Rattle.abi.specs.Theorems.{WordsTellTheOlderImage}

-- the bytes from an offset up to another are those at the place that is told, whose ends are not past the bytes
place_holds : (b : List ℕ) (a e : ℕ) → between (min a (length b)) (min e (length b)) b ≡ between a e b
place_holds b a e =
    elim (dec_le a (length b)) [
      | no y ↦ between_past (min a (length b)) (min e (length b)) b (omega arith) ∙ sym (between_past a e b (omega arith))
      | yes y ↦
          elim (dec_le e (length b)) [
            | yes z ↦ ap₂ (λ (s t : ℕ). between s t b) (omega arith) (omega arith)
            | no z ↦
                ap₂ (λ (s t : ℕ). between s t b) (omega arith) (omega arith)
                ∙ between_end a (length b) b (omega arith)
                ∙ sym (between_end a e b (omega arith))
          ]
    ]

code_placed : (at : ℕ) (b : List ℕ)
    → take (min (code_end_at b at) (length b) - min (code_start_at at) (length b)) (drop (min (code_start_at at) (length b)) b) ≡ code_at b at
unfolding between
code_placed at b = place_holds b (code_start_at at) (code_end_at b at)

-- no place reaches past the bytes
code_within : (at number : ℕ) (b : List ℕ) → get_or (code_words at number b) 0 0 + get_or (code_words at number b) 1 0 ≤ length b
unfolding code_words
code_within at number b = go (eqb number 0)
  where
    go : (t : Bool) → get_or (cond t (placed (length b) (code_span_at b at)) (replicate 2 0)) 0 0 + get_or (cond t (placed (length b) (code_span_at b at)) (replicate 2 0)) 1 0 ≤ length b
    go true = omega arith
    go false = omega arith

code_none : (at number : ℕ) (b : List ℕ) → 1 ≤ number → code_words at number b ≡ 0 ∷ 0 ∷ []
unfolding code_words
code_none at number b h = let n : number ≡ 0 → ⊥ = λ e. omega arith in rw (ne_eqb number 0 n)

pub words_tell_the_older_image : WordsTellTheOlderImage
unfolding older_inputs_of code_words
words_tell_the_older_image =
    record {
      time = λ w. refl;
      keys = λ w. refl;
      legacy_one = λ w. refl;
      legacy_two = λ w. refl;
      legacy_three = λ w. refl;
      v2_one = λ w. refl;
      v2_two = λ w. refl;
      v2_three = λ w. refl;
      code = λ at b. code_placed at b;
      within = code_within;
      none = code_none;
    }
