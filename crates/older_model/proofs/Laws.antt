-- How the calls of older_model meet their definitions.
-- Assumes nothing.
use Prim.Native.Nat.{ℕ}
use mathlib.Core.Path.{◌≡◌, sym, ap, ◌∙◌}
use mathlib.Core.Bool.{Bool}
use mathlib.Core.List.{List, ◌∷◌, ◌++◌, append_assoc}
use Rattle.header.specs.Table.{Row, step, first_failing, or_else}
use Rattle.header.specs.Outcome.{Outcome}
use Rattle.header.proofs.Rows.{first_append}
use Rattle.image.specs.Answer.{Answer, image_at, answer_of}
use Rattle.older_model.specs.declared.OlderInputs.{OlderInputs}
use Rattle.older_model.specs.Steps.{sheet_impossible}
use Rattle.older_model.specs.Check.{v2_shape, v2_policy, code_rows, v2_rows, v2_headers, form_headers, form_rows, form_check}

-- ---- headers, and then code

module _ (before : List ℕ → OlderInputs → List Row) (other : List ℕ → Bool) (at : ℕ) (t : Bool) (b : List ℕ) (given : OlderInputs) where
  joined : or_else (first_failing (form_headers before other at b given)) (first_failing (code_rows t b at)) ≡ first_failing (form_rows before other at t b given)
  unfolding v2_rows
  joined =
      sym (first_append (form_headers before other at b given) (code_rows t b at))
      ∙ ap
      (λ (l : List Row). first_failing (step (sheet_impossible given.keys) 16 0 ∷ l))
      (append_assoc (before b given) (v2_headers (other b) b at given) (code_rows t b at)
      ∙ ap (λ (l : List Row). before b given ++ l) (append_assoc (v2_shape (other b) b at) (v2_policy b at given) (code_rows t b at)))

  -- h is the outcome of the headers, o that of all, a the answer; c and n are the bytes and the offset of the V2 header
  pub form_checked : {h o : Outcome} {a : Answer} {c : List ℕ} {n : ℕ} → c ≡ b → n ≡ at → h ≡ first_failing (form_headers before other at b given) → o ≡ or_else h (first_failing (code_rows t c n))
      → a ≡ answer_of o (image_at c 0 n) → a ≡ form_check before other at t b given
  form_checked {o = o} same start e g i =
      let all : o ≡ first_failing (form_rows before other at t b given) = rw (same, start, e) at g ∙ joined in
      rw (same, start, all) at i
