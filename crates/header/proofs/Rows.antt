-- How the rows of a table answer: one row, one group of rows, and two tables side by side.
-- Assumes nothing.
use Prim.Native.Nat.{ℕ, zero, ◌≤◌}
use mathlib.Core.Path.{◌≡◌, refl, sym, subst, ap, ◌∙◌}
use mathlib.Core.List.{List, [], ◌∷◌, ◌++◌}
use mathlib.Core.Bool.{Bool, true, false}
use native.Mathlib.Omega.{arith}
use Rattle.header.specs.declared.Refusal.{Refusal}
use Rattle.header.specs.Outcome.{Outcome}
use Rattle.std.specs.Prelude.{Result, Ok, Err}
use Rattle.std.specs.Result.{IsErr, IsErrAnd}
use Rattle.header.specs.Table.{Row, row, first_failing, or_else, extent_rows_at}

-- ---- a function that goes by the rows of a table

-- o is what a `?` returned of the refusal e
pub handed_on : {A : Type 0} {o : Result A Refusal} {e : Refusal} → IsErr o × IsErrAnd o (λ (r : Refusal). r ≡ e) → o ≡ Err e
handed_on {o = Ok a} h = absurd h.1
handed_on {o = Err r} h = ap Err h.1

-- x is what the row's `step` answered, which was given g for the row's test f; o is what the function returns
pub row_fails : {x o : Outcome} {f g : Bool} {e : Refusal} (r : Refusal) (rows : List Row) → x ≡ first_failing (row g r ∷ []) → g ≡ f → x ≡ Err e → o ≡ Err e → o ≡ first_failing (row f r ∷ rows)
unfolding first_failing
row_fails {g = true} r rows asked t failed h = rw (← t) (h ∙ sym failed ∙ asked)
row_fails {g = false} r rows asked t failed h = cc

pub row_passes : {x o : Outcome} {f g : Bool} {u : Unit {0}} (r : Refusal) (rows : List Row) → x ≡ first_failing (row g r ∷ []) → g ≡ f → x ≡ Ok u → o ≡ first_failing rows → o ≡ first_failing (row f r ∷ rows)
unfolding first_failing
row_passes {g = true} r rows asked t passed h = cc
row_passes {g = false} r rows asked t passed h = rw (← t) h

-- the last row's `step` is what the function returns
pub row_last : {o : Outcome} {f g : Bool} (r : Refusal) → o ≡ first_failing (row g r ∷ []) → g ≡ f → o ≡ first_failing (row f r ∷ [])
row_last r asked t = rw (← t) asked

-- a test f that the function makes itself
pub row_fails_here : {x o : Outcome} {e : Refusal} (f : Bool) (r : Refusal) (rows : List Row) → x ≡ first_failing (row f r ∷ []) → x ≡ Err e → o ≡ Err e → o ≡ first_failing (row f r ∷ rows)
row_fails_here f r rows asked failed h = row_fails r rows asked refl failed h

pub row_passes_here : {x o : Outcome} {u : Unit {0}} (f : Bool) (r : Refusal) (rows : List Row) → x ≡ first_failing (row f r ∷ []) → x ≡ Ok u → o ≡ first_failing rows → o ≡ first_failing (row f r ∷ rows)
row_passes_here f r rows asked passed h = row_passes r rows asked refl passed h

-- ---- a row whose test is known

pub fails_here : {f : Bool} {o : Outcome} (r : Refusal) (rows : List Row) → f ≡ true → o ≡ Err r → o ≡ first_failing (row f r ∷ rows)
unfolding first_failing
fails_here r rows t h = rw t h

pub passes_here : {f : Bool} {o : Outcome} (r : Refusal) (rows : List Row) → f ≡ false → o ≡ first_failing rows → o ≡ first_failing (row f r ∷ rows)
unfolding first_failing
passes_here r rows t h = rw t h

-- no row is left
pub ends : Ok tt ≡ first_failing []
unfolding first_failing
ends = refl

-- ---- a group of rows before others

pub first_append : (rows more : List Row) → first_failing (rows ++ more) ≡ or_else (first_failing rows) (first_failing more)
unfolding first_failing
first_append [] more = refl
first_append (row true r ∷ rows) more = refl
first_append (row false r ∷ rows) more = first_append rows more

-- x is what the group's function returned
pub stage_fails : {x o : Outcome} {r : Refusal} (rows more : List Row) → x ≡ first_failing rows → x ≡ Err r → o ≡ Err r → o ≡ first_failing (rows ++ more)
stage_fails rows more e t h = h ∙ sym (rw (first_append, ← e, t))

pub stage_passes : {x o : Outcome} {u : Unit {0}} (rows more : List Row) → x ≡ first_failing rows → x ≡ Ok u → o ≡ first_failing more → o ≡ first_failing (rows ++ more)
stage_passes rows more e t h = h ∙ sym (rw (first_append, ← e, t))

-- ---- a table that passes

-- its first row does not fail, and the rows after it pass
pub pass_head : (f : Bool) (r : Refusal) (rows : List Row) → first_failing (row f r ∷ rows) ≡ Ok tt → f ≡ false
unfolding first_failing
pass_head true r rows h = cc
pass_head false r rows h = refl

pub pass_tail : (f : Bool) (r : Refusal) (rows : List Row) → first_failing (row f r ∷ rows) ≡ Ok tt → first_failing rows ≡ Ok tt
unfolding first_failing
pass_tail true r rows h = cc
pass_tail false r rows h = h

-- its first group passes, and so do the rows after it
pub stage_first : (rows more : List Row) → first_failing (rows ++ more) ≡ Ok tt → first_failing rows ≡ Ok tt
stage_first rows more h = go (first_failing rows) (sym (first_append rows more) ∙ h)
  where
    go : (o : Outcome) → or_else o (first_failing more) ≡ Ok tt → o ≡ Ok tt
    go (Ok tt) e = refl
    go (Err r) e = e

pub stage_then : (rows more : List Row) → first_failing (rows ++ more) ≡ Ok tt → first_failing more ≡ Ok tt
stage_then rows more h = go (first_failing rows) (sym (first_append rows more) ∙ h)
  where
    go : (o : Outcome) → or_else o (first_failing more) ≡ Ok tt → first_failing more ≡ Ok tt
    go (Ok tt) e = e
    go (Err r) e = cc

-- ---- two tables that answer the same

-- their first rows have the same test, and where it passes the rows after them answer the same
pub same_row : {f g : Bool} (r : Refusal) (rows rows' : List Row) → f ≡ g → (g ≡ false → first_failing rows ≡ first_failing rows')
    → first_failing (row f r ∷ rows) ≡ first_failing (row g r ∷ rows')
unfolding first_failing
same_row {g = g} r rows rows' e h = rw e (go g h)
  where
    go : (g : Bool) → (g ≡ false → first_failing rows ≡ first_failing rows') → first_failing (row g r ∷ rows) ≡ first_failing (row g r ∷ rows')
    go true h = refl
    go false h = h refl

-- their first groups answer the same, and where they pass the rows after them do
pub same_stage : (rows rows' more more' : List Row) → first_failing rows ≡ first_failing rows' → (first_failing rows' ≡ Ok tt → first_failing more ≡ first_failing more')
    → first_failing (rows ++ more) ≡ first_failing (rows' ++ more')
same_stage rows rows' more more' e h =
    first_append rows more
    ∙ ap (λ (o : Outcome). or_else o (first_failing more)) e
    ∙ go (first_failing rows') h
    ∙ sym (first_append rows' more')
  where
    go : (o : Outcome) → (o ≡ Ok tt → first_failing more ≡ first_failing more') → or_else o (first_failing more) ≡ or_else o (first_failing more')
    go (Ok tt) h = h refl
    go (Err r) h = refl

-- ---- refusals have a number

-- each row's refusal has one, so that 0 says that none failed
abbrev pub Numbered : List Row → Type 0
Numbered [] = zero ≤ zero
Numbered (row fails r ∷ rows) = (1 ≤ r.number) × Numbered rows

pub numbered_append : (rows more : List Row) → Numbered rows → Numbered more → Numbered (rows ++ more)
numbered_append [] more h g = g
numbered_append (row fails r ∷ rows) more h g = (h.0, numbered_append rows more h.1 g)

-- a passing outcome is no refusal
abbrev refusals : Outcome → ℕ
refusals (Ok tt) = 0
refusals (Err r) = 1

pub first_numbered : (rows : List Row) (r : Refusal) → Numbered rows → first_failing rows ≡ Err r → 1 ≤ r.number
unfolding first_failing
first_numbered [] r h e = let z : refusals (Ok tt) ≡ refusals (Err r) = ap refusals e in absurd (omega arith)
first_numbered (row true s ∷ rows) r h e = let q : s ≡ r = cc in subst (λ (t : Refusal). 1 ≤ t.number) q h.0
first_numbered (row false s ∷ rows) r h e = first_numbered rows r h.1 e

-- S21 and S22
pub extent_numbered : (tail_wrong : Bool) (b : List ℕ) (at : ℕ) → Numbered (extent_rows_at tail_wrong b at)
unfolding extent_rows_at
extent_numbered tail_wrong b at = (omega arith, (omega arith, omega arith))
