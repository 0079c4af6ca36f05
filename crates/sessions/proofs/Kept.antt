-- Every call keeps to a phase, and so does any list of calls.
-- Assumes nothing.
use mathlib.Core.Path.{◌≡◌, refl}
use mathlib.Core.List.{List, [], ◌∷◌}
use mathlib.Core.Bool.{false, not, ◌&&◌}
use Prim.Native.Nat.{ℕ, ◌≤◌}
use native.Mathlib.Omega.{arith}
use lib.Dec.{eqb}
use lib.ListN.{length}
use borrow.Author.Tests.{le-ltb}
use Rattle.sessions.specs.Record.{pages_of}
use Rattle.sessions.specs.Run.{Call, erase_call, fill_call, ask_call, close_call, plan_close_call, confirm_call, Point, advance, run, all_erased, all_given}
use Rattle.sessions.proofs.Phases.{Early, Filling, Phase, is_begun, in_erasing, in_filling, is_over, is_waiting, has_ended, stays_erase, stays_fill, stays_close, stays_plan_close, stays_confirm}
use Rattle.sessions.proofs.Allowed.{fill_too_early, close_too_early, erase_refused, fill_refused, close_refused, confirm_refused}
use Rattle.sessions.proofs.Steps.{erase_begun, erase_erasing, none_given, erase_filling, close_filling, plan_close_filling, confirm_waiting}
use Rattle.sessions.proofs.Fills.{fill_filling}

module _ (found : List ℕ) (f : ℕ) where
  -- not its turn: the point stays as it was
  early_stays : (p : Point) → Early found f p → (p.past.is_open && not (all_given f p.past)) ≡ p.past.is_open
  early_stays p e = rw (e.is_open, none_given found f p e)

  closed_stays : (p : Point) → p.past.is_open ≡ false → (p.past.is_open && not (all_given f p.past)) ≡ p.past.is_open
  closed_stays p o = rw o

  pub not_open : (p : Point) → p.past.is_open ≡ false → all_erased (length found) p.past ≡ false
  not_open p o = rw o

  pub few_pages : (p : Point) → Early found f p → p.past.erases ≤ pages_of (length found) → all_erased (length found) p.past ≡ false
  few_pages p e h = rw e.is_open (le-ltb (pages_of (length found)) p.past.erases h)

  -- while pages are to be erased all but Erase stay
  next_early : (c : Call) (p : Point) → Early found f p → p.past.erases ≤ pages_of (length found)
      → Phase found f p → Phase found f (advance (length found) f erase_call p) → Phase found f (advance (length found) f c p)
  next_early erase_call p e h s d = d
  next_early (fill_call piece) p e h s d = rw (stays_fill (length found) f p piece (few_pages p e h) (fill_too_early found f p e)) s
  next_early ask_call p e h s d = s
  next_early (close_call given) p e h s d = rw (stays_close (length found) f p given (early_stays p e) (close_too_early found f p e)) s
  next_early (plan_close_call given) p e h s d = rw (stays_plan_close (length found) f p given (early_stays p e) (close_too_early found f p e)) s
  next_early confirm_call p e h s d = rw (stays_confirm (length found) f p (confirm_refused p 1 e.sound.phase refl)) s

  next_filling : (c : Call) (p : Point) → Filling found f p → Phase found f (advance (length found) f c p)
  next_filling erase_call p e = erase_filling found f p e
  next_filling (fill_call piece) p e = fill_filling found f piece p e
  next_filling ask_call p e = in_filling e
  next_filling (close_call given) p e = close_filling found f given p e
  next_filling (plan_close_call given) p e = plan_close_filling found f given p e
  next_filling confirm_call p e = rw (stays_confirm (length found) f p (confirm_refused p 1 e.sound.phase refl)) (in_filling e)

  -- a session that is not open, in the phase k: all but Confirm stay
  next_closed : (c : Call) (p : Point) (k : ℕ) → p.past.is_open ≡ false → p.now.session.phase ≡ k → eqb k 1 ≡ false
      → Phase found f p → Phase found f (advance (length found) f confirm_call p) → Phase found f (advance (length found) f c p)
  next_closed erase_call p k o h other e d = rw (stays_erase (length found) f p o (erase_refused p k h other)) e
  next_closed (fill_call piece) p k o h other e d = rw (stays_fill (length found) f p piece (not_open p o) (fill_refused p k h other)) e
  next_closed ask_call p k o h other e d = e
  next_closed (close_call given) p k o h other e d = rw (stays_close (length found) f p given (closed_stays p o) (close_refused p k h other)) e
  next_closed (plan_close_call given) p k o h other e d = rw (stays_plan_close (length found) f p given (closed_stays p o) (close_refused p k h other)) e
  next_closed confirm_call p k o h other e d = d

  pub next_phase : (c : Call) (p : Point) → Phase found f p → Phase found f (advance (length found) f c p)
  next_phase c p (is_begun e) = next_early c p e.early (omega (arith, e.erases)) (is_begun e) (erase_begun found f p e)
  next_phase c p (in_erasing e) = next_early c p e.early (omega (arith, e.erases, e.early.fewer)) (in_erasing e) (erase_erasing found f p e)
  next_phase c p (in_filling e) = next_filling c p e
  next_phase c p (is_over o) = next_closed c p 0 o.is_open o.phase refl (is_over o) (rw (stays_confirm (length found) f p (confirm_refused p 0 o.phase refl)) (is_over o))
  next_phase c p (is_waiting o) = next_closed c p 2 o.stored.is_open o.phase refl (is_waiting o) (confirm_waiting found f p o)
  next_phase c p (has_ended o) = next_closed c p 0 o.stored.is_open o.phase refl (has_ended o) (rw (stays_confirm (length found) f p (confirm_refused p 0 o.phase refl)) (has_ended o))

  pub run_phase : (calls : List Call) (p : Point) → Phase found f p → Phase found f (run (length found) f calls p)
  run_phase [] p h = h
  run_phase (c ∷ calls) p h = run_phase calls (advance (length found) f c p) (next_phase c p h)
