-- Which calls a phase allows: the record is sound, so each call's own test decides, and it is about numbers that the phase tells.
-- Assumes nothing.
use mathlib.Core.Path.{◌≡◌, ap, ◌∙◌}
use mathlib.Core.List.{List, ◌++◌}
use mathlib.Core.Bool.{true, false}
use Prim.Native.Nat.{ℕ, ◌+◌, ◌≤◌}
use native.Mathlib.Omega.{arith}
use lib.Dec.{eqb}
use lib.ListN.{length, take, drop}
use borrow.Author.Tests.{le-leb, lt-leb, eq-eqb, ne_eqb, eqb-true}
use Rattle.flash.specs.Flash.{erased_bytes, starts_erased}
use Rattle.flash.proofs.Laws.{word_erased}
use Rattle.sessions.specs.Record.{pages_of, untouched, erasing, filling, full, waiting}
use Rattle.sessions.specs.Calls.{file_in}
use Rattle.sessions.specs.Run.{Point, all_given, holding}
use Rattle.sessions.proofs.Facts.{sound_test, not_sound, not_waiting}
use Rattle.sessions.proofs.Slot.{holding_first, length_holding, holding_file}
use Rattle.sessions.proofs.Phases.{Early, Begun, Erasing, Filling}

module _ (found : List ℕ) (f : ℕ) where
  -- ---- while pages are to be erased

  pub erase_allowed : (p : Point) → Early found f p → erasing p.now.session (length p.now.slot) ≡ true
  erase_allowed p e =
      rw (e.long, sound_test p.now.session (length found) e.sound)
      (le-leb (p.now.session.pages + 1) (pages_of (length found)) (omega (arith, e.fewer)))

  pub fill_too_early : (p : Point) → Early found f p → filling p.now.session (length p.now.slot) ≡ false
  fill_too_early p e =
      rw (e.long, sound_test p.now.session (length found) e.sound)
      (ne_eqb p.now.session.pages (pages_of (length found)) (λ k. omega (arith, e.fewer)))

  pub close_too_early : (p : Point) → Early found f p → full p.now.session (length p.now.slot) ≡ false
  close_too_early p e =
      rw (
        e.long,
        sound_test p.now.session (length found) e.sound,
        ne_eqb p.now.session.pages (pages_of (length found)) (λ k. omega (arith, e.fewer)),
      )

  -- the first Erase finds that nothing is done, and no other does
  pub first_erase : (p : Point) → Begun found f p → untouched p.now.session ≡ true
  first_erase p e = eq-eqb p.now.session.operations 0 e.operations

  pub later_erase : (p : Point) → Erasing found f p → untouched p.now.session ≡ false
  later_erase p e = ne_eqb p.now.session.operations 0 (λ k. omega (arith, e.operations))

  -- ---- while the file is filled in

  pub filling_length : (p : Point) → Filling found f p → length p.now.slot ≡ length found
  filling_length p e =
      ap length e.slot
      ∙ length_holding p.past.given (length found) (omega (arith, e.sound.lengths.slot_least)) (omega (arith, e.sound.lengths.file_most, e.sound.taken, e.taken))

  pub erase_too_late : (p : Point) → Filling found f p → erasing p.now.session (length p.now.slot) ≡ false
  erase_too_late p e =
      rw (filling_length p e, sound_test p.now.session (length found) e.sound)
      (lt-leb (p.now.session.pages + 1) (pages_of (length found)) (omega (arith, e.pages)))

  pub fill_allowed : (p : Point) → Filling found f p → filling p.now.session (length p.now.slot) ≡ true
  fill_allowed p e =
      rw (filling_length p e, sound_test p.now.session (length found) e.sound)
      (eq-eqb p.now.session.pages (pages_of (length found)) e.pages)

  -- the record is full exactly when all bytes are given
  full_once_given : (p : Point) → Filling found f p → full p.now.session (length p.now.slot) ≡ all_given f p.past
  full_once_given p e =
      rw (
        filling_length p e,
        sound_test p.now.session (length found) e.sound,
        eq-eqb p.now.session.pages (pages_of (length found)) e.pages,
        e.taken,
        e.file,
      )

  pub close_before_last : (p : Point) → Filling found f p → all_given f p.past ≡ false → full p.now.session (length p.now.slot) ≡ false
  close_before_last p e h = full_once_given p e ∙ h

  pub close_allowed : (p : Point) → Filling found f p → all_given f p.past ≡ true → full p.now.session (length p.now.slot) ≡ true
  close_allowed p e h = full_once_given p e ∙ h

  pub first_word_erased : (p : Point) → Filling found f p → take 4 p.now.slot ≡ erased_bytes 4
  first_word_erased p e = ap (take 4) e.slot ∙ holding_first p.past.given (length found)

  pub slot_starts_erased : (p : Point) → Filling found f p → starts_erased p.now.slot ≡ true
  slot_starts_erased p e = word_erased p.now.slot (first_word_erased p e)

  pub first_word_given : (p : Point) → Filling found f p → all_given f p.past ≡ true → 4 ≤ length p.past.given
  first_word_given p e a = omega (arith, eqb-true (length p.past.given) f a, e.sound.lengths.file_least, e.file)

  -- what Close checks is the file
  pub file_checked : (p : Point) → Filling found f p → all_given f p.past ≡ true → file_in p.now.session p.now.slot ≡ p.past.given
  file_checked p e a =
      let all : length p.past.given ≡ f = eqb-true (length p.past.given) f a in
      let four : 4 ≤ length p.past.given = first_word_given p e a in
      rw (e.file, e.slot, ← all)
      (ap (λ (w : List ℕ). w ++ drop 4 (take (length p.past.given) (holding p.past.given (length found)))) (e.first four)
      ∙ holding_file p.past.given (length found) four (omega (arith, e.sound.lengths.file_whole, e.file)))

  -- the slot has room for word 0
  pub first_word_fits : (p : Point) → Filling found f p → 0 + 4 ≤ length p.now.slot
  first_word_fits p e = omega (arith, filling_length p e, e.sound.lengths.slot_least)

-- ---- where the session is not open

module _ (p : Point) (k : ℕ) (h : p.now.session.phase ≡ k) (other : eqb k 1 ≡ false) where
  pub erase_refused : erasing p.now.session (length p.now.slot) ≡ false
  erase_refused = rw (not_sound p.now.session (length p.now.slot) k h other)

  pub fill_refused : filling p.now.session (length p.now.slot) ≡ false
  fill_refused = rw (not_sound p.now.session (length p.now.slot) k h other)

  pub close_refused : full p.now.session (length p.now.slot) ≡ false
  close_refused = rw (not_sound p.now.session (length p.now.slot) k h other)

-- Confirm has no turn in a session that is open or over
pub confirm_refused : (p : Point) (k : ℕ) → p.now.session.phase ≡ k → eqb k 2 ≡ false → waiting p.now.session (length p.now.slot) ≡ false
confirm_refused p k h other = not_waiting p.now.session (length p.now.slot) k h other
