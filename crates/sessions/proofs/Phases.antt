-- The phases of a session, each as what then holds of the history, the record and the slot; begin starts in one, and a call that is refused leaves
-- the point as it was.
-- Assumes nothing.
use mathlib.Core.Path.{◌≡◌, refl}
use mathlib.Core.List.{List, [], ◌++◌}
use mathlib.Core.Bool.{Bool, true, false, not, ◌&&◌, cond, false≢true}
use mathlib.Core.Logic.{inr}
use Prim.Native.Nat.{ℕ, ◌+◌, ◌-◌, ◌/◌, ◌%◌, ◌≤◌, ◌<◌}
use native.Mathlib.Omega.{arith}
use lib.ListN.{length, take, drop}
use Rattle.flash.specs.Flash.{erased_bytes}
use Rattle.octets.specs.Read.{starts_with}
use Rattle.header.specs.declared.Inputs.{Inputs}
use Rattle.sessions.specs.Record.{slot_len_right, file_len_right, pages_of, words_stored, erasing, filling, full, waiting, new_record, live, over}
use Rattle.sessions.specs.Calls.{begin_of}
use Rattle.sessions.specs.Run.{erase_call, fill_call, close_call, plan_close_call, confirm_call, Point, began, advance, made, erase_answer, close_answer, plan_close_answer, confirm_answer, all_erased, all_given, invalidated, pages_erased, whole_words, holding, slot_then}
use Rattle.sessions.proofs.Facts.{Lengths, lengths_facts, Sound}

-- no Close has stored word 0
pub record NotStored (p : Point) : Type 0 where
  pub stored : p.past.stored ≡ false
  pub waiting : p.past.waiting ≡ false
  pub done : p.past.done ≡ false

-- the session is open, and pages are still to be erased: no byte is taken, and the slot has the length of what was found
pub record Early (found : List ℕ) (f : ℕ) (p : Point) : Type 0 where
  pub is_open : p.past.is_open ≡ true
  pub not_stored : NotStored p
  pub given : p.past.given ≡ []
  pub fewer : p.now.session.pages < pages_of (length found)
  pub taken : p.now.session.taken ≡ 0
  pub file : p.now.session.file ≡ f
  pub sound : Sound p.now.session (length found)
  pub held : length p.now.session.held ≡ 4
  pub long : length p.now.slot ≡ length found

-- nothing is done
pub record Begun (found : List ℕ) (f : ℕ) (p : Point) : Type 0 where
  pub early : Early found f p
  pub touched : p.past.touched ≡ false
  pub erases : p.past.erases ≡ 0
  pub pages : p.now.session.pages ≡ 0
  pub operations : p.now.session.operations ≡ 0
  pub slot : p.now.slot ≡ found

-- zero was stored in word 0, and then pages were erased, one by each further Erase call; the rest is as found
pub record Erasing (found : List ℕ) (f : ℕ) (p : Point) : Type 0 where
  pub early : Early found f p
  pub touched : p.past.touched ≡ true
  pub erases : p.past.erases ≡ p.now.session.pages + 1
  pub operations : p.now.session.operations ≡ p.now.session.pages + 1
  pub slot : p.now.slot ≡ pages_erased p.now.session.pages (invalidated found)

-- the file is filled in: the slot holds the whole words given but word 0, and the record holds that word and the one in progress
pub record Filling (found : List ℕ) (f : ℕ) (p : Point) : Type 0 where
  pub is_open : p.past.is_open ≡ true
  pub not_stored : NotStored p
  pub touched : p.past.touched ≡ true
  pub enough : pages_of (length found) < p.past.erases
  pub pages : p.now.session.pages ≡ pages_of (length found)
  pub operations : p.now.session.operations ≡ pages_of (length found) + words_stored (length p.past.given) + 1
  pub taken : p.now.session.taken ≡ length p.past.given
  pub file : p.now.session.file ≡ f
  pub sound : Sound p.now.session (length found)
  pub slot : p.now.slot ≡ holding p.past.given (length found)
  pub first : 4 ≤ length p.past.given → p.now.session.first ≡ take 4 p.past.given
  pub word : take (length p.past.given % 4) p.now.session.held ≡ drop (whole_words p.past.given) p.past.given
  pub held : length p.now.session.held ≡ 4

-- the session is over, or never began, and word 0 was not stored
pub record Over (found : List ℕ) (f : ℕ) (p : Point) : Type 0 where
  pub is_open : p.past.is_open ≡ false
  pub not_stored : NotStored p
  pub phase : p.now.session.phase ≡ 0
  pub long : length p.now.slot ≡ length found
  pub enough : p.past.touched ≡ true → pages_of (length found) < p.past.erases
  pub slot : p.now.slot ≡ slot_then found f p.past
  pub operations : p.now.session.operations ≡ made (length found) p.past

-- word 0 was stored. The session is over, or waits for Confirm
pub record Stored (found : List ℕ) (f : ℕ) (p : Point) : Type 0 where
  pub is_open : p.past.is_open ≡ false
  pub stored : p.past.stored ≡ true
  pub touched : p.past.touched ≡ true
  pub whole : length p.past.given ≡ f
  pub slot : p.now.slot ≡ p.past.given ++ erased_bytes (length found - f)
  pub operations : p.now.session.operations ≡ made (length found) p.past
  pub operations_done : p.now.session.operations ≡ pages_of (length found) + f / 4 + 1
  pub long : length p.now.slot ≡ length found

pub record Ended (found : List ℕ) (f : ℕ) (p : Point) : Type 0 where
  pub stored : Stored found f p
  pub phase : p.now.session.phase ≡ 0
  pub awaits : p.past.waiting ≡ false

pub record Waiting (found : List ℕ) (f : ℕ) (p : Point) : Type 0 where
  pub stored : Stored found f p
  pub phase : p.now.session.phase ≡ 2
  pub awaits : p.past.waiting ≡ true
  pub ready : waiting p.now.session (length p.now.slot) ≡ true
  pub stands : starts_with p.now.session.first p.now.slot ≡ true

pub data Phase (found : List ℕ) (f : ℕ) (p : Point) : Type 0 where
  is_begun : Begun found f p → Phase found f p
  in_erasing : Erasing found f p → Phase found f p
  in_filling : Filling found f p → Phase found f p
  is_over : Over found f p → Phase found f p
  is_waiting : Waiting found f p → Phase found f p
  has_ended : Ended found f p → Phase found f p

-- ---- a refused call leaves the point as it was

module _ (n f : ℕ) (p : Point) where
  pub stays_erase : p.past.is_open ≡ false → erasing p.now.session (length p.now.slot) ≡ false → advance n f erase_call p ≡ p
  stays_erase o t =
      let e : cond p.past.is_open (p.past.erases + 1) p.past.erases ≡ p.past.erases = rw o in
      rw (erase_answer, t, e)

  pub stays_fill : (piece : List ℕ) → all_erased n p.past ≡ false → filling p.now.session (length p.now.slot) ≡ false → advance n f (fill_call piece) p ≡ p
  stays_fill piece a t = rw (t, a)

  pub stays_close : (given : Inputs) → (p.past.is_open && not (all_given f p.past)) ≡ p.past.is_open → full p.now.session (length p.now.slot) ≡ false
      → advance n f (close_call given) p ≡ p
  stays_close given o t = rw (close_answer, t, o)

  pub stays_plan_close : (given : Inputs) → (p.past.is_open && not (all_given f p.past)) ≡ p.past.is_open → full p.now.session (length p.now.slot) ≡ false
      → advance n f (plan_close_call given) p ≡ p
  stays_plan_close given o t = rw (plan_close_answer, t, o)

  pub stays_confirm : waiting p.now.session (length p.now.slot) ≡ false → advance n f confirm_call p ≡ p
  stays_confirm t = rw (confirm_answer, t)

-- ---- begin

module _ (found : List ℕ) (f : ℕ) where
  new_sound : Lengths (length found) f → Sound (new_record live (length found) f) (length found)
  new_sound l = record { pages = omega arith; phase = refl; slot = refl; lengths = l; order = inr refl; taken = omega arith; operations = inr (refl, refl) }

  refused_over : (p : Point) → p ≡ record { past = record { is_open = false; erases = 0; given = []; touched = false; stored = false; waiting = false; done = false }; now = record { session = new_record over 0 0; slot = found } } → Over found f p
  refused_over p e = rw e (record {
    is_open = refl;
    not_stored = record { stored = refl; waiting = refl; done = refl };
    phase = refl;
    long = refl;
    enough = λ h. absurd (false≢true h);
    slot = refl;
    operations = omega arith;
  })

  pub began_phase : Phase found f (began found f)
  unfolding begin_of
  began_phase = go (slot_len_right (length found)) refl (file_len_right (length found) f) refl
    where
      go : (a : Bool) → slot_len_right (length found) ≡ a → (b : Bool) → file_len_right (length found) f ≡ b → Phase found f (began found f)
      go true p true q =
          let l = lengths_facts (length found) f p q in
          rw (p, q) (is_begun (record {
            early = record {
              is_open = refl;
              not_stored = record { stored = refl; waiting = refl; done = refl };
              given = refl;
              fewer = omega (arith, l.slot_least);
              taken = refl;
              file = refl;
              sound = new_sound l;
              held = refl;
              long = refl;
            };
            touched = refl;
            erases = refl;
            pages = refl;
            operations = refl;
            slot = refl;
          }))
      go true p false q = is_over (refused_over _ (rw (p, q)))
      go false p b q = is_over (refused_over _ (rw p))
