-- Erase, Close and Confirm keep to a phase: the first Erase leads from begin to erasing, the last page from erasing to filling, and Close with all bytes given ends the session, or has it wait
-- for Confirm.
-- Assumes nothing.
use mathlib.Core.Path.{◌≡◌, refl, sym, ap, ◌∙◌}
use mathlib.Core.List.{List, ◌++◌}
use mathlib.Core.Bool.{Bool, true, false}
use mathlib.Core.Logic.{inl, inr}
use Prim.Native.Nat.{ℕ, ◌+◌, ◌-◌, ◌*◌, ◌≤◌}
use native.Mathlib.Omega.{arith}
use lib.Dec.{ltb}
use borrow.Author.Tests.{ltb-true, ltb-false, eqb-true, lt-ltb, ne_eqb}
use lib.ListN.{length, length-append, length-take}
use Rattle.std.specs.Prelude.{Ok, Err}
use Rattle.octets.proofs.Rounding.{whole_times}
use Rattle.flash.specs.Flash.{erased_bytes}
use Rattle.flash.specs.Operation.{word_of, performed}
use Rattle.flash.specs.declared.Operation.TheVariants.{ErasePage, StoreWord}
use Rattle.flash.proofs.Laws.{length_erased, performed_page, performed_word}
use Rattle.header.specs.declared.Inputs.{Inputs}
use Rattle.image.specs.Check.{check_file}
use Rattle.image.specs.Answer.{Answer}
use Rattle.sessions.specs.Record.{pages_of, no_word, with_page, with_phase, over, accepted}
use Rattle.sessions.specs.Calls.{file_in}
use Rattle.sessions.specs.Run.{erase_call, close_call, plan_close_call, confirm_call, Point, advance, erase_answer, close_answer, plan_close_answer, confirm_answer, all_given, invalidated, pages_erased}
use Rattle.sessions.specs.declared.Session.{Session}
use Rattle.sessions.proofs.Facts.{Sound, waiting_test}
use Rattle.sessions.proofs.Slot.{length_invalidated, zero_stored, no_page, length_pages, page_more, pages_all, holding_none, holding_landed, starts_own}
use Rattle.sessions.proofs.Phases.{NotStored, Early, Begun, Erasing, Filling, Over, Stored, Waiting, Phase, in_erasing, in_filling, is_over, is_waiting, has_ended, stays_close, stays_plan_close}
use Rattle.sessions.proofs.Allowed.{erase_allowed, first_erase, later_erase, filling_length, erase_too_late, close_before_last, close_allowed, slot_starts_erased, first_word_given, first_word_fits}

module _ (found : List ℕ) (f : ℕ) where
  -- ---- while pages are to be erased

  -- the first Erase stores zero in word 0
  pub zero_made : (p : Point) → Begun found f p → performed (StoreWord 0 (word_of no_word)) p.now.slot ≡ invalidated found
  zero_made p e = performed_word 0 no_word p.now.slot refl (omega (arith, e.early.long, e.early.sound.lengths.slot_least)) ∙ rw e.slot (zero_stored found)

  pub erase_begun : (p : Point) → Begun found f p → Phase found f (advance (length found) f erase_call p)
  erase_begun p e = rw (e.early.is_open, erase_answer, erase_allowed found f p e.early, first_erase found f p e) (in_erasing (record {
    early = record {
      is_open = refl;
      not_stored = record { stored = e.early.not_stored.stored; waiting = e.early.not_stored.waiting; done = e.early.not_stored.done };
      given = e.early.given;
      fewer = e.early.fewer;
      taken = e.early.taken;
      file = e.early.file;
      sound = record {
        pages = e.early.sound.pages;
        phase = e.early.sound.phase;
        slot = e.early.sound.slot;
        lengths = e.early.sound.lengths;
        order = inr e.early.taken;
        taken = e.early.sound.taken;
        operations = inl (omega (arith, e.operations, e.pages, e.early.taken));
      };
      held = e.early.held;
      long = ap length (zero_made p e) ∙ length_invalidated found (omega (arith, e.early.sound.lengths.slot_least));
    };
    touched = refl;
    erases = omega (arith, e.erases, e.pages);
    operations = omega (arith, e.operations, e.pages);
    slot = zero_made p e ∙ sym (ap (λ (k : ℕ). pages_erased k (invalidated found)) e.pages ∙ no_page (invalidated found));
  }))

  -- the page that is next lies in the slot
  pub page_inside : (p : Point) → Erasing found f p → p.now.session.pages * 4096 + 4096 ≤ length p.now.slot
  page_inside p e = omega (arith, e.early.long, e.early.fewer)

  -- one page more is erased
  pub page_erased : (p : Point) → Erasing found f p
      → performed (ErasePage p.now.session.pages) p.now.slot ≡ pages_erased (p.now.session.pages + 1) (invalidated found)
  page_erased p e = performed_page p.now.session.pages p.now.slot (page_inside p e) ∙ rw e.slot (page_more p.now.session.pages (invalidated found))

  found_long : (p : Point) → Erasing found f p → length (invalidated found) ≡ length found
  found_long p e = length_invalidated found (omega (arith, e.early.sound.lengths.slot_least))

  -- with the last page every byte is
  pub last_page : (p : Point) → Erasing found f p → p.now.session.pages + 1 ≡ pages_of (length found)
      → pages_erased (p.now.session.pages + 1) (invalidated found) ≡ erased_bytes (length found)
  last_page p e h =
      pages_all (p.now.session.pages + 1) (invalidated found)
      (ap (λ (k : ℕ). k * 4096) h ∙ whole_times 4096 (length found) e.early.sound.lengths.slot_whole ∙ sym (found_long p e))
      ∙ ap erased_bytes (found_long p e)

  pub erase_erasing : (p : Point) → Erasing found f p → Phase found f (advance (length found) f erase_call p)
  erase_erasing p e =
      rw (e.early.is_open, erase_answer, erase_allowed found f p e.early, later_erase found f p e) (go (ltb (p.now.session.pages + 1) (pages_of (length found))) refl)
    where
      s : Session
      s = with_page p.now.session

      q : Point
      q =
          record {
            past = record { is_open = true; erases = p.past.erases + 1; given = p.past.given; touched = true; stored = p.past.stored; waiting = p.past.waiting; done = p.past.done };
            now = record { session = s; slot = performed (ErasePage p.now.session.pages) p.now.slot };
          }

      not_stored' : NotStored q
      not_stored' = record { stored = e.early.not_stored.stored; waiting = e.early.not_stored.waiting; done = e.early.not_stored.done }

      sound' : Sound s (length found)
      sound' =
          record {
            pages = omega (arith, e.early.fewer);
            phase = e.early.sound.phase;
            slot = e.early.sound.slot;
            lengths = e.early.sound.lengths;
            order = inr e.early.taken;
            taken = e.early.sound.taken;
            operations = inl (omega (arith, e.operations, e.early.taken));
          }

      go : (b : Bool) → ltb (p.now.session.pages + 1) (pages_of (length found)) ≡ b → Phase found f q
      go true h = in_erasing (record {
        early = record {
          is_open = refl;
          not_stored = not_stored';
          given = e.early.given;
          fewer = ltb-true _ _ h;
          taken = e.early.taken;
          file = e.early.file;
          sound = sound';
          held = e.early.held;
          long = ap length (page_erased p e) ∙ length_pages (p.now.session.pages + 1) (invalidated found) (omega (arith, e.early.fewer, found_long p e)) ∙ found_long p e;
        };
        touched = refl;
        erases = omega (arith, e.erases);
        operations = omega (arith, e.operations);
        slot = page_erased p e;
      })
      go false h =
          let all : p.now.session.pages + 1 ≡ pages_of (length found) = omega (arith, e.early.fewer, ltb-false (p.now.session.pages + 1) (pages_of (length found)) h) in
          in_filling (record {
            is_open = refl;
            not_stored = not_stored';
            touched = refl;
            enough = omega (arith, e.erases);
            pages = all;
            operations = rw e.early.given (omega (arith, e.operations));
            taken = e.early.taken ∙ sym (ap length e.early.given);
            file = e.early.file;
            sound = sound';
            slot = page_erased p e ∙ last_page p e all ∙ rw e.early.given (sym (holding_none (length found) (omega (arith, e.early.sound.lengths.slot_least))));
            first = λ k. absurd (omega (arith, ap length e.early.given));
            word = rw e.early.given;
            held = e.early.held;
          })

  -- not all bytes are given
  pub none_given : (p : Point) → Early found f p → all_given f p.past ≡ false
  none_given p e = ne_eqb (length p.past.given) f (λ k. omega (arith, ap length e.given, e.sound.lengths.file_least, e.file))

  -- ---- while the file is filled in

  pub erase_filling : (p : Point) → Filling found f p → Phase found f (advance (length found) f erase_call p)
  erase_filling p e =
      rw (e.is_open, erase_answer, erase_too_late found f p e)
      (in_filling (record {
        is_open = refl;
        not_stored = record { stored = e.not_stored.stored; waiting = e.not_stored.waiting; done = e.not_stored.done };
        touched = e.touched;
        enough = omega (arith, e.enough);
        pages = e.pages;
        operations = e.operations;
        taken = e.taken;
        file = e.file;
        sound = e.sound;
        slot = e.slot;
        first = e.first;
        word = e.word;
        held = e.held;
      }))

  -- word 0 stored: the slot holds the file, and erased bytes after it
  pub landed_slot : (p : Point) → Filling found f p → all_given f p.past ≡ true
      → performed (StoreWord 0 (word_of p.now.session.first)) p.now.slot ≡ p.past.given ++ erased_bytes (length found - f)
  landed_slot p e a =
      let all : length p.past.given ≡ f = eqb-true (length p.past.given) f a in
      let four : 4 ≤ length p.past.given = first_word_given found f p e a in
      let long : length p.now.session.first ≡ 4 = ap length (e.first four) ∙ omega (arith, length-take 4 p.past.given) in
      performed_word 0 p.now.session.first p.now.slot long (first_word_fits found f p e)
      ∙ rw (e.slot, e.first four)
      (holding_landed p.past.given (length found) four (omega (arith, e.sound.lengths.file_whole, e.file)) ∙ ap (λ (k : ℕ). p.past.given ++ erased_bytes (length found - k)) all)

  -- a Close in its turn, by the check's answer: the point that it leads to, in the phase k, waiting for Confirm or not, done or not
  abbrev closed_point : Point → ℕ → Bool → Bool → Point
  closed_point p k w d =
      record {
        past = record { is_open = false; erases = p.past.erases; given = p.past.given; touched = p.past.touched; stored = true; waiting = w; done = d };
        now = record {
          session = with_phase p.now.session k (p.now.session.operations + 1);
          slot = performed (StoreWord 0 (word_of p.now.session.first)) p.now.slot;
        };
      }

  closed_stored : (p : Point) → Filling found f p → all_given f p.past ≡ true → (k : ℕ) (w d : Bool) → Stored found f (closed_point p k w d)
  closed_stored p e a k w d =
      let all : length p.past.given ≡ f = eqb-true (length p.past.given) f a in
      record {
        is_open = refl;
        stored = refl;
        touched = e.touched;
        whole = all;
        slot = landed_slot p e a;
        operations = omega (arith, e.operations, e.enough);
        operations_done = omega (arith, e.operations, e.sound.lengths.file_least, e.file);
        long = ap length (landed_slot p e a) ∙ length-append p.past.given (erased_bytes (length found - f)) ∙ omega (arith, length_erased (length found - f), e.sound.lengths.file_most, e.file);
      }

  abbrev rejected_point : Point → Point
  rejected_point p =
      record {
        past = record { is_open = false; erases = p.past.erases; given = p.past.given; touched = p.past.touched; stored = p.past.stored; waiting = p.past.waiting; done = p.past.done };
        now = record { session = with_phase p.now.session over p.now.session.operations; slot = p.now.slot };
      }

  rejected_over : (p : Point) → Filling found f p → Over found f (rejected_point p)
  rejected_over p e = record {
    is_open = refl;
    not_stored = record { stored = e.not_stored.stored; waiting = e.not_stored.waiting; done = e.not_stored.done };
    phase = refl;
    long = filling_length found f p e;
    enough = λ h. e.enough;
    slot = rw (e.touched, e.not_stored.stored, lt-ltb (pages_of (length found)) p.past.erases e.enough) e.slot;
    operations = rw e.not_stored.stored (omega (arith, e.operations, e.enough));
  }

  pub close_filling : (given : Inputs) (p : Point) → Filling found f p → Phase found f (advance (length found) f (close_call given) p)
  close_filling given p e = go (all_given f p.past) refl
    where
      closed : (answer : Answer) → check_file (file_in p.now.session p.now.slot) given ≡ answer → all_given f p.past ≡ true
          → Phase found f (advance (length found) f (close_call given) p)
      closed (Ok i) h a =
          rw (e.is_open, close_answer, close_allowed found f p e a, slot_starts_erased found f p e, h, a)
          (has_ended (record { stored = closed_stored p e a over p.past.waiting true; phase = refl; awaits = e.not_stored.waiting }))
      closed (Err r) h a = rw (e.is_open, close_answer, close_allowed found f p e a, slot_starts_erased found f p e, h, a) (is_over (rejected_over p e))

      go : (b : Bool) → all_given f p.past ≡ b → Phase found f (advance (length found) f (close_call given) p)
      go true h = closed (check_file (file_in p.now.session p.now.slot) given) refl h
      go false h = rw (stays_close (length found) f p given (rw (e.is_open, h)) (close_before_last found f p e h)) (in_filling e)

  pub plan_close_filling : (given : Inputs) (p : Point) → Filling found f p → Phase found f (advance (length found) f (plan_close_call given) p)
  plan_close_filling given p e = go (all_given f p.past) refl
    where
      waits : all_given f p.past ≡ true → Waiting found f (closed_point p accepted true p.past.done)
      waits a =
          let all : length p.past.given ≡ f = eqb-true (length p.past.given) f a in
          let four : 4 ≤ length p.past.given = first_word_given found f p e a in
          let s = closed_stored p e a accepted true p.past.done in
          record {
            stored = s;
            phase = refl;
            awaits = refl;
            ready = rw s.long
                (waiting_test (with_phase p.now.session accepted (p.now.session.operations + 1)) (length found) refl e.sound.slot e.sound.lengths e.pages (omega (arith, e.taken, e.file)) (s.operations_done ∙ rw e.file));
            stands = rw (landed_slot p e a, e.first four) (starts_own p.past.given (erased_bytes (length found - f)) four);
          }

      closed : (answer : Answer) → check_file (file_in p.now.session p.now.slot) given ≡ answer → all_given f p.past ≡ true
          → Phase found f (advance (length found) f (plan_close_call given) p)
      closed (Ok i) h a = rw (e.is_open, plan_close_answer, close_allowed found f p e a, slot_starts_erased found f p e, h, a) (is_waiting (waits a))
      closed (Err r) h a = rw (e.is_open, plan_close_answer, close_allowed found f p e a, slot_starts_erased found f p e, h, a) (is_over (rejected_over p e))

      go : (b : Bool) → all_given f p.past ≡ b → Phase found f (advance (length found) f (plan_close_call given) p)
      go true h = closed (check_file (file_in p.now.session p.now.slot) given) refl h
      go false h = rw (stays_plan_close (length found) f p given (rw (e.is_open, h)) (close_before_last found f p e h)) (in_filling e)

  -- ---- once word 0 is stored

  pub confirm_waiting : (p : Point) → Waiting found f p → Phase found f (advance (length found) f confirm_call p)
  confirm_waiting p o = rw (confirm_answer, o.ready, o.stands) (has_ended (record {
    stored = record {
      is_open = o.stored.is_open;
      stored = o.stored.stored;
      touched = o.stored.touched;
      whole = o.stored.whole;
      slot = o.stored.slot;
      operations = o.stored.operations;
      operations_done = o.stored.operations_done;
      long = o.stored.long;
    };
    phase = refl;
    awaits = refl;
  }))
