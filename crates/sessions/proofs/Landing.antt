-- Done means landed: begin starts in a phase and every call keeps to one, so each claim is read off the phase that the list of calls leads to.
-- Assumes nothing.
use mathlib.Core.Path.{◌≡◌, refl, sym, ap, ◌∙◌}
use mathlib.Core.List.{List, [], ◌∷◌, ◌++◌}
use mathlib.Core.Bool.{Bool, true, false, ◌||◌, cond, true≢false}
use mathlib.Core.Logic.{◌⊎◌, inl, inr, ⊎_elim}
use Prim.Native.Nat.{ℕ, ◌+◌, ◌-◌, ◌/◌, ◌%◌, ◌≤◌, ◌<◌, min}
use native.Mathlib.Omega.{arith}
use lib.Dec.{eqb, ltb}
use borrow.Author.Tests.{ltb-true, ltb-false, lt-ltb, le-ltb, le-leb, lt-leb, ne_eqb}
use lib.ListN.{length}
use Rattle.std.specs.Prelude.{Ok, Err}
use Rattle.flash.specs.Flash.{erased_bytes}
use Rattle.flash.specs.Operation.{word_of}
use Rattle.flash.specs.declared.Operation.TheVariants.{ErasePage, StoreWord}
use Rattle.header.specs.declared.Inputs.{Inputs}
use Rattle.image.specs.Check.{check_file, check_slot}
use Rattle.image.specs.declared.Image.{Image}
use Rattle.image.specs.Answer.{Answer}
use Rattle.signing.specs.Digests.{vendor_digest, firmware_digest}
use Rattle.signing.specs.Places.{no_signature, vendor_signature, firmware_signature}
use Rattle.image.proofs.Erased.{accepted_before_erased}
use Rattle.sessions.specs.Record.{pages_of, no_word, full}
use Rattle.sessions.specs.Calls.{begin_of, takes, asked, no_digest, signatures, judged, turn_of, close_plan}
use Rattle.sessions.specs.Run.{Call, erase_call, fill_call, ask_call, close_call, plan_close_call, confirm_call, Point, began, advance, after, made, operation_of, is_accepted, is_done, erase_answer, fill_answer, ask_answer, signatures_answer, close_answer, plan_close_answer, confirm_answer, all_erased, all_given, is_full, done_by, accepted_by, slot_then, FillRule, Unbootable, Landed, DoneMeansLanded, CutSession, before_cut, left_by, left_by_all, NoneStored, NextSessionLands}
use Rattle.sessions.specs.declared.Plan.{Plan}
use Rattle.sessions.specs.declared.Reply.TheVariants.{Erased, Done, Refused}
use Rattle.sessions.proofs.Phases.{Early, Begun, Erasing, Filling, Over, Stored, Phase, is_begun, in_erasing, in_filling, is_over, is_waiting, has_ended, began_phase}
use Rattle.sessions.proofs.Allowed.{erase_allowed, fill_too_early, close_too_early, first_erase, later_erase, erase_too_late, close_before_last, close_allowed, slot_starts_erased, file_checked, erase_refused, fill_refused, close_refused, confirm_refused}
use Rattle.sessions.proofs.Steps.{page_erased, last_page, landed_slot}
use Rattle.sessions.proofs.Fills.{fill_answers}
use Rattle.sessions.proofs.Kept.{not_open, few_pages, run_phase}
use Rattle.sessions.proofs.Cuts.{after_made, says, zero_next, page_next, cut}

-- ---- the boot check, by the law of image

landed_boots : (file : List ℕ) (n : ℕ) (given : Inputs) (i : Image) → check_file file given ≡ Ok i → check_slot (file ++ erased_bytes n) given ≡ Ok i
unfolding erased_bytes
landed_boots file n given i e = accepted_before_erased file n given i e

-- ---- the rule of Fill

takes_one : (taken f len : ℕ) → taken < f → 0 < len → 0 < takes taken f len
takes_one taken f len h k = omega arith

takes_rule : (g f len : ℕ) → g ≤ f → FillRule g f len (takes g f len)
takes_rule g f len h = record { in_word = omega arith; in_piece = omega arith; in_file = omega arith; ends = go (ltb (4 - g % 4) len) refl (ltb (f - g) (min (4 - g % 4) len)) refl }
  where
    go : (a : Bool) → ltb (4 - g % 4) len ≡ a → (b : Bool) → ltb (f - g) (min (4 - g % 4) len) ≡ b → (g % 4 + takes g f len ≡ 4) ⊎ ((takes g f len ≡ len) ⊎ (g + takes g f len ≡ f))
    go a i true j = inr (inr (omega (arith, ltb-true (f - g) (min (4 - g % 4) len) j)))
    go true i false j = inl (omega (arith, ltb-true (4 - g % 4) len i, ltb-false (f - g) (min (4 - g % 4) len) j))
    go false i false j = inr (inl (omega (arith, ltb-false (4 - g % 4) len i, ltb-false (f - g) (min (4 - g % 4) len) j)))

module _ (found : List ℕ) (f : ℕ) where
  -- where the record is not full, Ask and both forms of Close answer 19, and Signatures tells no place
  record Barred (p : Point) : Type 0 where
    pub asks : ask_answer p.now ≡ asked no_digest no_digest
    pub signs : signatures_answer p.now ≡ signatures no_signature no_signature
    pub closes : (given : Inputs) → close_answer given p.now ≡ Refused 19
    pub plans : (given : Inputs) → plan_close_answer given p.now ≡ Refused 19

  barred_answers : (p : Point) → full p.now.session (length p.now.slot) ≡ false → Barred p
  barred_answers p t = record { asks = rw (ask_answer, t); signs = rw (signatures_answer, t); closes = λ given. rw (close_answer, t); plans = λ given. rw (plan_close_answer, t) }

  not_full : (p : Point) → all_erased (length found) p.past ≡ false → is_full (length found) f p.past ≡ false
  not_full p a = rw a

  -- while pages are to be erased: what is the same before the first Erase and after it
  landed_early : (p : Point) → Phase found f p → Early found f p → p.past.erases ≤ pages_of (length found)
      → p.now.slot ≡ slot_then found f p.past
      → (p.past.erases ≡ pages_of (length found) → (after erase_call p.now).slot ≡ erased_bytes (length found))
      → erase_answer p.now ≡ Erased
      → operation_of erase_call p.now ≡ cond (eqb p.past.erases 0) (StoreWord 0 (word_of no_word)) (ErasePage (p.past.erases - 1))
      → p.now.session.operations ≡ p.past.erases
      → Landed found f p
  landed_early p h e most slot erased answers makes operations = record {
    untouched = (says found f p h).untouched;
    hidden = (says found f p h).hidden;
    landed = (says found f p h).landed;
    whole = λ d. absurd (true≢false (sym d ∙ e.not_stored.stored));
    done_stored = λ d. absurd (true≢false (sym d ∙ e.not_stored.done));
    slot = slot;
    erased = λ o. erased;
    erase_answers = rw (e.is_open, le-leb p.past.erases (pages_of (length found)) most) answers;
    erase_makes = rw (e.is_open, le-leb p.past.erases (pages_of (length found)) most) makes;
    fill_answers = λ piece. rw (fill_answer, fill_too_early found f p e, few);
    fill_rule = λ a. absurd (true≢false (sym a ∙ few));
    takes_one = λ a. absurd (true≢false (sym a ∙ few));
    ask_answers = rw (not_full p few) b.asks;
    signatures_answers = rw (not_full p few) b.signs;
    close_answers = λ given. rw (not_full p few) (b.closes given);
    plan_close_answers = λ given. rw (not_full p few) (b.plans given);
    confirm_answers = rw (e.not_stored.waiting, confirm_answer, confirm_refused p 1 e.sound.phase refl);
    boots = λ given i a. absurd (true≢false (sym a ∙ not_full p few));
    counted = rw (e.not_stored.stored, e.given) (omega (arith, operations, most));
    counted_done = λ d. absurd (true≢false (sym d ∙ e.not_stored.stored));
    makes = λ c. after_made c p.now;
    cut = λ c choice. cut found f c choice p h;
  }
    where
      few : all_erased (length found) p.past ≡ false
      few = few_pages found f p e most

      b : Barred p
      b = barred_answers p (close_too_early found f p e)

  landed_begun : (p : Point) → Begun found f p → Landed found f p
  landed_begun p e =
      landed_early p (is_begun e) e.early (omega (arith, e.erases))
      (rw e.touched e.slot)
      (λ h. absurd (omega (arith, e.erases, e.early.sound.lengths.slot_least)))
      (rw (erase_answer, erase_allowed found f p e.early, first_erase found f p e))
      (rw (zero_next found f p e, e.erases))
      (e.operations ∙ sym e.erases)

  landed_erasing : (p : Point) → Erasing found f p → Landed found f p
  landed_erasing p e =
      landed_early p (in_erasing e) e.early most
      (rw (e.touched, e.early.not_stored.stored, le-ltb (pages_of (length found)) p.past.erases most, sym before) e.slot)
      (λ h. rw (erase_allowed found f p e.early, later_erase found f p e) (page_erased found f p e ∙ last_page found f p e (sym e.erases ∙ h)))
      (rw (erase_answer, erase_allowed found f p e.early, later_erase found f p e))
      (rw (page_next found f p e, ne_eqb p.past.erases 0 (λ k. omega (arith, e.erases)), before))
      (e.operations ∙ sym e.erases)
    where
      most : p.past.erases ≤ pages_of (length found)
      most = omega (arith, e.erases, e.early.fewer)

      before : p.now.session.pages ≡ p.past.erases - 1
      before = omega (arith, e.erases)

  landed_filling : (p : Point) → Filling found f p → Landed found f p
  landed_filling p e = record {
    untouched = (says found f p (in_filling e)).untouched;
    hidden = (says found f p (in_filling e)).hidden;
    landed = (says found f p (in_filling e)).landed;
    whole = λ d. absurd (true≢false (sym d ∙ e.not_stored.stored));
    done_stored = λ d. absurd (true≢false (sym d ∙ e.not_stored.done));
    slot = rw (e.touched, e.not_stored.stored, enough) e.slot;
    erased = λ o h. absurd (omega (arith, e.enough));
    erase_answers = rw (e.is_open, erase_answer, erase_too_late found f p e, lt-leb p.past.erases (pages_of (length found)) e.enough);
    erase_makes = rw (e.is_open, operation_of, erase_too_late found f p e, lt-leb p.past.erases (pages_of (length found)) e.enough);
    fill_answers = λ piece. rw (e.is_open, enough) (fill_answers found f piece p e);
    fill_rule = λ a piece. takes_rule (length p.past.given) f (length piece) (omega (arith, e.sound.taken, e.taken, e.file));
    takes_one = λ a h piece k. takes_one (length p.past.given) f (length piece) h k;
    ask_answers = rw turn (asks (all_given f p.past) refl);
    signatures_answers = rw turn (signs (all_given f p.past) refl);
    close_answers = λ given. rw turn (closes given (all_given f p.past) refl);
    plan_close_answers = λ given. rw turn (plans given (all_given f p.past) refl);
    confirm_answers = rw (e.not_stored.waiting, confirm_answer, confirm_refused p 1 e.sound.phase refl);
    boots = λ given i a v.
        let g : all_given f p.past ≡ true = sym turn ∙ a in
        let l = landed_boots p.past.given (length found - f) given i v in (
          rw (close_allowed found f p e g, slot_starts_erased found f p e, file_checked found f p e g, v, landed_slot found f p e g) l,
          rw (close_allowed found f p e g, slot_starts_erased found f p e, file_checked found f p e g, v, landed_slot found f p e g) l,
        );
    counted = rw e.not_stored.stored (omega (arith, e.operations, e.enough));
    counted_done = λ d. absurd (true≢false (sym d ∙ e.not_stored.stored));
    makes = λ c. after_made c p.now;
    cut = λ c choice. cut found f c choice p (in_filling e);
  }
    where
      enough : ltb (pages_of (length found)) p.past.erases ≡ true
      enough = lt-ltb (pages_of (length found)) p.past.erases e.enough

      -- it is the turn of Ask and Close once all bytes are given
      turn : is_full (length found) f p.past ≡ all_given f p.past
      turn = rw (e.is_open, enough)

      asks : (g : Bool) → all_given f p.past ≡ g → ask_answer p.now ≡ cond g (asked (vendor_digest p.past.given) (firmware_digest p.past.given)) (asked no_digest no_digest)
      asks true g = rw (ask_answer, close_allowed found f p e g, file_checked found f p e g)
      asks false g = (barred_answers p (close_before_last found f p e g)).asks

      signs : (g : Bool) → all_given f p.past ≡ g
          → signatures_answer p.now ≡ cond g (signatures (vendor_signature p.past.given) (firmware_signature p.past.given)) (signatures no_signature no_signature)
      signs true g = rw (signatures_answer, close_allowed found f p e g, file_checked found f p e g)
      signs false g = (barred_answers p (close_before_last found f p e g)).signs

      done : (v : Answer) → (turn_of (judged p.now.session v)).reply ≡ done_by v
      done (Ok i) = refl
      done (Err r) = refl

      accepts : (v : Answer) → (judged p.now.session v).reply ≡ accepted_by v
      accepts (Ok i) = refl
      accepts (Err r) = refl

      closes : (given : Inputs) (g : Bool) → all_given f p.past ≡ g → close_answer given p.now ≡ cond g (done_by (check_file p.past.given given)) (Refused 19)
      closes given true g =
          let planned : close_plan p.now.session given p.now.slot ≡ judged p.now.session (check_file p.past.given given) = rw (close_allowed found f p e g, slot_starts_erased found f p e, file_checked found f p e g) in
          ap (λ (x : Plan). (turn_of x).reply) planned ∙ done (check_file p.past.given given)
      closes given false g = (barred_answers p (close_before_last found f p e g)).closes given

      plans : (given : Inputs) (g : Bool) → all_given f p.past ≡ g → plan_close_answer given p.now ≡ cond g (accepted_by (check_file p.past.given given)) (Refused 19)
      plans given true g = rw (plan_close_answer, close_allowed found f p e g, slot_starts_erased found f p e, file_checked found f p e g) (accepts (check_file p.past.given given))
      plans given false g = (barred_answers p (close_before_last found f p e g)).plans given

  -- a session that is not open, in the phase k: all calls but Confirm are refused
  landed_closed : (p : Point) → Phase found f p → (k : ℕ) → p.past.is_open ≡ false → p.now.session.phase ≡ k → eqb k 1 ≡ false
      → (p.past.stored ≡ true → (length p.past.given ≡ f) × (p.now.session.operations ≡ pages_of (length found) + f / 4 + 1))
      → (p.past.done ≡ true → p.past.stored ≡ true)
      → p.now.slot ≡ slot_then found f p.past
      → confirm_answer p.now ≡ cond p.past.waiting Done (Refused 19)
      → p.now.session.operations ≡ made (length found) p.past
      → Landed found f p
  landed_closed p h k o phase other whole done slot confirms operations = record {
    untouched = (says found f p h).untouched;
    hidden = (says found f p h).hidden;
    landed = (says found f p h).landed;
    whole = λ d. (whole d).0;
    done_stored = done;
    slot = slot;
    erased = λ a. absurd (true≢false (sym a ∙ o));
    erase_answers = rw (o, erase_answer, erase_refused p k phase other);
    erase_makes = rw (o, operation_of, erase_refused p k phase other);
    fill_answers = λ piece. rw (o, fill_answer, fill_refused p k phase other);
    fill_rule = λ a. absurd (true≢false (sym a ∙ not_open found f p o));
    takes_one = λ a. absurd (true≢false (sym a ∙ not_open found f p o));
    ask_answers = rw none b.asks;
    signatures_answers = rw none b.signs;
    close_answers = λ given. rw none (b.closes given);
    plan_close_answers = λ given. rw none (b.plans given);
    confirm_answers = confirms;
    boots = λ given i a. absurd (true≢false (sym a ∙ none));
    counted = operations;
    counted_done = λ d. (whole d).1;
    makes = λ c. after_made c p.now;
    cut = λ c choice. cut found f c choice p h;
  }
    where
      none : is_full (length found) f p.past ≡ false
      none = not_full p (not_open found f p o)

      b : Barred p
      b = barred_answers p (close_refused p k phase other)

  landed_over : (p : Point) → Over found f p → Landed found f p
  landed_over p o =
      landed_closed p (is_over o) 0 o.is_open o.phase refl
      (λ d. absurd (true≢false (sym d ∙ o.not_stored.stored)))
      (λ d. absurd (true≢false (sym d ∙ o.not_stored.done)))
      o.slot
      (rw (o.not_stored.waiting, confirm_answer, confirm_refused p 0 o.phase refl))
      o.operations

  -- once word 0 is stored, waiting for Confirm or not
  landed_stored : (p : Point) → Phase found f p → Stored found f p → (k : ℕ) → p.now.session.phase ≡ k → eqb k 1 ≡ false
      → confirm_answer p.now ≡ cond p.past.waiting Done (Refused 19) → Landed found f p
  landed_stored p h o k phase other confirms =
      landed_closed p h k o.is_open phase other (λ d. (o.whole, o.operations_done)) (λ d. o.stored) (rw (o.touched, o.stored) o.slot) confirms o.operations

  landed_phase : (p : Point) → Phase found f p → Landed found f p
  landed_phase p (is_begun e) = landed_begun p e
  landed_phase p (in_erasing e) = landed_erasing p e
  landed_phase p (in_filling e) = landed_filling p e
  landed_phase p (is_over o) = landed_over p o
  landed_phase p (is_waiting o) =
      landed_stored p (is_waiting o) o.stored 2 o.phase refl (rw (o.awaits, confirm_answer, o.ready, o.stands))
  landed_phase p (has_ended o) =
      landed_stored p (has_ended o) o.stored 0 o.phase refl (rw (o.awaits, confirm_answer, confirm_refused p 0 o.phase refl))

pub done_means_landed : DoneMeansLanded
done_means_landed found f calls = landed_phase found f _ (run_phase found f calls (began found f) (began_phase found f))

-- ---- one session after another that the power cuts

-- what a session leaves is as long as what it found
left_long : (s : CutSession) (found : List ℕ) → length (left_by s found) ≡ length found
left_long s found = ((done_means_landed found s.file s.calls).cut s.last s.choice).long

all_long : (sessions : List CutSession) (found : List ℕ) → length (left_by_all sessions found) ≡ length found
all_long [] found = refl
all_long (s ∷ sessions) found = all_long sessions (left_by s found) ∙ left_long s found

-- word 0 was not stored before a call after which it is not
or_right : (a b : Bool) → (a || b) ≡ false → b ≡ false
or_right true b e = absurd (true≢false e)
or_right false b e = e

stored_before : (n f : ℕ) (c : Call) (p : Point) → (advance n f c p).past.stored ≡ false → p.past.stored ≡ false
stored_before n f erase_call p e = e
stored_before n f (fill_call piece) p e = e
stored_before n f ask_call p e = e
stored_before n f (close_call given) p e = or_right (is_done (close_answer given p.now)) p.past.stored e
stored_before n f (plan_close_call given) p e = or_right (is_accepted (plan_close_answer given p.now)) p.past.stored e
stored_before n f confirm_call p e = e

left_hidden : (s : CutSession) (found : List ℕ) → Unbootable found → (advance (length found) s.file s.last (before_cut s found)).past.stored ≡ false
    → Unbootable (left_by s found)
left_hidden s found u none =
    ⊎_elim (λ h. h) (λ h. absurd (true≢false (sym h.0 ∙ none)))
    (((done_means_landed found s.file s.calls).cut s.last s.choice).hidden (inr u) (stored_before (length found) s.file s.last (before_cut s found) none))

all_hidden : (sessions : List CutSession) (found : List ℕ) → Unbootable found → NoneStored sessions found → Unbootable (left_by_all sessions found)
all_hidden [] found u none = u
all_hidden (s ∷ sessions) found u none = all_hidden sessions (left_by s found) (left_hidden s found u none.0) none.1

pub next_session_lands : NextSessionLands
next_session_lands found sessions =
    record {
      begins = λ f. ap (λ (n : ℕ). begin_of n f) (all_long sessions found);
      lands = λ f calls. done_means_landed (left_by_all sessions found) f calls;
      hidden = all_hidden sessions found;
    }
