-- Each call makes at most one operation: by the cases of each call's definition.
-- Assumes nothing.
use mathlib.Core.Path.{◌≡◌, refl, sym, ap, ◌∙◌}
use mathlib.Core.List.{List}
use mathlib.Core.Bool.{Bool, true, false, true≢false, false≢true}
use mathlib.Core.Logic.{◌⊎◌, inl, inr}
use Prim.Native.Nat.{ℕ, ◌+◌, ◌%◌, ◌≤◌, ◌<◌}
use native.Mathlib.Omega.{arith}
use native.Mathlib.Nat.{add-zero}
use lib.Dec.{eqb}
use borrow.Author.Tests.{eqb-true, eqb-false, leb-true, ne_eqb}
use lib.ListN.{length, drop}
use lib.Seq.{paste, paste-zero}
use Rattle.std.specs.Prelude.{Ok, Err}
use Rattle.flash.specs.Flash.{starts_erased}
use Rattle.flash.specs.Operation.{word_of}
use Rattle.flash.specs.declared.Word.{Word}
use Rattle.flash.specs.declared.Operation.{Operation}
use Rattle.flash.specs.declared.Operation.TheVariants.{Nothing, ErasePage, StoreWord}
use Rattle.header.specs.declared.Inputs.{Inputs}
use Rattle.image.specs.Check.{check_file}
use Rattle.image.specs.Answer.{Answer}
use Rattle.octets.proofs.Laws.{and_left, and_right}
use Rattle.octets.specs.Read.{starts_with}
use Rattle.sessions.specs.Record.{pages_of, untouched, erasing, filling, full, waiting, sound, no_word, with_zero, with_page, with_phase}
use Rattle.sessions.specs.Run.{is_done}
use Rattle.sessions.specs.Calls.{confirm_of, plan, refused, erase_plan, taken_by, joined, word_at, in_first_word, filled, fill_plan, file_in, close_by, close_plan}
use Rattle.sessions.specs.Operations.{Writing, erase_next, fill_with, close_with, plan_of, FirstErase, OneOperation, AtMostOneOperation}
use Rattle.sessions.specs.declared.Session.{Session}
use Rattle.sessions.specs.declared.Reply.{Reply}
use Rattle.sessions.specs.declared.Reply.TheVariants as reply
use Rattle.sessions.proofs.Facts.{Sound, sound_facts, counted_none}

-- ---- constructors told apart

is_refused : Reply → Bool
is_refused reply.Begun = false
is_refused reply.Erased = false
is_refused (reply.Took k) = false
is_refused reply.Accepted = false
is_refused reply.Done = false
is_refused (reply.Refused number) = true
is_refused (reply.Rejected r) = false

is_rejected : Reply → Bool
is_rejected reply.Begun = false
is_rejected reply.Erased = false
is_rejected (reply.Took k) = false
is_rejected reply.Accepted = false
is_rejected reply.Done = false
is_rejected (reply.Refused number) = false
is_rejected (reply.Rejected r) = true

unfoldable pub is_erase : Operation → Bool
is_erase Nothing = false
is_erase (ErasePage p) = true
is_erase (StoreWord at w) = false

is_store : Operation → Bool
is_store Nothing = false
is_store (ErasePage p) = false
is_store (StoreWord at w) = true

place_of : Operation → ℕ
place_of Nothing = 0
place_of (ErasePage p) = p
place_of (StoreWord at w) = at

word_in : Operation → Word
word_in Nothing = word_of no_word
word_in (ErasePage p) = word_of no_word
word_in (StoreWord at w) = w

-- ---- one operation, by what is planned

module _ (c : Writing) (s : Session) (slot : List ℕ) where
  refused_one : (number : ℕ) → OneOperation c s slot (refused s number)
  unfolding is_erase is_store
  refused_one number =
      record {
        refused = λ k e. (refl, refl);
        rejected = λ r e. refl;
        erased = λ p e. absurd (false≢true (ap is_erase e));
        stored = λ at w e. absurd (false≢true (ap is_store e));
        counted = sym (add-zero s.operations);
      }

  nothing_one : (t : Session) (r : Reply) → is_refused r ≡ false → t.operations ≡ s.operations → OneOperation c s slot (plan t r Nothing)
  unfolding is_erase is_store is_refused
  nothing_one t r h n =
      record {
        refused = λ k e. absurd (true≢false (sym (ap is_refused e) ∙ h));
        rejected = λ q e. refl;
        erased = λ p e. absurd (false≢true (ap is_erase e));
        stored = λ at w e. absurd (false≢true (ap is_store e));
        counted = n ∙ sym (add-zero s.operations);
      }

  erase_one : (t : Session) (page : ℕ) → page < pages_of (length slot) → 0 < s.operations → t.operations ≡ s.operations + 1
      → OneOperation c s slot (plan t reply.Erased (ErasePage page))
  unfolding is_store is_refused is_rejected place_of
  erase_one t page h some n =
      record {
        refused = λ k e. absurd (false≢true (ap is_refused e));
        rejected = λ q e. absurd (false≢true (ap is_rejected e));
        erased = λ p e. rw (← ap place_of e) (h, some);
        stored = λ at w e. absurd (false≢true (ap is_store e));
        counted = n;
      }

  store_one : (t : Session) (r : Reply) (at : ℕ) (w : Word) → is_refused r ≡ false → is_rejected r ≡ false
      → at % 4 ≡ 0 → at + 4 ≤ length slot → (starts_erased (drop at slot) ≡ true) ⊎ FirstErase c s at w → t.operations ≡ s.operations + 1
      → OneOperation c s slot (plan t r (StoreWord at w))
  unfolding is_erase is_refused is_rejected place_of word_in
  store_one t r at w h j aligned inside free n =
      record {
        refused = λ k e. absurd (true≢false (sym (ap is_refused e) ∙ h));
        rejected = λ q e. absurd (true≢false (sym (ap is_rejected e) ∙ j));
        erased = λ p e. absurd (false≢true (ap is_erase e));
        stored = λ at' w' e. rw (← ap place_of e, ← ap word_in e) (aligned, inside, free);
        counted = n;
      }

-- ---- the calls

module _ (s : Session) (slot : List ℕ) where
  erase_plans : OneOperation erase_next s slot (erase_plan s slot)
  unfolding is_refused is_rejected
  erase_plans = go (erasing s (length slot)) refl (untouched s) refl
    where
      go : (a : Bool) → erasing s (length slot) ≡ a → (b : Bool) → untouched s ≡ b → OneOperation erase_next s slot (erase_plan s slot)
      go true h true i =
          let f = sound_facts s (length slot) (and_left (sound s (length slot)) _ h) in
          let none : s.operations ≡ 0 = eqb-true s.operations 0 i in
          rw (h, i)
          (store_one erase_next s slot (with_zero s) reply.Erased 0 (word_of no_word) refl refl refl (omega (arith, f.lengths.slot_least))
          (inr (record { call = refl; none = none; no_page = counted_none s (length slot) f none; place = refl; zero = refl })) refl)
      go true h false i =
          rw (h, i)
          (erase_one erase_next s slot (with_page s) s.pages (omega (arith, leb-true (s.pages + 1) (pages_of (length slot)) (and_right (sound s (length slot)) _ h)))
          (omega (arith, eqb-false s.operations 0 i)) refl)
      go false h b i = rw h (refused_one erase_next s slot 19)

  filled_one : (piece : List ℕ) (k : ℕ) (w : List ℕ) → (Sound s (length slot) → s.taken % 4 + k ≡ 4 → s.taken + k ≤ s.file) → OneOperation (fill_with piece) s slot (filled s k w slot)
  unfolding is_refused is_rejected
  filled_one piece k w in-file = go (filling s (length slot)) refl (eqb (s.taken % 4 + k) 4) refl (in_first_word s) refl (starts_erased (drop (word_at s) slot)) refl
    where
      go : (a : Bool) → filling s (length slot) ≡ a → (b : Bool) → eqb (s.taken % 4 + k) 4 ≡ b → (c : Bool) → in_first_word s ≡ c → (d : Bool) → starts_erased (drop (word_at s) slot) ≡ d
          → OneOperation (fill_with piece) s slot (filled s k w slot)
      go false h b i c j d l = rw h (refused_one (fill_with piece) s slot 19)
      go true h false i c j d l = rw (h, i) (nothing_one (fill_with piece) s slot _ (reply.Took k) refl (add-zero s.operations))
      go true h true i true j d l = rw (h, i, j) (nothing_one (fill_with piece) s slot _ (reply.Took k) refl (add-zero s.operations))
      go true h true i false j false l = rw (h, i, j, l) (refused_one (fill_with piece) s slot 23)
      go true h true i false j true l =
          let f = sound_facts s (length slot) (and_left (sound s (length slot)) _ h) in
          let m : s.taken % 4 + k ≡ 4 = eqb-true _ _ i in
          rw (h, i, j, l)
          (store_one (fill_with piece) s slot _ (reply.Took k) (word_at s) (word_of w) refl refl (omega arith) (omega (arith, in-file f m, f.lengths.file_most)) (inl l) refl)

  fill_plans : (piece : List ℕ) → OneOperation (fill_with piece) s slot (fill_plan s piece slot)
  fill_plans piece = filled_one piece (taken_by s piece) (joined s piece) (λ f m. omega (arith, f.taken))

  close_plans : (given : Inputs) → OneOperation (close_with given) s slot (close_plan s given slot)
  unfolding is_refused is_rejected
  close_plans given = go (full s (length slot)) refl (starts_erased slot) refl (check_file (file_in s slot) given)
    where
      go : (a : Bool) → full s (length slot) ≡ a → (b : Bool) → starts_erased slot ≡ b → (v : Answer) → OneOperation (close_with given) s slot (close_by s v slot)
      go false h b i v = rw h (refused_one (close_with given) s slot 19)
      go true h false i v = rw (h, i) (refused_one (close_with given) s slot 23)
      go true h true i (Err r) = rw (h, i) (nothing_one (close_with given) s slot _ (reply.Rejected r) refl refl)
      go true h true i (Ok x) =
          let f = sound_facts s (length slot) (and_left (sound s (length slot)) _ h) in
          rw (h, i) (store_one (close_with given) s slot _ reply.Accepted 0 (word_of s.first) refl refl refl (omega (arith, f.lengths.slot_least)) (inl i) refl)

  -- ---- nothing taken

  filled_nothing : (w : List ℕ) → w ≡ s.held → ((filled s 0 w slot).session ≡ s) × ((filled s 0 w slot).operation ≡ Nothing)
  filled_nothing w e = go (filling s (length slot)) refl
    where
      go : (a : Bool) → filling s (length slot) ≡ a → ((filled s 0 w slot).session ≡ s) × ((filled s 0 w slot).operation ≡ Nothing)
      go false h = rw h (refl, refl)
      go true h = rw (h, ne_eqb (s.taken % 4 + 0) 4 (λ q. omega arith), e, add-zero s.taken, add-zero s.operations) (refl, refl)

  fill_nothing : (piece : List ℕ) → (length piece ≡ 0) ⊎ (s.taken ≡ s.file) → ((fill_plan s piece slot).session ≡ s) × ((fill_plan s piece slot).operation ≡ Nothing)
  fill_nothing piece h = rw (none h) (filled_nothing (paste s.held (s.taken % 4) piece 0) (sym (paste-zero s.held (s.taken % 4) piece)))
    where
      none : (length piece ≡ 0) ⊎ (s.taken ≡ s.file) → taken_by s piece ≡ 0
      none (inl e) = omega arith
      none (inr e) = omega arith

  -- ---- what a close keeps

  close_keeps : (given : Inputs) → (close_plan s given slot).session ≡ with_phase s (close_plan s given slot).session.phase (close_plan s given slot).session.operations
  close_keeps given = go (full s (length slot)) refl (starts_erased slot) refl (check_file (file_in s slot) given)
    where
      go : (a : Bool) → full s (length slot) ≡ a → (b : Bool) → starts_erased slot ≡ b → (v : Answer)
          → (close_by s v slot).session ≡ with_phase s (close_by s v slot).session.phase (close_by s v slot).session.operations
      go false h b i v = rw h refl
      go true h false i v = rw (h, i) refl
      go true h true i (Err r) = rw (h, i) refl
      go true h true i (Ok x) = rw (h, i) refl

-- ---- Done

not_done : (c : Writing) (s : Session) (slot : List ℕ) → (plan_of c s slot).reply ≡ reply.Done → ⊥
not_done erase_next s slot e = go (erasing s (length slot)) refl (untouched s) refl e
  where
    go : (a : Bool) → erasing s (length slot) ≡ a → (b : Bool) → untouched s ≡ b → (erase_plan s slot).reply ≡ reply.Done → ⊥
    go true h true i e = false≢true (ap is_done (rw (h, i) at e))
    go true h false i e = false≢true (ap is_done (rw (h, i) at e))
    go false h b i e = false≢true (ap is_done (rw h at e))
not_done (fill_with piece) s slot e = go (filling s (length slot)) refl (eqb (s.taken % 4 + taken_by s piece) 4) refl (in_first_word s) refl (starts_erased (drop (word_at s) slot)) refl e
  where
    go : (a : Bool) → filling s (length slot) ≡ a → (b : Bool) → eqb (s.taken % 4 + taken_by s piece) 4 ≡ b → (c : Bool) → in_first_word s ≡ c → (d : Bool) → starts_erased (drop (word_at s) slot) ≡ d
        → (fill_plan s piece slot).reply ≡ reply.Done → ⊥
    go false h b i c j d l e = false≢true (ap is_done (rw h at e))
    go true h false i c j d l e = false≢true (ap is_done (rw (h, i) at e))
    go true h true i true j d l e = false≢true (ap is_done (rw (h, i, j) at e))
    go true h true i false j false l e = false≢true (ap is_done (rw (h, i, j, l) at e))
    go true h true i false j true l e = false≢true (ap is_done (rw (h, i, j, l) at e))
not_done (close_with given) s slot e = go (full s (length slot)) refl (starts_erased slot) refl (check_file (file_in s slot) given) e
  where
    go : (a : Bool) → full s (length slot) ≡ a → (b : Bool) → starts_erased slot ≡ b → (v : Answer) → (close_by s v slot).reply ≡ reply.Done → ⊥
    go false h b i v e = false≢true (ap is_done (rw h at e))
    go true h false i v e = false≢true (ap is_done (rw (h, i) at e))
    go true h true i (Err r) e = false≢true (ap is_done (rw (h, i) at e))
    go true h true i (Ok x) e = false≢true (ap is_done (rw (h, i) at e))

confirm_stands : (s : Session) (slot : List ℕ) → (confirm_of s slot).reply ≡ reply.Done → starts_with s.first slot ≡ true
confirm_stands s slot e = go (waiting s (length slot)) refl (starts_with s.first slot) refl e
  where
    go : (a : Bool) → waiting s (length slot) ≡ a → (b : Bool) → starts_with s.first slot ≡ b → (confirm_of s slot).reply ≡ reply.Done → starts_with s.first slot ≡ true
    go a h true i e = i
    go true h false i e = absurd (false≢true (ap is_done (rw (h, i) at e)))
    go false h false i e = absurd (false≢true (ap is_done (rw h at e)))

plans : (c : Writing) (s : Session) (slot : List ℕ) → OneOperation c s slot (plan_of c s slot)
plans erase_next s slot = erase_plans s slot
plans (fill_with piece) s slot = fill_plans s slot piece
plans (close_with given) s slot = close_plans s slot given

pub at_most_one_operation : AtMostOneOperation
at_most_one_operation =
    record {
      one = plans;
      not_done = not_done;
      confirmed = confirm_stands;
      nothing = λ s piece slot h. fill_nothing s slot piece h;
      kept = λ s given slot. close_keeps s slot given;
      erase_made = λ s slot. (refl, refl);
      fill_made = λ s piece slot. (refl, refl);
      close_made = λ s given slot. (refl, refl);
    }
