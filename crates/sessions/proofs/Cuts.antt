-- What each phase says of the slot, and of what a cut inside the next call leaves: a store is made or not, and a page is torn word by word.
-- Assumes nothing.
use mathlib.Core.Path.{◌≡◌, refl, sym, ap, ◌∙◌}
use mathlib.Core.List.{List, ◌++◌}
use mathlib.Core.Bool.{Bool, true, false, true≢false}
use mathlib.Core.Logic.{◌⊎◌, inl, inr}
use Prim.Native.Nat.{ℕ, zero, suc, ◌+◌, ◌-◌, ◌*◌, ◌%◌}
use native.Mathlib.Omega.{arith}
use lib.Dec.{eqb}
use borrow.Author.Tests.{lt-ltb}
use lib.ListN.{length, take, drop}
use lib.Seq.{take-take}
use Rattle.std.specs.Prelude.{Ok, Err}
use Rattle.flash.specs.Flash.{erased_bytes, starts_erased}
use Rattle.flash.specs.Operation.{word_of, performed, interrupted}
use Rattle.flash.specs.Interrupted.{OldOrErased}
use Rattle.flash.specs.declared.Operation.{Operation}
use Rattle.flash.specs.declared.Operation.TheVariants.{Nothing, ErasePage, StoreWord}
use Rattle.flash.proofs.Interrupted.{erase_leaves, store_interrupted}
use Rattle.image.specs.Check.{check_file}
use Rattle.image.specs.Answer.{Answer}
use Rattle.image.proofs.Erased.{erased_or_zero_refused}
use Rattle.sessions.specs.Record.{pages_of, no_word, filling, full}
use Rattle.sessions.specs.Calls.{taken_by, joined, word_at, in_first_word, filled, file_in, close_by}
use Rattle.sessions.specs.Run.{Call, erase_call, fill_call, ask_call, close_call, plan_close_call, confirm_call, State, Point, advance, watch, after, operation_of, invalidated, holding, Unbootable, Cut}
use Rattle.sessions.specs.declared.Session.{Session}
use Rattle.sessions.proofs.Operations.{is_erase}
use Rattle.sessions.proofs.Slot.{invalidated_first, length_invalidated, pages_hidden, holding_first}
use Rattle.sessions.proofs.Phases.{Early, Begun, Erasing, Filling, Over, Stored, Phase, is_begun, in_erasing, in_filling, is_over, is_waiting, has_ended}
use Rattle.sessions.proofs.Allowed.{erase_allowed, first_erase, later_erase, fill_too_early, close_too_early, filling_length, erase_too_late, first_word_erased, erase_refused, fill_refused, close_refused}
use Rattle.sessions.proofs.Steps.{zero_made, page_inside}
use Rattle.sessions.proofs.Kept.{next_phase}

-- ---- a slot that cannot start

abbrev Hidden : List ℕ → Type 0
Hidden slot = (take 4 slot ≡ erased_bytes 4) ⊎ (take 4 slot ≡ no_word)

unbootable : (slot : List ℕ) → Hidden slot → Unbootable slot
unfolding erased_bytes
unbootable slot h = record { first = h; refused = λ given. erased_or_zero_refused slot given h }

-- torn, it still cannot: the first word is as it was or erased
torn_hidden : (p : ℕ) (slot left : List ℕ) → OldOrErased p slot left → Hidden slot → Hidden left
unfolding erased_bytes
torn_hidden zero slot left o h = go (o.words 0 (omega arith)) h
  where
    go : (take 4 left ≡ take 4 slot) ⊎ (take 4 left ≡ erased_bytes 4) → Hidden slot → Hidden left
    go (inl e) h = rw e h
    go (inr e) h = inl e
torn_hidden (suc p) slot left o h =
    let e : take 4 left ≡ take 4 slot =
    sym (take-take 4 (suc p * 4096) left (omega arith)) ∙ ap (take 4) o.before ∙ take-take 4 (suc p * 4096) slot (omega arith) in
    rw e h

-- ---- the operation of a call

-- made, it is what the call leaves
pub after_made : (c : Call) (st : State) → (after c st).slot ≡ performed (operation_of c st) st.slot
after_made erase_call st = refl
after_made (fill_call piece) st = refl
after_made ask_call st = refl
after_made (close_call given) st = refl
after_made (plan_close_call given) st = refl
after_made confirm_call st = refl

-- the slot if the power is cut in it
abbrev cut_in : Call → List Bool → State → List ℕ
cut_in c choice st = interrupted choice (operation_of c st) st.slot

-- a call that does not erase a page then leaves the slot as it was, or as it is after it
made_or_not : (c : Call) (choice : List Bool) (st : State) → is_erase (operation_of c st) ≡ false → (cut_in c choice st ≡ st.slot) ⊎ (cut_in c choice st ≡ (after c st).slot)
unfolding is_erase
made_or_not c choice st h = rw (after_made c st) (go (operation_of c st) h)
  where
    go : (o : Operation) → is_erase o ≡ false → (interrupted choice o st.slot ≡ st.slot) ⊎ (interrupted choice o st.slot ≡ performed o st.slot)
    go Nothing h = inl refl
    go (ErasePage p) h = absurd (true≢false h)
    go (StoreWord at w) h = store_interrupted at w st.slot choice

fill_erases_none : (s : Session) (k : ℕ) (w slot : List ℕ) → is_erase (filled s k w slot).operation ≡ false
unfolding is_erase
fill_erases_none s k w slot = go (filling s (length slot)) refl (eqb (s.taken % 4 + k) 4) refl (in_first_word s) refl (starts_erased (drop (word_at s) slot)) refl
  where
    go : (a : Bool) → filling s (length slot) ≡ a → (b : Bool) → eqb (s.taken % 4 + k) 4 ≡ b → (c : Bool) → in_first_word s ≡ c
        → (d : Bool) → starts_erased (drop (word_at s) slot) ≡ d → is_erase (filled s k w slot).operation ≡ false
    go false p b q c r d e = rw p
    go true p false q c r d e = rw (p, q)
    go true p true q true r d e = rw (p, q, r)
    go true p true q false r true e = rw (p, q, r, e)
    go true p true q false r false e = rw (p, q, r, e)

close_erases_none : (s : Session) (v : Answer) (slot : List ℕ) → is_erase (close_by s v slot).operation ≡ false
unfolding is_erase
close_erases_none s v slot = go (full s (length slot)) refl (starts_erased slot) refl v
  where
    go : (a : Bool) → full s (length slot) ≡ a → (b : Bool) → starts_erased slot ≡ b → (v : Answer) → is_erase (close_by s v slot).operation ≡ false
    go false h b i v = rw h
    go true h false i v = rw (h, i)
    go true h true i (Err r) = rw (h, i)
    go true h true i (Ok x) = rw (h, i)

module _ (found : List ℕ) (f : ℕ) where
  -- ---- the slot in each phase

  pub record Says (p : Point) : Type 0 where
    pub untouched : p.past.touched ≡ false → p.now.slot ≡ found
    pub hidden : (p.past.touched ≡ true) ⊎ Unbootable found → p.past.stored ≡ false → Unbootable p.now.slot
    pub landed : p.past.stored ≡ true → p.now.slot ≡ p.past.given ++ erased_bytes (length found - f)
    pub long : length p.now.slot ≡ length found

  says_begun : (p : Point) → Begun found f p → Says p
  says_begun p e = record {
    untouched = λ t. e.slot;
    hidden = λ h d. found_hidden h;
    landed = λ d. absurd (true≢false (sym d ∙ e.early.not_stored.stored));
    long = e.early.long;
  }
    where
      found_hidden : (p.past.touched ≡ true) ⊎ Unbootable found → Unbootable p.now.slot
      found_hidden (inl t) = absurd (true≢false (sym t ∙ e.touched))
      found_hidden (inr u) = rw e.slot u

  says_erasing : (p : Point) → Erasing found f p → Says p
  says_erasing p e = record {
    untouched = λ t. absurd (true≢false (sym e.touched ∙ t));
    hidden = λ h d. unbootable p.now.slot (rw e.slot (pages_hidden p.now.session.pages found));
    landed = λ d. absurd (true≢false (sym d ∙ e.early.not_stored.stored));
    long = e.early.long;
  }

  says_filling : (p : Point) → Filling found f p → Says p
  says_filling p e = record {
    untouched = λ t. absurd (true≢false (sym e.touched ∙ t));
    hidden = λ h d. unbootable p.now.slot (inl (first_word_erased found f p e));
    landed = λ d. absurd (true≢false (sym d ∙ e.not_stored.stored));
    long = filling_length found f p e;
  }

  says_over : (p : Point) → Over found f p → Says p
  says_over p o = record {
    untouched = as_found;
    hidden = λ h d. go p.past.touched refl h;
    landed = λ d. absurd (true≢false (sym d ∙ o.not_stored.stored));
    long = o.long;
  }
    where
      as_found : p.past.touched ≡ false → p.now.slot ≡ found
      as_found t = rw t at o.slot

      go : (t : Bool) → p.past.touched ≡ t → (p.past.touched ≡ true) ⊎ Unbootable found → Unbootable p.now.slot
      go true t h =
          let s : p.now.slot ≡ holding p.past.given (length found) = rw (t, o.not_stored.stored, lt-ltb (pages_of (length found)) p.past.erases (o.enough t)) at o.slot in
          unbootable p.now.slot (inl (ap (take 4) s ∙ holding_first p.past.given (length found)))
      go false t (inl h) = absurd (true≢false (sym h ∙ t))
      go false t (inr u) = rw (as_found t) u

  says_stored : (p : Point) → Stored found f p → Says p
  says_stored p o = record {
    untouched = λ t. absurd (true≢false (sym o.touched ∙ t));
    hidden = λ h d. absurd (true≢false (sym o.stored ∙ d));
    landed = λ d. o.slot;
    long = o.long;
  }

  pub says : (p : Point) → Phase found f p → Says p
  says p (is_begun e) = says_begun p e
  says p (in_erasing e) = says_erasing p e
  says p (in_filling e) = says_filling p e
  says p (is_over o) = says_over p o
  says p (is_waiting o) = says_stored p o.stored
  says p (has_ended o) = says_stored p o.stored

  -- ---- a cut inside the next call

  -- it makes no operation: the slot stays
  quiet : (c : Call) (choice : List Bool) (p : Point) → Says p → operation_of c p.now ≡ Nothing → Cut found f p c (cut_in c choice p.now)
  quiet c choice p s e = rw e (record {
    untouched = λ t. inl (s.untouched t);
    hidden = λ h d. inl (s.hidden h d);
    landed = s.landed;
    long = s.long;
  })

  -- the operation of the next Erase
  pub zero_next : (p : Point) → Begun found f p → operation_of erase_call p.now ≡ StoreWord 0 (word_of no_word)
  zero_next p e = rw (operation_of, erase_allowed found f p e.early, first_erase found f p e)

  pub page_next : (p : Point) → Erasing found f p → operation_of erase_call p.now ≡ ErasePage p.now.session.pages
  page_next p e = rw (operation_of, erase_allowed found f p e.early, later_erase found f p e)

  -- it is the first Erase: zero is in word 0, or not
  zero_cut : (choice : List Bool) (p : Point) → Begun found f p → Cut found f p erase_call (cut_in erase_call choice p.now)
  zero_cut choice p e = rw (zero_next p e) (go (interrupted choice (StoreWord 0 (word_of no_word)) p.now.slot) (store_interrupted 0 (word_of no_word) p.now.slot choice))
    where
      s : Says p
      s = says_begun p e

      u : Unbootable (invalidated found)
      u = unbootable (invalidated found) (inr (invalidated_first found))

      go : (left : List ℕ) → (left ≡ p.now.slot) ⊎ (left ≡ performed (StoreWord 0 (word_of no_word)) p.now.slot) → Cut found f p erase_call left
      go left (inl h) = rw h (record { untouched = λ t. inl (s.untouched t); hidden = λ h d. inl (s.hidden h d); landed = s.landed; long = s.long })
      go left (inr h) = rw (h, zero_made found f p e) (record {
        untouched = λ t. inr (refl, refl, u);
        hidden = λ h d. inl u;
        landed = λ d. absurd (true≢false (sym d ∙ e.early.not_stored.stored));
        long = length_invalidated found (omega (arith, e.early.sound.lengths.slot_least));
      })

  -- it is a further Erase: its page is torn
  page_cut : (choice : List Bool) (p : Point) → Erasing found f p → Cut found f p erase_call (cut_in erase_call choice p.now)
  page_cut choice p e = rw (page_next p e) (record {
    untouched = λ t. absurd (true≢false (sym e.touched ∙ t));
    hidden = λ h d. inl (unbootable left (torn_hidden p.now.session.pages p.now.slot left o ((says_erasing p e).hidden h d).first));
    landed = λ d. absurd (true≢false (sym d ∙ e.early.not_stored.stored));
    long = o.long ∙ e.early.long;
  })
    where
      left : List ℕ
      left = interrupted choice (ErasePage p.now.session.pages) p.now.slot

      o : OldOrErased p.now.session.pages p.now.slot left
      o = erase_leaves p.now.session.pages p.now.slot (page_inside found f p e) choice

  -- it fills or closes while the file is filled in: a word is stored, or not
  word_cut : (c : Call) (choice : List Bool) (p : Point) → Filling found f p → is_erase (operation_of c p.now) ≡ false
      → (advance (length found) f c p).past.touched ≡ true
      → ((advance (length found) f c p).past.stored ≡ true → (advance (length found) f c p).past.given ≡ p.past.given)
      → Cut found f p c (cut_in c choice p.now)
  word_cut c choice p e none touched same = record {
    untouched = λ t. absurd (true≢false (sym e.touched ∙ t));
    hidden = λ h d. go (made_or_not c choice p.now none) (advance (length found) f c p).past.stored refl h d;
    landed = λ d. absurd (true≢false (sym d ∙ e.not_stored.stored));
    long = stays (made_or_not c choice p.now none);
  }
    where
      s : Says p
      s = says_filling p e

      t : Says (advance (length found) f c p)
      t = says (advance (length found) f c p) (next_phase found f c p (in_filling e))

      stays : (cut_in c choice p.now ≡ p.now.slot) ⊎ (cut_in c choice p.now ≡ (after c p.now).slot) → length (cut_in c choice p.now) ≡ length found
      stays (inl h) = ap length h ∙ s.long
      stays (inr h) = ap length h ∙ t.long

      go : (cut_in c choice p.now ≡ p.now.slot) ⊎ (cut_in c choice p.now ≡ (after c p.now).slot)
          → (b : Bool) → (advance (length found) f c p).past.stored ≡ b
          → (p.past.touched ≡ true) ⊎ Unbootable found → p.past.stored ≡ false
          → Unbootable (cut_in c choice p.now) ⊎ (((watch (length found) f c p.now p.past).stored ≡ true) × (cut_in c choice p.now ≡ p.past.given ++ erased_bytes (length found - f)))
      go (inl k) b i h d = inl (rw k (s.hidden h d))
      go (inr k) true i h d = inr (i, k ∙ t.landed i ∙ ap (λ (g : List ℕ). g ++ erased_bytes (length found - f)) (same i))
      go (inr k) false i h d = inl (rw k (t.hidden (inl touched) i))

  -- ---- by the phase and the call

  cut_early : (c : Call) (choice : List Bool) (p : Point) → Early found f p → Says p → Cut found f p erase_call (cut_in erase_call choice p.now) → Cut found f p c (cut_in c choice p.now)
  cut_early erase_call choice p e s d = d
  cut_early (fill_call piece) choice p e s d = quiet (fill_call piece) choice p s (rw (operation_of, fill_too_early found f p e))
  cut_early ask_call choice p e s d = quiet ask_call choice p s refl
  cut_early (close_call given) choice p e s d = quiet (close_call given) choice p s (rw (operation_of, close_too_early found f p e))
  cut_early (plan_close_call given) choice p e s d = quiet (plan_close_call given) choice p s (rw (operation_of, close_too_early found f p e))
  cut_early confirm_call choice p e s d = quiet confirm_call choice p s refl

  cut_filling : (c : Call) (choice : List Bool) (p : Point) → Filling found f p → Cut found f p c (cut_in c choice p.now)
  cut_filling erase_call choice p e = quiet erase_call choice p (says_filling p e) (rw (operation_of, erase_too_late found f p e))
  cut_filling (fill_call piece) choice p e =
      word_cut (fill_call piece) choice p e (fill_erases_none p.now.session (taken_by p.now.session piece) (joined p.now.session piece) p.now.slot)
      e.touched (λ d. absurd (true≢false (sym d ∙ e.not_stored.stored)))
  cut_filling ask_call choice p e = quiet ask_call choice p (says_filling p e) refl
  cut_filling (close_call given) choice p e =
      word_cut (close_call given) choice p e (close_erases_none p.now.session (check_file (file_in p.now.session p.now.slot) given) p.now.slot) e.touched (λ d. refl)
  cut_filling (plan_close_call given) choice p e =
      word_cut (plan_close_call given) choice p e (close_erases_none p.now.session (check_file (file_in p.now.session p.now.slot) given) p.now.slot) e.touched (λ d. refl)
  cut_filling confirm_call choice p e = quiet confirm_call choice p (says_filling p e) refl

  -- a session that is not open, in the phase k: no call makes an operation
  cut_closed : (c : Call) (choice : List Bool) (p : Point) (k : ℕ) → p.now.session.phase ≡ k → eqb k 1 ≡ false → Says p → Cut found f p c (cut_in c choice p.now)
  cut_closed erase_call choice p k h other s = quiet erase_call choice p s (rw (operation_of, erase_refused p k h other))
  cut_closed (fill_call piece) choice p k h other s = quiet (fill_call piece) choice p s (rw (operation_of, fill_refused p k h other))
  cut_closed ask_call choice p k h other s = quiet ask_call choice p s refl
  cut_closed (close_call given) choice p k h other s = quiet (close_call given) choice p s (rw (operation_of, close_refused p k h other))
  cut_closed (plan_close_call given) choice p k h other s = quiet (plan_close_call given) choice p s (rw (operation_of, close_refused p k h other))
  cut_closed confirm_call choice p k h other s = quiet confirm_call choice p s refl

  pub cut : (c : Call) (choice : List Bool) (p : Point) → Phase found f p → Cut found f p c (interrupted choice (operation_of c p.now) p.now.slot)
  cut c choice p (is_begun e) = cut_early c choice p e.early (says_begun p e) (zero_cut choice p e)
  cut c choice p (in_erasing e) = cut_early c choice p e.early (says_erasing p e) (page_cut choice p e)
  cut c choice p (in_filling e) = cut_filling c choice p e
  cut c choice p (is_over o) = cut_closed c choice p 0 o.phase refl (says_over p o)
  cut c choice p (is_waiting o) = cut_closed c choice p 2 o.phase refl (says_stored p o.stored)
  cut c choice p (has_ended o) = cut_closed c choice p 0 o.phase refl (says_stored p o.stored)
