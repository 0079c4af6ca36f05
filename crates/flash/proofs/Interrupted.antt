-- What an operation leaves if the power is cut in it: a page torn word by word, and a store made or not.
-- Assumes nothing.
use mathlib.Core.Path.{◌≡◌, refl, sym, ap, ◌∙◌}
use mathlib.Core.Bool.{Bool, true, false, cond, true≢false}
use mathlib.Core.List.{List, [], ◌∷◌, ◌++◌}
use mathlib.Core.Logic.{◌⊎◌, inl, inr}
use Prim.Native.Nat.{ℕ, zero, suc, ◌+◌, ◌-◌, ◌*◌, ◌≤◌, ◌<◌}
use native.Mathlib.Omega.{arith}
use lib.Dec.{eqb}
use lib.ListN.{length, take, drop, get_or, length-append, length-take, length-drop, take-append-drop}
use lib.Seq.{take_at, drop-drop, take_all, length-take-le}
use borrow.Author.Tests.{le-leb, eqb-true}
use Rattle.flash.specs.Flash.{erased_bytes, starts_erased, torn, first_page_torn}
use Rattle.flash.specs.Operation.{performed, interrupted}
use Rattle.flash.specs.Interrupted.{OldOrErased, InterruptedOperations}
use Rattle.flash.specs.declared.Word.{Word}
use Rattle.flash.specs.declared.Operation.TheVariants.{ErasePage, StoreWord}
use Rattle.flash.proofs.Laws.{length_erased, drop_past, word_erased, cut_not_erased}

-- ---- words torn by a choice

word_long : (c : Bool) (b : List ℕ) → 4 ≤ length b → length (cond c (erased_bytes 4) (take 4 b)) ≡ 4
word_long true b h = length_erased 4
word_long false b h = length-take-le 4 b h

torn_long : (choice : List Bool) (b : List ℕ) → length choice * 4 ≤ length b → length (torn choice b) ≡ length b
torn_long [] b h = refl
torn_long (c ∷ choice) b h =
    length-append (cond c (erased_bytes 4) (take 4 b)) (torn choice (drop 4 b))
    ∙ omega (arith, word_long c b (omega arith), length-drop 4 b, torn_long choice (drop 4 b) (omega (arith, length-drop 4 b)))

-- each word is as it was or erased
torn_word : (choice : List Bool) (b : List ℕ) (k : ℕ) → length choice * 4 ≤ length b
    → (take 4 (drop (k * 4) (torn choice b)) ≡ take 4 (drop (k * 4) b)) ⊎ (take 4 (drop (k * 4) (torn choice b)) ≡ erased_bytes 4)
torn_word [] b k h = inl refl
torn_word (true ∷ choice) b zero h = inr (take_at (erased_bytes 4) (torn choice (drop 4 b)) 4 (length_erased 4))
torn_word (false ∷ choice) b zero h = inl (take_at (take 4 b) (torn choice (drop 4 b)) 4 (length-take-le 4 b (omega arith)))
torn_word (c ∷ choice) b (suc k) h =
    let e : suc k * 4 ≡ 4 + k * 4 = omega arith in
    rw (e, drop_past (cond c (erased_bytes 4) (take 4 b)) (torn choice (drop 4 b)) 4 (k * 4) (word_long c b (omega arith)), ← drop-drop (k * 4) 4 b)
    (torn_word choice (drop 4 b) k (omega (arith, length-drop 4 b)))

-- and what stands behind them is as it was
torn_behind : (choice : List Bool) (b : List ℕ) (n : ℕ) → length choice * 4 ≤ length b → length choice * 4 ≤ n → drop n (torn choice b) ≡ drop n b
torn_behind [] b n h l = refl
torn_behind (c ∷ choice) b n h l =
    let e : n ≡ 4 + (n - 4) = omega arith in
    ap (λ (k : ℕ). drop k (torn (c ∷ choice) b)) e
    ∙ drop_past (cond c (erased_bytes 4) (take 4 b)) (torn choice (drop 4 b)) 4 (n - 4) (word_long c b (omega arith))
    ∙ torn_behind choice (drop 4 b) (n - 4) (omega (arith, length-drop 4 b)) (omega arith)
    ∙ drop-drop (n - 4) 4 b
    ∙ ap (λ (k : ℕ). drop k b) (sym e)

-- ---- the choice by which words are torn so

choice_of : ℕ → List ℕ → List Bool
choice_of zero left = []
choice_of (suc n) left = starts_erased left ∷ choice_of n (drop 4 left)

length_choice : (n : ℕ) (left : List ℕ) → length (choice_of n left) ≡ n
unfolding choice_of
length_choice zero left = refl
length_choice (suc n) left = ap suc (length_choice n (drop 4 left))

-- a word that tests as erased is four erased bytes
erased_bytes_lem : (b : List ℕ) → starts_erased b ≡ true → take 4 b ≡ erased_bytes 4
unfolding erased_bytes
erased_bytes_lem [] h = absurd (true≢false (sym h ∙ cut_not_erased [] (omega arith)))
erased_bytes_lem (x ∷ []) h = absurd (true≢false (sym h ∙ cut_not_erased (x ∷ []) (omega arith)))
erased_bytes_lem (x ∷ y ∷ []) h = absurd (true≢false (sym h ∙ cut_not_erased (x ∷ y ∷ []) (omega arith)))
erased_bytes_lem (x ∷ y ∷ z ∷ []) h = absurd (true≢false (sym h ∙ cut_not_erased (x ∷ y ∷ z ∷ []) (omega arith)))
erased_bytes_lem (x ∷ y ∷ z ∷ w ∷ rest) h = go (eqb x 255) refl (eqb y 255) refl (eqb z 255) refl (eqb w 255) refl
  where
    go : (a : Bool) → eqb x 255 ≡ a → (b : Bool) → eqb y 255 ≡ b → (c : Bool) → eqb z 255 ≡ c → (d : Bool) → eqb w 255 ≡ d → x ∷ y ∷ z ∷ w ∷ [] ≡ 255 ∷ 255 ∷ 255 ∷ 255 ∷ []
    go true p true q true r true s = rw (eqb-true x 255 p, eqb-true y 255 q, eqb-true z 255 r, eqb-true w 255 s)
    go true p true q true r false s = absurd (true≢false (sym (rw (p, q, r, s) at h)))
    go true p true q false r d s = absurd (true≢false (sym (rw (p, q, r) at h)))
    go true p false q c r d s = absurd (true≢false (sym (rw (p, q) at h)))
    go false p b q c r d s = absurd (true≢false (sym (rw p at h)))

torn_first : (b left : List ℕ) → (take 4 left ≡ take 4 b) ⊎ (take 4 left ≡ erased_bytes 4) → cond (starts_erased left) (erased_bytes 4) (take 4 b) ≡ take 4 left
torn_first b left h = go (starts_erased left) refl h
  where
    go : (s : Bool) → starts_erased left ≡ s → (take 4 left ≡ take 4 b) ⊎ (take 4 left ≡ erased_bytes 4) → cond (starts_erased left) (erased_bytes 4) (take 4 b) ≡ take 4 left
    go true e h = rw e (sym (erased_bytes_lem left e))
    go false e (inl h) = rw e (sym h)
    go false e (inr h) = absurd (true≢false (sym (word_erased left h) ∙ e))

torn_so : (n : ℕ) (b left : List ℕ) → n * 4 ≤ length b → length left ≡ length b
    → ((k : ℕ) → k < n → (take 4 (drop (k * 4) left) ≡ take 4 (drop (k * 4) b)) ⊎ (take 4 (drop (k * 4) left) ≡ erased_bytes 4))
    → drop (n * 4) left ≡ drop (n * 4) b → torn (choice_of n left) b ≡ left
unfolding choice_of
torn_so zero b left h l words behind = sym behind
torn_so (suc n) b left h l words behind =
    let e : suc n * 4 ≡ 4 + n * 4 = omega arith in
    let behind' : drop (n * 4) (drop 4 left) ≡ drop (n * 4) (drop 4 b) = drop-drop (n * 4) 4 left ∙ ap (λ (k : ℕ). drop k left) (sym e) ∙ behind ∙ ap (λ (k : ℕ). drop k b) e ∙ sym (drop-drop (n * 4) 4 b) in
    let rest : torn (choice_of n (drop 4 left)) (drop 4 b) ≡ drop 4 left = torn_so n (drop 4 b) (drop 4 left) (omega (arith, length-drop 4 b)) (omega (arith, length-drop 4 b, length-drop 4 left)) next behind' in
    rw (torn_first b left (words 0 (omega arith)), rest) (take-append-drop 4 left)
  where
    next : (k : ℕ) → k < n → (take 4 (drop (k * 4) (drop 4 left)) ≡ take 4 (drop (k * 4) (drop 4 b))) ⊎ (take 4 (drop (k * 4) (drop 4 left)) ≡ erased_bytes 4)
    next k i =
        let e : suc k * 4 ≡ 4 + k * 4 = omega arith in
        rw (drop-drop (k * 4) 4 left, drop-drop (k * 4) 4 b, ← e) (words (suc k) (omega arith))

-- ---- a page of the slot

page_torn : (choice : List Bool) (b : List ℕ) → 4096 ≤ length b → first_page_torn choice b ≡ torn (take 1024 choice) b
unfolding first_page_torn
page_torn choice b h = rw (le-leb 4096 (length b) h)

module _ (p : ℕ) (slot : List ℕ) (inside : p * 4096 + 4096 ≤ length slot) where
  room : 4096 ≤ length (drop (p * 4096) slot)
  room = omega (arith, length-drop (p * 4096) slot)

  -- the choice has no more entries than the page has words
  few : (choice : List Bool) → length (take 1024 choice) * 4 ≤ length (drop (p * 4096) slot)
  few choice = omega (arith, room, length-take 1024 choice)

  opening : length (take (p * 4096) slot) ≡ p * 4096
  opening = length-take-le (p * 4096) slot (omega arith)

  erase_interrupted : (choice : List Bool) → interrupted choice (ErasePage p) slot ≡ take (p * 4096) slot ++ torn (take 1024 choice) (drop (p * 4096) slot)
  erase_interrupted choice = ap (λ (v : List ℕ). take (p * 4096) slot ++ v) (page_torn choice (drop (p * 4096) slot) room)

  pub erase_leaves : (choice : List Bool) → OldOrErased p slot (interrupted choice (ErasePage p) slot)
  unfolding erased_bytes
  erase_leaves choice =
      rw (erase_interrupted choice) (record {
        long = length-append (take (p * 4096) slot) left ∙ omega (arith, opening, length-drop (p * 4096) slot, torn_long (take 1024 choice) (drop (p * 4096) slot) (few choice));
        before = take_at (take (p * 4096) slot) left (p * 4096) opening;
        words = λ k i. rw (drop_past (take (p * 4096) slot) left (p * 4096) (k * 4) opening, ← drop-drop (k * 4) (p * 4096) slot) (torn_word (take 1024 choice) (drop (p * 4096) slot) k (few choice));
        behind = drop_past (take (p * 4096) slot) left (p * 4096) 4096 opening
            ∙ torn_behind (take 1024 choice) (drop (p * 4096) slot) 4096 (few choice) (omega (arith, length-take 1024 choice))
            ∙ drop-drop 4096 (p * 4096) slot;
      })
    where
      left : List ℕ
      left = torn (take 1024 choice) (drop (p * 4096) slot)

  erase_reaches : (left : List ℕ) → OldOrErased p slot left → (choice : List Bool) × (interrupted choice (ErasePage p) slot ≡ left)
  unfolding erased_bytes
  erase_reaches left o = (choice, erase_interrupted choice ∙ rw (take_all 1024 choice (omega (arith, length_choice 1024 (drop (p * 4096) left))), so, ← o.before) (take-append-drop (p * 4096) left))
    where
      choice : List Bool
      choice = choice_of 1024 (drop (p * 4096) left)

      so : torn choice (drop (p * 4096) slot) ≡ drop (p * 4096) left
      so =
          torn_so 1024 (drop (p * 4096) slot) (drop (p * 4096) left) room (omega (arith, o.long, length-drop (p * 4096) slot, length-drop (p * 4096) left))
          (λ k i. rw (drop-drop (k * 4) (p * 4096) left, drop-drop (k * 4) (p * 4096) slot) (o.words k i))
          (drop-drop 4096 (p * 4096) left ∙ o.behind ∙ sym (drop-drop 4096 (p * 4096) slot))

-- ---- a store

pub store_interrupted : (at : ℕ) (w : Word) (slot : List ℕ) (choice : List Bool)
    → (interrupted choice (StoreWord at w) slot ≡ slot) ⊎ (interrupted choice (StoreWord at w) slot ≡ performed (StoreWord at w) slot)
store_interrupted at w slot choice = go (get_or choice 0 false) refl
  where
    go : (b : Bool) → get_or choice 0 false ≡ b → (interrupted choice (StoreWord at w) slot ≡ slot) ⊎ (interrupted choice (StoreWord at w) slot ≡ performed (StoreWord at w) slot)
    go true e = inr (rw e)
    go false e = inl (rw e)

pub interrupted_operations : InterruptedOperations
interrupted_operations =
    record {
      leaves = erase_leaves;
      reaches = λ p slot left h o. erase_reaches p slot h left o;
      stores = store_interrupted;
      stores_not = λ at w slot. refl;
      stores_all = λ at w slot. refl;
      nothing = λ slot choice. refl;
    }
