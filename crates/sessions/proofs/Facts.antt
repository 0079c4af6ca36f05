-- What a session's tests say of its numbers: each conjunction is taken apart once, into a record of facts.
-- Assumes nothing.
use mathlib.Core.Path.{◌≡◌, refl, sym, ◌∙◌}
use mathlib.Core.Bool.{Bool, true, false, ◌&&◌, ◌||◌, and-false, false≢true}
use mathlib.Core.Logic.{◌⊎◌, inl, inr, ⊎_elim}
use mathlib.Core.List.{List, [], ◌∷◌}
use Prim.Native.Nat.{ℕ, ◌+◌, ◌/◌, ◌%◌, ◌≤◌}
use native.Mathlib.Omega.{arith}
use lib.Dec.{eqb, leb}
use borrow.Author.Tests.{eqb-true, leb-true, eq-eqb, le-leb}
use Rattle.octets.specs.Rounding.{multiple_of}
use Rattle.octets.proofs.Laws.{and_left, and_right, or_cases}
use Rattle.sessions.specs.Record.{slot_len_right, file_len_right, pages_of, words_stored, untouched, counted, sound, full, waiting}
use Rattle.sessions.specs.declared.Session.{Session}

-- the lengths are those that begin takes
pub record Lengths (n f : ℕ) : Type 0 where
  pub slot_whole : n % 4096 ≡ 0
  pub slot_least : 4096 ≤ n
  pub slot_most : n ≤ 2097152
  pub file_whole : f % 4 ≡ 0
  pub file_least : 1540 ≤ f
  pub file_most : f ≤ n

-- the record is that of an open session, and consistent with a slot of n bytes
pub record Sound (s : Session) (n : ℕ) : Type 0 where
  pub pages : s.pages ≤ pages_of n
  pub phase : s.phase ≡ 1
  pub slot : s.slot ≡ n
  pub lengths : Lengths n s.file
  pub order : (s.pages ≡ pages_of n) ⊎ (s.taken ≡ 0)
  pub taken : s.taken ≤ s.file
  pub operations : (s.operations ≡ s.pages + words_stored s.taken + 1) ⊎ ((s.operations ≡ 0) × (s.pages ≡ 0))

-- ---- a conjunction as the list of its tests

abbrev every : List Bool → Bool
every [] = true
every (b ∷ []) = b
every (b ∷ c ∷ bs) = b && every (c ∷ bs)

abbrev Each : List Bool → Type 0
Each [] = Unit {0}
Each (b ∷ bs) = (b ≡ true) × Each bs

each : (bs : List Bool) → every bs ≡ true → Each bs
each [] e = tt
each (b ∷ []) e = (e, tt)
each (b ∷ c ∷ bs) e = (and_left b (every (c ∷ bs)) e, each (c ∷ bs) (and_right b (every (c ∷ bs)) e))

every_of : (bs : List Bool) → Each bs → every bs ≡ true
every_of [] h = refl
every_of (b ∷ []) h = h.0
every_of (b ∷ c ∷ bs) h = rw h.0 (every_of (c ∷ bs) h.1)

either : (a b : Bool) → (a ≡ true) ⊎ (b ≡ true) → (a || b) ≡ true
either true b h = refl
either false b (inl p) = absurd (false≢true p)
either false b (inr p) = p

-- ---- the tests of `sound`

abbrev slot_tests : ℕ → List Bool
slot_tests n = multiple_of 4096 n ∷ leb 4096 n ∷ leb n 2097152 ∷ []

abbrev file_tests : ℕ → ℕ → List Bool
file_tests n f = multiple_of 4 f ∷ leb 1540 f ∷ leb f n ∷ []

pub lengths_facts : (n f : ℕ) → slot_len_right n ≡ true → file_len_right n f ≡ true → Lengths n f
unfolding slot_len_right file_len_right
lengths_facts n f a b =
    let slot : Each (slot_tests n) = each (slot_tests n) a in
    let file : Each (file_tests n f) = each (file_tests n f) b in
    record {
      slot_whole = eqb-true _ _ slot.0;
      slot_least = leb-true _ _ slot.1.0;
      slot_most = leb-true _ _ slot.1.1.0;
      file_whole = eqb-true _ _ file.0;
      file_least = leb-true _ _ file.1.0;
      file_most = leb-true _ _ file.1.1.0;
    }

pub lengths_tests : (n f : ℕ) → Lengths n f → (slot_len_right n ≡ true) × (file_len_right n f ≡ true)
unfolding slot_len_right file_len_right
lengths_tests n f l = (
  every_of (slot_tests n) (eq-eqb _ _ l.slot_whole, (le-leb _ _ l.slot_least, (le-leb _ _ l.slot_most, tt))),
  every_of (file_tests n f) (eq-eqb _ _ l.file_whole, (le-leb _ _ l.file_least, (le-leb _ _ l.file_most, tt))),
)

abbrev order_test : Session → ℕ → Bool
order_test s n = eqb s.pages (pages_of n) || eqb s.taken 0

abbrev sound_tests : Session → ℕ → List Bool
sound_tests s n =
    leb s.pages (pages_of n)
    ∷ eqb s.phase 1
    ∷ eqb s.slot n
    ∷ slot_len_right n
    ∷ file_len_right n s.file
    ∷ order_test s n
    ∷ leb s.taken s.file
    ∷ counted s
    ∷ []

counted_facts : (s : Session) → counted s ≡ true → (s.operations ≡ s.pages + words_stored s.taken + 1) ⊎ ((s.operations ≡ 0) × (s.pages ≡ 0))
counted_facts s e =
    ⊎_elim (λ p. inl (eqb-true _ _ p)) (λ p. inr (eqb-true _ _ (and_left (untouched s) (eqb s.pages 0) p), eqb-true _ _ (and_right (untouched s) (eqb s.pages 0) p)))
    (or_cases (eqb s.operations (s.pages + words_stored s.taken + 1)) (untouched s && eqb s.pages 0) e)

counted_test : (s : Session) → (s.operations ≡ s.pages + words_stored s.taken + 1) ⊎ ((s.operations ≡ 0) × (s.pages ≡ 0)) → counted s ≡ true
counted_test s h =
    either (eqb s.operations (s.pages + words_stored s.taken + 1)) (untouched s && eqb s.pages 0)
    (⊎_elim (λ p. inl (eq-eqb _ _ p)) (λ p. inr (every_of (untouched s ∷ eqb s.pages 0 ∷ []) (eq-eqb _ _ p.0, (eq-eqb _ _ p.1, tt)))) h)

pub sound_facts : (s : Session) (n : ℕ) → sound s n ≡ true → Sound s n
unfolding sound
sound_facts s n e =
    let h : Each (sound_tests s n) = each (sound_tests s n) e in
    record {
      pages = leb-true _ _ h.0;
      phase = eqb-true _ _ h.1.0;
      slot = eqb-true _ _ h.1.1.0;
      lengths = lengths_facts n s.file h.1.1.1.0 h.1.1.1.1.0;
      order = ⊎_elim (λ p. inl (eqb-true _ _ p)) (λ p. inr (eqb-true _ _ p)) (or_cases (eqb s.pages (pages_of n)) (eqb s.taken 0) h.1.1.1.1.1.0);
      taken = leb-true _ _ h.1.1.1.1.1.1.0;
      operations = counted_facts s h.1.1.1.1.1.1.1.0;
    }

pub sound_test : (s : Session) (n : ℕ) → Sound s n → sound s n ≡ true
unfolding sound
sound_test s n f =
    let l = lengths_tests n s.file f.lengths in
    let order : order_test s n ≡ true =
    either (eqb s.pages (pages_of n)) (eqb s.taken 0) (⊎_elim (λ p. inl (eq-eqb _ _ p)) (λ p. inr (eq-eqb _ _ p)) f.order) in
    let last : Each (leb s.taken s.file ∷ counted s ∷ []) = (le-leb _ _ f.taken, (counted_test s f.operations, tt)) in
    every_of (sound_tests s n) (le-leb _ _ f.pages, (eq-eqb _ _ f.phase, (eq-eqb _ _ f.slot, (l.0, (l.1, (order, last))))))

-- where no operation was made no page is erased
pub counted_none : (s : Session) (n : ℕ) → Sound s n → s.operations ≡ 0 → s.pages ≡ 0
counted_none s n f h = ⊎_elim (λ p. absurd (omega (arith, p))) (λ p. p.1) f.operations

-- the count is small
pub counted_most : (s : Session) (n : ℕ) → Sound s n → s.operations ≤ 524800
counted_most s n f =
    ⊎_elim (λ p. omega (arith, p, f.pages, f.taken, f.lengths.file_most, f.lengths.slot_most)) (λ p. omega (arith, p.0)) f.operations

-- ---- the tests of `waiting`

abbrev waiting_tests : Session → ℕ → List Bool
waiting_tests s n =
    eqb s.phase 2
    ∷ eqb s.slot n
    ∷ slot_len_right n
    ∷ file_len_right n s.file
    ∷ eqb s.pages (pages_of n)
    ∷ eqb s.taken s.file
    ∷ eqb s.operations (pages_of n + s.file / 4 + 1)
    ∷ []

-- the record is that of an accepted session, and consistent with a slot of n bytes
pub record Waits (s : Session) (n : ℕ) : Type 0 where
  pub slot : s.slot ≡ n
  pub lengths : Lengths n s.file
  pub pages : s.pages ≡ pages_of n
  pub taken : s.taken ≡ s.file
  pub operations : s.operations ≡ pages_of n + s.file / 4 + 1

pub waiting_facts : (s : Session) (n : ℕ) → waiting s n ≡ true → Waits s n
unfolding waiting
waiting_facts s n e =
    let h : Each (waiting_tests s n) = each (waiting_tests s n) e in
    record {
      slot = eqb-true _ _ h.1.0;
      lengths = lengths_facts n s.file h.1.1.0 h.1.1.1.0;
      pages = eqb-true _ _ h.1.1.1.1.0;
      taken = eqb-true _ _ h.1.1.1.1.1.0;
      operations = eqb-true _ _ h.1.1.1.1.1.1.0;
    }

pub waiting_test : (s : Session) (n : ℕ) → s.phase ≡ 2 → s.slot ≡ n → Lengths n s.file → s.pages ≡ pages_of n → s.taken ≡ s.file
    → s.operations ≡ pages_of n + s.file / 4 + 1 → waiting s n ≡ true
unfolding waiting
waiting_test s n phase slot lengths pages taken operations =
    let l = lengths_tests n s.file lengths in
    every_of (waiting_tests s n)
    (eq-eqb _ _ phase, (eq-eqb _ _ slot, (l.0, (l.1, (eq-eqb _ _ pages, (eq-eqb _ _ taken, (eq-eqb _ _ operations, tt)))))))

pub not_waiting : (s : Session) (n k : ℕ) → s.phase ≡ k → eqb k 2 ≡ false → waiting s n ≡ false
unfolding waiting
not_waiting s n k e h = rw (e, h)

-- a session in another phase is not sound
pub not_sound : (s : Session) (n k : ℕ) → s.phase ≡ k → eqb k 1 ≡ false → sound s n ≡ false
unfolding sound
not_sound s n k e h = rw (e, h) (and-false (leb s.pages (pages_of n)))

-- ---- what a call's test says, which the code makes of the result r of `sound` and a test t of its own

pub passed : (s : Session) (n : ℕ) (r t : Bool) → r ≡ sound s n → (r && t) ≡ true → Sound s n × (t ≡ true) × ((sound s n && t) ≡ true)
passed s n r t e p =
    let q : (sound s n && t) ≡ true = rw (← e) p in
    (sound_facts s n (and_left (sound s n) t q), and_right (sound s n) t q, q)

pub barred : (s : Session) (n : ℕ) (r t : Bool) → r ≡ sound s n → (r && t) ≡ false → (sound s n && t) ≡ false
barred s n r t e p = rw (← e) p

-- all pages are erased and all bytes taken, by the result r of `full`
pub passed_full : (s : Session) (n : ℕ) (r : Bool) → r ≡ full s n → r ≡ true → Sound s n × (full s n ≡ true)
passed_full s n r e p =
    let q : full s n ≡ true = sym e ∙ p in
    (sound_facts s n (and_left (sound s n) (eqb s.pages (pages_of n) && eqb s.taken s.file) q), q)

pub barred_full : (s : Session) (n : ℕ) (r : Bool) → r ≡ full s n → r ≡ false → full s n ≡ false
barred_full s n r e p = sym e ∙ p
