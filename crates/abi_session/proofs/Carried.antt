-- The words carry the record: a record whose numbers are below 2 ^ 32 and whose two words are four bytes each is read back from its words,
-- and every record that a call gives is such a one. Assumes nothing.
use mathlib.Core.Path.{◌≡◌, refl, ◌∙◌}
use mathlib.Core.List.{List, [], ◌∷◌, ◌++◌}
use mathlib.Core.Bool.{Bool, true, false, ◌&&◌}
use Prim.Native.Nat.{ℕ, zero, suc, ◌+◌, ◌-◌, ◌%◌, ◌≤◌, ◌<◌}
use native.Mathlib.Omega.{arith}
use native.Mathlib.Nat.{mod-eq_of_lt}
use lib.Dec.{eqb, leb}
use lib.ListN.{length, get_or, take, drop, replicate}
use lib.Seq.{get_or-drop, paste, length-paste}
use borrow.Author.Tests.{leb-true}
use Rattle.octets.specs.Read.{u32_at, starts_with}
use Rattle.octets.specs.Rounding.{multiple_of}
use Rattle.octets.specs.Put.{le32}
use Rattle.octets.proofs.Laws.{and_right}
use Rattle.octets.proofs.Numbers.{word_back}
use Rattle.flash.specs.Flash.{starts_erased}
use Rattle.image.specs.Check.{check_file}
use Rattle.std.specs.Prelude.{Ok, Err}
use Rattle.image.specs.Answer.{Answer}
use Rattle.sessions.specs.Record.{untouched, with_zero, over, live, accepted, slot_len_right, file_len_right, pages_of, sound, erasing, filling, full, waiting, new_record, with_page, with_bytes, with_phase}
use Rattle.sessions.specs.Calls.{begin_of, erase_plan, taken_by, joined, word_at, in_first_word, filled, file_in, close_by, confirm_of, turn_of}
use Rattle.sessions.specs.declared.Session.{Session}
use Rattle.sessions.specs.declared.Plan.{Plan}
use Rattle.sessions.proofs.Facts.{passed, passed_full, waiting_facts, counted_most}
use Rattle.abi_session.specs.Record.{session_of, words_over, words_of}
use Rattle.abi_session.specs.Carried.{CarriesTurn, CarriesPlan, WordsCarryTheRecord}

-- ---- words of four bytes

-- every byte is below 256
abbrev Bytes : List ℕ → Type 0
Bytes x = (i : ℕ) → get_or x i 0 < 256

-- four bytes
record Word (x : List ℕ) : Type 0 where
  pub four : length x ≡ 4
  pub bytes : Bytes x

-- each byte of a number is below 256
number_bytes : (x : ℕ) → Bytes (le32 x)
number_bytes x zero = omega arith
number_bytes x (suc zero) = omega arith
number_bytes x (suc (suc zero)) = omega arith
number_bytes x (suc (suc (suc zero))) = omega arith
number_bytes x (suc (suc (suc (suc i)))) = omega arith

-- the bytes of a number are a word
number_word : (x : ℕ) → Word (le32 x)
number_word x = record { four = refl; bytes = number_bytes x }

-- bytes behind bytes are bytes
append_bytes : (x y : List ℕ) → Bytes x → Bytes y → Bytes (x ++ y)
append_bytes [] y f g i = g i
append_bytes (a ∷ x) y f g zero = f zero
append_bytes (a ∷ x) y f g (suc i) = append_bytes x y (λ j. f (suc j)) g i

-- the first of some bytes are bytes
take_bytes : (n : ℕ) (x : List ℕ) → Bytes x → Bytes (take n x)
take_bytes zero x f i = omega arith
take_bytes (suc n) [] f i = omega arith
take_bytes (suc n) (a ∷ x) f zero = f zero
take_bytes (suc n) (a ∷ x) f (suc i) = take_bytes n x (λ j. f (suc j)) i

-- the last of some bytes are bytes
drop_bytes : (n : ℕ) (x : List ℕ) → Bytes x → Bytes (drop n x)
drop_bytes n x f i = rw (get_or-drop n x i 0) (f (n + i))

-- a word with bytes of a piece in it is a word
paste_word : (x : List ℕ) (at : ℕ) (piece : List ℕ) (k : ℕ) → Word x → Bytes piece → at + k ≤ 4 → k ≤ length piece → Word (paste x at piece k)
paste_word x at piece k w f h g =
    record {
      four = length-paste x at piece k (omega (arith, w.four)) g ∙ w.four;
      bytes =
          append_bytes (take at x ++ take k piece) (drop (at + k) x)
          (append_bytes (take at x) (take k piece) (take_bytes at x w.bytes) (take_bytes k piece f))
          (drop_bytes (at + k) x w.bytes);
    }

-- ---- a record is read back from its words

-- a word is the bytes of its number
word_kept : (x : List ℕ) → Word x → le32 (u32_at x 0) ≡ x
word_kept x w = word_back x w.four (w.bytes 0) (w.bytes 1) (w.bytes 2) (w.bytes 3)

-- each number of a record is below 2 ^ 32
record Fits (t : Session) : Type 0 where
  pub slot : t.slot < 4294967296
  pub file : t.file < 4294967296
  pub pages : t.pages < 4294967296
  pub taken : t.taken < 4294967296
  pub operations : t.operations < 4294967296

-- a record that fits is read back, whatever the words were before
read_back : (old : List ℕ) (t : Session) → Fits t → Word t.first → Word t.held → session_of (words_over old t) ≡ t
unfolding session_of words_over
read_back old t h first held =
    rw (
      mod-eq_of_lt h.slot,
      mod-eq_of_lt h.file,
      mod-eq_of_lt h.pages,
      mod-eq_of_lt h.taken,
      mod-eq_of_lt h.operations,
      word_kept t.first first,
      word_kept t.held held,
    )

-- ---- begin

-- a new record is read back
new_back : (phase n f : ℕ) → n ≤ 2097152 → f ≤ n → session_of (words_of (new_record phase n f)) ≡ new_record phase n f
new_back phase n f h g = read_back (replicate 16 0) (new_record phase n f) (omega arith) (number_word 0) (number_word 0)

-- a slot's length that begin takes is at most 2,097,152
slot_most : (n : ℕ) → slot_len_right n ≡ true → n ≤ 2097152
unfolding slot_len_right
slot_most n e = leb-true n 2097152 (and_right (leb 4096 n) (leb n 2097152) (and_right (multiple_of 4096 n) (leb 4096 n && leb n 2097152) e))

-- a file's length that begin takes is at most the slot's
file_most : (n f : ℕ) → file_len_right n f ≡ true → f ≤ n
unfolding file_len_right
file_most n f e = leb-true f n (and_right (leb 1540 f) (leb f n) (and_right (multiple_of 4 f) (leb 1540 f && leb f n) e))

-- the words that begin leaves hold the record that it gave
begin_carried : (n f : ℕ) → session_of (words_of (begin_of n f).session) ≡ (begin_of n f).session
unfolding begin_of
begin_carried n f = go (slot_len_right n) refl (file_len_right n f) refl
  where
    go : (a : Bool) → slot_len_right n ≡ a → (b : Bool) → file_len_right n f ≡ b → session_of (words_of (begin_of n f).session) ≡ (begin_of n f).session
    go true p true q = rw (p, q) (new_back live n f (slot_most n p) (file_most n f q))
    go true p false q = rw (p, q) (new_back over 0 0 (omega arith) (omega arith))
    go false p b q = rw p (new_back over 0 0 (omega arith) (omega arith))

-- ---- the other calls, on the record that words hold: those that hand the operation back, and those that make it

-- the first word of a record that words hold is a word
first_word : (w : List ℕ) → Word (session_of w).first
unfolding session_of
first_word w = number_word (get_or w 6 0)

-- and so is its word in progress
held_word : (w : List ℕ) → Word (session_of w).held
unfolding session_of
held_word w = number_word (get_or w 7 0)

-- with bytes of a piece in it too
joined_word : (w piece : List ℕ) → Bytes piece → Word (joined (session_of w) piece)
joined_word w piece f =
    let s : Session = session_of w in
    paste_word s.held (s.taken % 4) piece (taken_by s piece) (held_word w) f (omega arith) (omega arith)

-- both forms of a call, by what it plans
abbrev Carries : List ℕ → Plan → Type 0
Carries w p = CarriesPlan w p × CarriesTurn w (turn_of p)

module _ (w slot : List ℕ) where
  abbrev s : Session
  s = session_of w

  abbrev n : ℕ
  n = length slot

  erase_carried : Carries w (erase_plan s slot)
  erase_carried = go (erasing s n) refl (untouched s) refl
    where
      go : (a : Bool) → erasing s n ≡ a → (b : Bool) → untouched s ≡ b → Carries w (erase_plan s slot)
      go true p true q =
          let f = passed s n (sound s n) (leb (s.pages + 1) (pages_of n)) refl p in
          let back = read_back w (with_zero s) (omega (arith, f.0, counted_most s n f.0)) (first_word w) (held_word w) in
          (rw (p, q) back, rw (p, q) back)
      go true p false q =
          let f = passed s n (sound s n) (leb (s.pages + 1) (pages_of n)) refl p in
          let more : s.pages + 1 ≤ pages_of n = leb-true (s.pages + 1) (pages_of n) f.1 in
          let back = read_back w (with_page s) (omega (arith, f.0, counted_most s n f.0)) (first_word w) (held_word w) in
          (rw (p, q) back, rw (p, q) back)
      go false p b q = (rw p, rw p)

  -- a record with k bytes more, no more than the file has, is read back
  bytes_back : (k : ℕ) (held first : List ℕ) (stored : ℕ) → filling s n ≡ true → k ≤ s.file - s.taken → stored ≤ 1 → Word held → Word first
      → session_of (words_over w (with_bytes s k held first stored)) ≡ with_bytes s k held first stored
  bytes_back k held first stored p h o x y =
      let f = passed s n (sound s n) (eqb s.pages (pages_of n)) refl p in
      read_back w (with_bytes s k held first stored) (omega (arith, f.0, counted_most s n f.0)) y x

  -- where it takes k bytes, which make the word x
  fill_carried : (k : ℕ) (x : List ℕ) → k ≤ s.file - s.taken → Word x → Carries w (filled s k x slot)
  fill_carried k x h v =
      go (filling s n) refl (eqb (s.taken % 4 + k) 4) refl (in_first_word s) refl (starts_erased (drop (word_at s) slot)) refl
    where
      go : (a : Bool) → filling s n ≡ a → (b : Bool) → eqb (s.taken % 4 + k) 4 ≡ b → (c : Bool) → in_first_word s ≡ c
          → (d : Bool) → starts_erased (drop (word_at s) slot) ≡ d → Carries w (filled s k x slot)
      go false p b q c r d e = (rw p, rw p)
      go true p false q c r d e =
          let back = bytes_back k x s.first 0 p h (omega arith) v (first_word w) in
          (rw (p, q) back, rw (p, q) back)
      go true p true q true r d e =
          let back = bytes_back k x x 0 p h (omega arith) v v in
          (rw (p, q, r) back, rw (p, q, r) back)
      go true p true q false r true e =
          let back = bytes_back k x s.first 1 p h (omega arith) v (first_word w) in
          (rw (p, q, r, e) back, rw (p, q, r, e) back)
      go true p true q false r false e = (rw (p, q, r, e), rw (p, q, r, e))

  -- a session in another phase, after at most one operation more, is read back
  phase_back : (phase operations : ℕ) → full s n ≡ true → operations ≤ s.operations + 1 → session_of (words_over w (with_phase s phase operations)) ≡ with_phase s phase operations
  phase_back phase operations p h =
      let f = passed_full s n (full s n) refl p in
      read_back w (with_phase s phase operations) (omega (arith, f.0, counted_most s n f.0)) (first_word w) (held_word w)

  -- whatever the check answers
  close_carried : (answer : Answer) → Carries w (close_by s answer slot)
  close_carried answer = go answer (full s n) refl (starts_erased slot) refl
    where
      go : (answer : Answer) (a : Bool) → full s n ≡ a → (b : Bool) → starts_erased slot ≡ b → Carries w (close_by s answer slot)
      go (Ok i) true p true q =
          (rw (p, q) (phase_back accepted (s.operations + 1) p (omega arith)), rw (p, q) (phase_back over (s.operations + 1) p (omega arith)))
      go (Err r) true p true q =
          let back = phase_back over s.operations p (omega arith) in
          (rw (p, q) back, rw (p, q) back)
      go answer true p false q = (rw (p, q), rw (p, q))
      go answer false p b q = (rw p, rw p)

  -- an accepted session that is over is read back
  confirmed_back : waiting s n ≡ true → session_of (words_over w (with_phase s over s.operations)) ≡ with_phase s over s.operations
  confirmed_back p =
      let f = waiting_facts s n p in
      read_back w (with_phase s over s.operations) (omega (arith, f, f.lengths)) (first_word w) (held_word w)

  confirm_carried : CarriesTurn w (confirm_of s slot)
  confirm_carried = go (waiting s n) refl (starts_with s.first slot) refl
    where
      go : (a : Bool) → waiting s n ≡ a → (b : Bool) → starts_with s.first slot ≡ b → CarriesTurn w (confirm_of s slot)
      go true p true q = rw (p, q) (confirmed_back p)
      go true p false q = rw (p, q)
      go false p b q = rw p

-- ---- all of them

pub words_carry_the_record : WordsCarryTheRecord
unfolding session_of
words_carry_the_record =
    record {
      phase = λ w. refl;
      slot = λ w. refl;
      file = λ w. refl;
      pages = λ w. refl;
      taken = λ w. refl;
      operations = λ w. refl;
      begun = begin_carried;
      erased = λ w slot. (erase_carried w slot).1;
      filled = λ w piece slot f. (fill_carried w slot (taken_by (session_of w) piece) (joined (session_of w) piece) (omega arith) (joined_word w piece f)).1;
      closed = λ w slot given. (close_carried w slot (check_file (file_in (session_of w) slot) given)).1;
      erase_planned = λ w slot. (erase_carried w slot).0;
      fill_planned = λ w piece slot f. (fill_carried w slot (taken_by (session_of w) piece) (joined (session_of w) piece) (omega arith) (joined_word w piece f)).0;
      close_planned = λ w slot given. (close_carried w slot (check_file (file_in (session_of w) slot) given)).0;
      confirmed = confirm_carried;
    }
