-- Fill keeps to a phase: the bytes it takes go into the word in progress; a completed word is stored at its place, or kept if it is word 0.
-- Assumes nothing.
use mathlib.Core.Path.{◌≡◌, refl, sym, ap, ◌∙◌}
use mathlib.Core.List.{List, ◌++◌}
use mathlib.Core.Bool.{Bool, true, false}
use mathlib.Core.Logic.{inl}
use Prim.Native.Nat.{ℕ, ◌+◌, ◌%◌, ◌≤◌, ◌<◌}
use native.Mathlib.Omega.{arith}
use lib.Dec.{eqb, ltb}
use borrow.Author.Tests.{ltb-true, ltb-false, lt-ltb, le-ltb, eqb-true, eq-eqb, ne_eqb}
use lib.ListN.{length, take, drop, length-append}
use lib.Seq.{drop-length, take_all, take-append-le, drop-append-le, length-take-le, paste, take-paste, length-paste}
use Rattle.flash.specs.Flash.{starts_erased}
use Rattle.flash.proofs.Laws.{performed_word}
use Rattle.sessions.specs.Record.{pages_of, words_stored, with_bytes}
use Rattle.sessions.specs.Calls.{takes, word_at, in_first_word, filled, turn_of, slot_of}
use Rattle.sessions.specs.Run.{fill_call, Point, advance, fill_answer, adds, whole_words, holding}
use Rattle.sessions.specs.declared.Reply.TheVariants.{Took}
use Rattle.sessions.proofs.Slot.{holding_opening, holding_kept, holding_free, holding_stored}
use Rattle.sessions.proofs.Phases.{Filling, Phase, in_filling}
use Rattle.sessions.proofs.Allowed.{filling_length, fill_allowed}

-- a Fill that takes k bytes of a piece: the bytes given then, the word in the record, and the point
abbrev more : Point → List ℕ → ℕ → List ℕ
more p piece k = p.past.given ++ take k piece

abbrev word_of : Point → List ℕ → ℕ → List ℕ
word_of p piece k = paste p.now.session.held (p.now.session.taken % 4) piece k

abbrev filled_point : Point → List ℕ → ℕ → Point
filled_point p piece k =
    record {
      past = record { is_open = true; erases = p.past.erases; given = more p piece k; touched = p.past.touched; stored = p.past.stored; waiting = p.past.waiting; done = p.past.done };
      now = record { session = (turn_of (filled p.now.session k (word_of p piece k) p.now.slot)).session; slot = slot_of (filled p.now.session k (word_of p piece k) p.now.slot) p.now.slot };
    }

-- that point where the first word, the slot and the words stored are told
abbrev took_point : Point → List ℕ → ℕ → List ℕ → List ℕ → ℕ → Point
took_point p piece k first slot stored =
    record {
      past = record { is_open = true; erases = p.past.erases; given = more p piece k; touched = p.past.touched; stored = p.past.stored; waiting = p.past.waiting; done = p.past.done };
      now = record { session = with_bytes p.now.session k (word_of p piece k) first stored; slot = slot };
    }

-- the word in progress has its place in the slot, and that is erased
place_erased : (found : List ℕ) (f : ℕ) (p : Point) → Filling found f p → (k : ℕ) → 4 ≤ length p.past.given
    → length p.past.given % 4 + k ≡ 4 → length p.past.given + k ≤ f → starts_erased (drop (word_at p.now.session) p.now.slot) ≡ true
place_erased found f p e k q h in-file =
    rw (e.taken, e.slot) (holding_free p.past.given (length found) q (omega (arith, e.sound.lengths.file_most, e.file)))

-- k bytes are taken, no more than complete the word and than the piece and the file have
module _ (found : List ℕ) (f : ℕ) (p : Point) (e : Filling found f p) (piece : List ℕ) (k : ℕ)
    (in-word : length p.past.given % 4 + k ≤ 4) (in-piece : k ≤ length piece) (in-file : length p.past.given + k ≤ f) where
  length_given : length (more p piece k) ≡ length p.past.given + k
  length_given = length-append p.past.given (take k piece) ∙ ap (λ (m : ℕ). length p.past.given + m) (length-take-le k piece in-piece)

  word_length : length (word_of p piece k) ≡ 4
  word_length = length-paste p.now.session.held (p.now.session.taken % 4) piece k (omega (arith, e.held, e.taken)) in-piece ∙ e.held

  -- the word starts with the bytes given that no whole word before it has
  word_starts : take (p.now.session.taken % 4 + k) (word_of p piece k) ≡ drop (whole_words p.past.given) (more p piece k)
  word_starts =
      let old : take (p.now.session.taken % 4) p.now.session.held ≡ drop (whole_words p.past.given) p.past.given = rw e.taken e.word in
      take-paste p.now.session.held (p.now.session.taken % 4) piece k (omega (arith, e.held)) in-piece
      ∙ ap (λ (v : List ℕ). v ++ take k piece) old
      ∙ sym (drop-append-le (whole_words p.past.given) p.past.given (take k piece) (omega arith))

  -- a complete word is those bytes, and none is in progress
  word_complete : length p.past.given % 4 + k ≡ 4 → word_of p piece k ≡ drop (whole_words p.past.given) (more p piece k)
  word_complete h =
      let m : 4 ≡ p.now.session.taken % 4 + k = omega (arith, e.taken) in
      sym (take_all 4 (word_of p piece k) (omega (arith, word_length))) ∙ ap (λ (j : ℕ). take j (word_of p piece k)) m ∙ word_starts

  none_in_progress : length p.past.given % 4 + k ≡ 4 → take (length (more p piece k) % 4) (word_of p piece k) ≡ drop (whole_words (more p piece k)) (more p piece k)
  none_in_progress h =
      let z : length (more p piece k) % 4 ≡ 0 = omega (arith, length_given) in
      let l : whole_words (more p piece k) ≡ length (more p piece k) = omega arith in
      ap (λ (j : ℕ). take j (word_of p piece k)) z ∙ sym (ap (λ (j : ℕ). drop j (more p piece k)) l ∙ drop-length (more p piece k))

  in_first_word_lem : length p.past.given < 4 → in_first_word p.now.session ≡ true
  in_first_word_lem h = lt-ltb p.now.session.taken 4 (omega (arith, e.taken))

  past_first_word : 4 ≤ length p.past.given → in_first_word p.now.session ≡ false
  past_first_word h = le-ltb p.now.session.taken 4 (omega (arith, e.taken))

  first_kept : 4 ≤ length p.past.given → p.now.session.first ≡ take 4 (more p piece k)
  first_kept h = e.first h ∙ sym (take-append-le 4 p.past.given (take k piece) h)

  still_filling : (first slot : List ℕ) (stored : ℕ)
      → words_stored (length p.past.given + k) ≡ words_stored (length p.past.given) + stored
      → slot ≡ holding (more p piece k) (length found)
      → (4 ≤ length (more p piece k) → first ≡ take 4 (more p piece k))
      → take (length (more p piece k) % 4) (word_of p piece k) ≡ drop (whole_words (more p piece k)) (more p piece k)
      → Phase found f (took_point p piece k first slot stored)
  still_filling first slot stored counted held opened word = in_filling (record {
    is_open = refl;
    not_stored = record { stored = e.not_stored.stored; waiting = e.not_stored.waiting; done = e.not_stored.done };
    touched = e.touched;
    enough = e.enough;
    pages = e.pages;
    operations = rw (length_given, counted, e.operations) (omega arith);
    taken = ap (λ (j : ℕ). j + k) e.taken ∙ sym length_given;
    file = e.file;
    sound = record {
      pages = e.sound.pages;
      phase = e.sound.phase;
      slot = e.sound.slot;
      lengths = e.sound.lengths;
      order = inl e.pages;
      taken = omega (arith, e.taken, e.file);
      operations = inl (rw (e.taken, counted, e.operations, e.pages) (omega arith));
    };
    slot = held;
    first = opened;
    word = word;
    held = word_length;
  })

  fill_in_word : length p.past.given % 4 + k < 4 → Phase found f (filled_point p piece k)
  fill_in_word h =
      let b : whole_words (more p piece k) ≡ whole_words p.past.given = omega (arith, length_given) in
      let r : length (more p piece k) % 4 ≡ p.now.session.taken % 4 + k = omega (arith, length_given, e.taken) in
      rw (fill_allowed found f p e, ne_eqb (p.now.session.taken % 4 + k) 4 (λ q. omega (arith, e.taken)))
      (still_filling p.now.session.first p.now.slot 0
      (omega arith)
      (e.slot ∙ holding_kept p.past.given (take k piece) (length found) b)
      (λ q. first_kept (omega (arith, length_given)))
      (ap (λ (j : ℕ). take j (word_of p piece k)) r ∙ word_starts ∙ ap (λ (j : ℕ). drop j (more p piece k)) (sym b)))

  fill_first_word : length p.past.given % 4 + k ≡ 4 → length p.past.given < 4 → Phase found f (filled_point p piece k)
  fill_first_word h q =
      let z : whole_words p.past.given ≡ 0 = omega arith in
      rw (fill_allowed found f p e, eq-eqb (p.now.session.taken % 4 + k) 4 (omega (arith, e.taken)), in_first_word_lem q)
      (still_filling (word_of p piece k) p.now.slot 0
      (omega arith)
      (e.slot ∙ holding_opening p.past.given (take k piece) (length found) (omega arith) (omega (arith, length_given)))
      (λ j. word_complete h ∙ ap (λ (i : ℕ). drop i (more p piece k)) z ∙ sym (take_all 4 (more p piece k) (omega (arith, length_given))))
      (none_in_progress h))

  fill_later_word : length p.past.given % 4 + k ≡ 4 → 4 ≤ length p.past.given → Phase found f (filled_point p piece k)
  fill_later_word h q =
      rw (
        fill_allowed found f p e,
        eq-eqb (p.now.session.taken % 4 + k) 4 (omega (arith, e.taken)),
        past_first_word q,
        place_erased found f p e k q h in-file,
      )
      (still_filling p.now.session.first _ 1
      (omega arith)
      (performed_word (word_at p.now.session) (word_of p piece k) p.now.slot word_length (omega (arith, filling_length found f p e, e.taken, e.file, e.sound.lengths.file_most))
      ∙ rw (word_complete h, e.taken, e.slot, drop-append-le (whole_words p.past.given) p.past.given (take k piece) (omega arith))
      (holding_stored p.past.given (take k piece) (length found) q (omega (arith, length_given)) (omega (arith, e.sound.lengths.file_most, e.file))))
      (λ j. first_kept q)
      (none_in_progress h))

  fill_takes : Phase found f (filled_point p piece k)
  fill_takes = go (ltb (length p.past.given % 4 + k) 4) refl (ltb (length p.past.given) 4) refl
    where
      go : (a : Bool) → ltb (length p.past.given % 4 + k) 4 ≡ a → (b : Bool) → ltb (length p.past.given) 4 ≡ b → Phase found f (filled_point p piece k)
      go true h b i = fill_in_word (ltb-true (length p.past.given % 4 + k) 4 h)
      go false h true i = fill_first_word (omega (arith, ltb-false (length p.past.given % 4 + k) 4 h)) (ltb-true (length p.past.given) 4 i)
      go false h false i = fill_later_word (omega (arith, ltb-false (length p.past.given % 4 + k) 4 h)) (ltb-false (length p.past.given) 4 i)

module _ (found : List ℕ) (f : ℕ) where
  takes_same : (p : Point) → Filling found f p → (piece : List ℕ)
      → takes (length p.past.given) f (length piece) ≡ takes p.now.session.taken p.now.session.file (length piece)
  takes_same p e piece = rw (e.taken, e.file)

  pub fill_filling : (piece : List ℕ) (p : Point) → Filling found f p → Phase found f (advance (length found) f (fill_call piece) p)
  fill_filling piece p e =
      let k : ℕ = takes p.now.session.taken p.now.session.file (length piece) in
      let in-word : length p.past.given % 4 + k ≤ 4 = omega (arith, e.taken) in
      let in-piece : k ≤ length piece = omega arith in
      let in-file : length p.past.given + k ≤ f = omega (arith, e.taken, e.file, e.sound.taken) in
      rw (e.is_open, lt-ltb (pages_of (length found)) p.past.erases e.enough, takes_same p e piece) (fill_takes found f p e piece k in-word in-piece in-file)

  -- what it answers: by the rule, with none refused
  answers_took : (p : Point) → Filling found f p → (k : ℕ) (w : List ℕ) → length p.past.given + k ≤ f
      → (turn_of (filled p.now.session k w p.now.slot)).reply ≡ Took k
  answers_took p e k w in-file = go (eqb (p.now.session.taken % 4 + k) 4) refl (in_first_word p.now.session) refl
    where
      go : (a : Bool) → eqb (p.now.session.taken % 4 + k) 4 ≡ a → (b : Bool) → in_first_word p.now.session ≡ b → (turn_of (filled p.now.session k w p.now.slot)).reply ≡ Took k
      go false x b y = rw (fill_allowed found f p e, x) refl
      go true x true y = rw (fill_allowed found f p e, x, y) refl
      go true x false y =
          let full : p.now.session.taken % 4 + k ≡ 4 = eqb-true (p.now.session.taken % 4 + k) 4 x in
          let past : 4 ≤ p.now.session.taken = ltb-false _ _ y in
          rw (fill_allowed found f p e, x, y, place_erased found f p e k (omega (arith, e.taken)) (omega (arith, e.taken)) in-file)

  pub fill_answers : (piece : List ℕ) (p : Point) → Filling found f p → fill_answer piece p.now ≡ Took (adds f p.past piece)
  fill_answers piece p e =
      let k : ℕ = takes p.now.session.taken p.now.session.file (length piece) in
      answers_took p e k (word_of p piece k) (omega (arith, e.taken, e.file, e.sound.taken)) ∙ ap Took (sym (takes_same p e piece))
