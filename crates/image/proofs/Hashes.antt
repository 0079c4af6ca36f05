-- Laws of specs/Chunks.antt: where chunks start, what they hold, the tables of hashes, and S23, which passes exactly where the header's table is the table of the chunks' hashes.
-- Assumes nothing.
use mathlib.Core.Path.{◌≡◌, refl, sym, ap, ap₂, ◌∙◌}
use mathlib.Core.Logic.{⊎_elim}
use mathlib.Core.List.{List, [], ◌∷◌}
use mathlib.Core.Bool.{Bool, true, false, not}
use Prim.Native.Nat.{ℕ, zero, suc, ◌+◌, ◌-◌, ◌*◌, ◌≤◌, ◌<◌}
use native.Mathlib.Numerals.{add-one}
use native.Mathlib.Omega.{arith}
use lib.ListN.{length, get_or, take, set, replicate, length-append, get_or-append}
use lib.Seq.{take-suc-set, ext_get_or, get_or_at}
use borrow.Author.Tests.{not-false}
use Rattle.std.specs.Prelude.{Ok, Err}
use Rattle.octets.specs.Read.{between, bytes_at}
use Rattle.octets.proofs.Laws.{split, between_past, same_self, same_equal}
use Rattle.blake2s.specs.Rfc7693.{blake2s_of, serialised, bytes_of}
use Rattle.header.specs.Layout.{vendor_len, first_room}
use Rattle.header.specs.Table.{Row, row, first_failing}
use Rattle.header.specs.declared.Refusal.{Refusal}
use Rattle.header.specs.Outcome.{Outcome}
use Rattle.header.proofs.Rows.{pass_head, pass_tail, Numbered}
use Rattle.image.specs.Chunks.{room_of, chunk_start, chunk, hash_of, hashes_of, hashes_at, hash_table, code_of, wrong_hash, chunk_row, chunk_rows, hash_rows}

-- ---- where a chunk starts

pub room_first : (first k : ℕ) → k ≡ 0 → first ≡ room_of first k
room_first first zero e = refl
room_first first (suc k) e = absurd (omega arith)

pub room_later : (first k : ℕ) → (k ≡ 0 → ⊥) → 131072 ≡ room_of first k
room_later first zero e = absurd (e refl)
room_later first (suc k) e = refl

pub room_most : (first k : ℕ) → room_of first k ≤ first + 131072
room_most first zero = omega arith
room_most first (suc k) = omega arith

pub start_more : (first k : ℕ) → chunk_start first k + room_of first k ≡ chunk_start first (k + 1)
unfolding chunk_start
start_more first k = rw (add-one k)

-- behind the first chunk's room and k full ones
pub start_is : (first k : ℕ) → chunk_start first (suc k) ≡ first + 131072 * k
unfolding chunk_start
start_is first zero = omega arith
start_is first (suc k) = let h = start_is first k in omega arith

-- by how many of the first 131,072 bytes chunk 1 has no room for
pub start_at : (first h k : ℕ) → first + h ≡ 131072 → chunk_start first k ≡ 131072 * k - h
unfolding chunk_start
start_at first h zero room = omega arith
start_at first h (suc k) room = start_is first k ∙ omega arith

pub start_most : (first k : ℕ) → chunk_start first k ≤ first + 131072 * k
unfolding chunk_start
start_most first zero = omega arith
start_most first (suc k) = let e = start_is first k in omega arith

-- ---- what a chunk holds

pub chunk_is : (first k : ℕ) (code : List ℕ) → between (chunk_start first k) (chunk_start first (k + 1)) code ≡ chunk first k code
unfolding chunk
chunk_is first k code = rw (add-one k)

-- behind the code's end chunks hold nothing, and before it they hold something
pub chunk_empty : (first k : ℕ) (code : List ℕ) → length code ≤ chunk_start first k → chunk first k code ≡ []
unfolding chunk
chunk_empty first k code h = between_past (chunk_start first k) (chunk_start first (suc k)) code h

-- ---- hashes

pub hash_empty : {d : List ℕ} (digest : List ℕ → List ℕ) (bytes : List ℕ) → length bytes ≡ 0 → d ≡ replicate 32 0 → d ≡ hash_of digest bytes
unfolding hash_of
hash_empty digest [] e h = h
hash_empty digest (x ∷ bytes) e h = absurd (omega arith)

pub hash_used : {d : List ℕ} (digest : List ℕ → List ℕ) (bytes : List ℕ) → (length bytes ≡ 0 → ⊥) → d ≡ digest bytes → d ≡ hash_of digest bytes
unfolding hash_of
hash_used digest [] e h = absurd (e refl)
hash_used digest (x ∷ bytes) e h = h

pub digest_length : (bytes : List ℕ) → length (blake2s_of bytes) ≡ 32
unfolding blake2s_of serialised bytes_of
digest_length bytes = refl

pub hash_length : (bytes : List ℕ) → length (hash_of blake2s_of bytes) ≡ 32
unfolding hash_of
hash_length [] = refl
hash_length (x ∷ bytes) = digest_length (x ∷ bytes)

-- a table of hashes that is filled up to k gets its hash k
pub hash_at_more : {x : List ℕ} (t : List (List ℕ)) (b : List ℕ) (at k : ℕ) → k < length t → take k t ≡ hashes_at k b at → x ≡ bytes_at 32 b (at + 32 * k)
    → take (k + 1) (set t k x) ≡ hashes_at (k + 1) b at
unfolding hashes_at
hash_at_more t b at k h e f = rw (add-one, take-suc-set t k _ h, e, f)

pub hash_of_more : (digest : List ℕ → List ℕ) {x : List ℕ} (t : List (List ℕ)) (first : ℕ) (code : List ℕ) (k : ℕ) → k < length t → take k t ≡ hashes_of digest k first code → x ≡ hash_of digest (chunk first k code)
    → take (k + 1) (set t k x) ≡ hashes_of digest (k + 1) first code
unfolding hashes_of
hash_of_more digest t first code k h e f = rw (add-one, take-suc-set t k _ h, e, f)

-- the tables have n hashes
pub hashes_at_length : (n : ℕ) (b : List ℕ) (at : ℕ) → length (hashes_at n b at) ≡ n
unfolding hashes_at
hashes_at_length zero b at = refl
hashes_at_length (suc n) b at = rw (length-append, hashes_at_length n b at) (omega arith)

pub hashes_of_length : (digest : List ℕ → List ℕ) (n first : ℕ) (code : List ℕ) → length (hashes_of digest n first code) ≡ n
unfolding hashes_of
hashes_of_length digest zero first code = refl
hashes_of_length digest (suc n) first code = rw (length-append, hashes_of_length digest n first code) (omega arith)

-- hash k of each
pub hash_at : (n : ℕ) (b : List ℕ) (at k : ℕ) → k < n → get_or (hashes_at n b at) k [] ≡ bytes_at 32 b (at + 32 * k)
unfolding hashes_at
hash_at zero b at k h = absurd (omega arith)
hash_at (suc n) b at k h =
    let l = hashes_at_length n b at in
    ⊎_elim
    (λ (g : k < n). get_or-append (hashes_at n b at) _ [] k (omega arith) ∙ hash_at n b at k g)
    (λ (g : n ≤ k).
    let e : k ≡ n = omega arith in
    rw e (get_or_at (hashes_at n b at) (bytes_at 32 b (at + 32 * n)) [] [] n l))
    (split k n)

pub hash_of_lem : (digest : List ℕ → List ℕ) (n first : ℕ) (code : List ℕ) (k : ℕ) → k < n → get_or (hashes_of digest n first code) k [] ≡ hash_of digest (chunk first k code)
unfolding hashes_of
hash_of_lem digest zero first code k h = absurd (omega arith)
hash_of_lem digest (suc n) first code k h =
    let l = hashes_of_length digest n first code in
    ⊎_elim
    (λ (g : k < n). get_or-append (hashes_of digest n first code) _ [] k (omega arith) ∙ hash_of_lem digest n first code k g)
    (λ (g : n ≤ k).
    let e : k ≡ n = omega arith in
    rw e (get_or_at (hashes_of digest n first code) (hash_of digest (chunk first n code)) [] [] n l))
    (split k n)

-- the header's table has sixteen, of 32 bytes each
pub table_length : (b : List ℕ) → length (hash_table b) ≡ 16
unfolding hash_table
table_length b = hashes_at_length 16 b (vendor_len b + 32)

-- ---- S23, one chunk at a time

pub wrong_unused : (bytes : List ℕ) (k : ℕ) → length bytes ≡ 0 → record { number = 15; part = 3; chunk = k } ≡ wrong_hash bytes k
wrong_unused [] k e = refl
wrong_unused (x ∷ bytes) k e = absurd (omega arith)

pub wrong_used : (bytes : List ℕ) (k : ℕ) → (length bytes ≡ 0 → ⊥) → record { number = 14; part = 3; chunk = k } ≡ wrong_hash bytes k
wrong_used [] k e = absurd (e refl)
wrong_used (x ∷ bytes) k e = refl

-- a row by itself, of a test that says whether the hash is right
pub row_failed : {t : Bool} {r s : Refusal} → t ≡ false → r ≡ s → Err r ≡ first_failing (row (not t) s ∷ [])
unfolding first_failing
row_failed e f = rw e (ap Err f)

pub row_passed : {t : Bool} (s : Refusal) → t ≡ true → Ok tt ≡ first_failing (row (not t) s ∷ [])
unfolding first_failing
row_passed s e = rw e

-- a row by itself, and before others
row_passes : (r : Row) (rows : List Row) → first_failing (r ∷ []) ≡ Ok tt → first_failing (r ∷ rows) ≡ first_failing rows
unfolding first_failing
row_passes (row true r) rows h = cc
row_passes (row false r) rows h = refl

row_fails : {f : Refusal} (r : Row) (rows : List Row) → first_failing (r ∷ []) ≡ Err f → first_failing (r ∷ rows) ≡ Err f
unfolding first_failing
row_fails (row true r) rows h = h
row_fails (row false r) rows h = cc

-- before chunk k + 1: from is where it starts in the code, and the answer is that of the chunks from it on
pub record Reached (digest : List ℕ → List ℕ) (first : ℕ) (code : List ℕ) (table : List (List ℕ)) (from k : ℕ) : Type 0 where
  pub count : k ≤ 16
  pub start : from ≡ chunk_start first k
  pub answer : first_failing (chunk_rows digest first code table 0 16) ≡ first_failing (chunk_rows digest first code table k (16 - k))

pub reached_first : (digest : List ℕ → List ℕ) (first : ℕ) (code : List ℕ) (table : List (List ℕ)) → Reached digest first code table 0 0
unfolding chunk_start
reached_first digest first code table = record { count = omega arith; start = refl; answer = refl }

module _ {digest : List ℕ → List ℕ} {first : ℕ} {code : List ℕ} {table : List (List ℕ)} {from k : ℕ} (w : Reached digest first code table from k) where
  -- where the next chunk starts is no large number
  pub next_small : {room : ℕ} → room ≡ room_of first k → from + room ≤ 2 * first + 131072 * 17
  next_small e = let f = w.start in let c = w.count in let r = room_most first k in let s = start_most first k in omega arith

  -- all sixteen are right
  pub reached_end : 16 ≤ k → Ok tt ≡ first_failing (chunk_rows digest first code table 0 16)
  unfolding chunk_rows first_failing
  reached_end h =
      let e : 16 - k ≡ 0 = omega arith in
      sym (w.answer ∙ ap (λ (n : ℕ). first_failing (chunk_rows digest first code table k n)) e)

  -- room is the chunk's room, p its bytes, o what its row answers
  module _ (below : k < 16) {o : Outcome} {p : List ℕ} {room : ℕ} (er : room ≡ room_of first k) (ep : p ≡ between from (from + room) code)
      (eo : o ≡ first_failing (chunk_row digest (k + 1) p (get_or table k []) ∷ [])) where
    next_start : from + room ≡ chunk_start first (k + 1)
    next_start = ap₂ (λ (x y : ℕ). x + y) w.start er ∙ start_more first k

    abbrev row_here : Row
    row_here = chunk_row digest (suc k) (chunk first k code) (get_or table k [])

    row_is : o ≡ first_failing (row_here ∷ [])
    row_is =
        eo
        ∙ rw (add-one k)
        (ap
        (λ (l : List ℕ). first_failing (chunk_row digest (suc k) l (get_or table k []) ∷ []))
        (ep ∙ ap₂ (λ (x y : ℕ). between x y code) w.start next_start ∙ chunk_is first k code))

    one_left : first_failing (chunk_rows digest first code table 0 16) ≡ first_failing (row_here ∷ chunk_rows digest first code table (suc k) (16 - (k + 1)))
    unfolding chunk_rows
    one_left =
        let e : 16 - k ≡ suc (16 - (k + 1)) = omega arith in
        w.answer ∙ ap (λ (n : ℕ). first_failing (chunk_rows digest first code table k n)) e

    pub reached_next : o ≡ Ok tt → Reached digest first code table (from + room) (k + 1)
    reached_next h =
        record {
          count = omega arith;
          start = next_start;
          answer = one_left ∙ rw (add-one k) (row_passes row_here _ (sym row_is ∙ h));
        }

    pub reached_wrong : {r : Refusal} → o ≡ Err r → Err r ≡ first_failing (chunk_rows digest first code table 0 16)
    reached_wrong h = sym (one_left ∙ row_fails row_here _ (sym row_is ∙ h))

-- ---- S23 passes exactly where each hash is right

module _ (digest : List ℕ → List ℕ) (first : ℕ) (code : List ℕ) (table : List (List ℕ)) where
  -- the hash of chunk k + 1 is right
  abbrev pub RightHash : ℕ → Type 0
  RightHash k = hash_of digest (chunk first k code) ≡ get_or table k []

  pub chunk_rows_pass : (k n : ℕ) → ((i : ℕ) → k ≤ i → i < k + n → RightHash i) → first_failing (chunk_rows digest first code table k n) ≡ Ok tt
  unfolding chunk_rows chunk_row first_failing
  chunk_rows_pass k zero h = refl
  chunk_rows_pass k (suc n) h =
      rw (h k (omega arith) (omega arith), same_self) (chunk_rows_pass (suc k) n (λ i g l. h i (omega arith) (omega arith)))

  pub chunk_rows_right : (k n : ℕ) → first_failing (chunk_rows digest first code table k n) ≡ Ok tt → (i : ℕ) → k ≤ i → i < k + n → RightHash i
  unfolding chunk_rows chunk_row
  chunk_rows_right k zero h i g l = absurd (omega arith)
  chunk_rows_right k (suc n) h i g l =
      ⊎_elim
      (λ (e : k < i). chunk_rows_right (suc k) n (pass_tail _ _ _ h) i (omega arith) (omega arith))
      (λ (e : i ≤ k). let q : i ≡ k = omega arith in rw q (same_equal _ _ (not-false _ (pass_head _ _ _ h))))
      (split k i)

-- of an image
pub hashes_pass : (b : List ℕ) → hash_table b ≡ hashes_of blake2s_of 16 (first_room (vendor_len b)) (code_of b) → first_failing (hash_rows b) ≡ Ok tt
unfolding hash_rows
hashes_pass b e = chunk_rows_pass _ _ _ _ 0 16 (λ i g l. sym (rw e (hash_of_lem blake2s_of 16 (first_room (vendor_len b)) (code_of b) i (omega arith))))

pub hashes_right : (b : List ℕ) → first_failing (hash_rows b) ≡ Ok tt → hash_table b ≡ hashes_of blake2s_of 16 (first_room (vendor_len b)) (code_of b)
unfolding hash_rows
hashes_right b h =
    let l = table_length b in
    let m = hashes_of_length blake2s_of 16 (first_room (vendor_len b)) (code_of b) in
    ext_get_or
    []
    (hash_table b)
    (hashes_of blake2s_of 16 (first_room (vendor_len b)) (code_of b))
    (l ∙ sym m)
    (λ i g. sym (chunk_rows_right _ _ _ _ 0 16 h i (omega arith) (omega arith)) ∙ sym (hash_of_lem blake2s_of 16 (first_room (vendor_len b)) (code_of b) i (omega arith)))

-- ---- refusals of S23 have a number

hash_numbered : (bytes : List ℕ) (k : ℕ) → 1 ≤ (wrong_hash bytes k).number
hash_numbered [] k = omega arith
hash_numbered (x ∷ bytes) k = omega arith

pub chunks_numbered : (digest : List ℕ → List ℕ) (first : ℕ) (code : List ℕ) (table : List (List ℕ)) (k n : ℕ) → Numbered (chunk_rows digest first code table k n)
unfolding chunk_rows chunk_row
chunks_numbered digest first code table k zero = omega arith
chunks_numbered digest first code table k (suc n) = (hash_numbered (chunk first k code) (suc k), chunks_numbered digest first code table (suc k) n)
