-- Lists that agree on what the steps read get the same answer, S21 to S23 included: the hashes and the code are parts of what is read.
-- The first word given apart, the erased bytes behind a file and the signatures are such agreements.
-- Assumes nothing.
use Prim.Native.Nat.{ℕ, zero, suc, ◌+◌, ◌*◌, ◌≤◌, ◌<◌}
use mathlib.Core.Path.{◌≡◌, refl, sym, ap, ap₂, ◌∙◌}
use mathlib.Core.List.{List, [], ◌∷◌, ◌++◌}
use mathlib.Core.Bool.{Bool, true, not}
use native.Mathlib.Omega.{arith}
use lib.ListN.{length, get_or, drop}
use lib.Dec.{ltb}
use borrow.Author.Tests.{le-leb}
use Rattle.std.specs.Prelude.{Ok, Err}
use Rattle.octets.specs.Read.{between, starts_with}
use Rattle.header.specs.Layout.{TRZV, vendor_len, code_start, image_len}
use Rattle.header.specs.Steps.{bytes_follow}
use Rattle.header.specs.Table.{first_failing, header_rows, extent_rows, extent_rows_at}
use Rattle.header.specs.Alike.{Alike, ReadByHeaders}
use Rattle.header.specs.declared.Inputs.{Inputs}
use Rattle.header.specs.Outcome.{Outcome}
use Rattle.header.proofs.Rows.{same_row, same_stage, stage_first}
use Rattle.header.proofs.Facts.{headers_pass, vendor_shaped}
use Rattle.header.proofs.Alike.{between_alike, bytes_alike, vendor_len_alike, code_len_alike, image_len_alike, code_cut_alike}
use Rattle.header.proofs.WordApart.{after_word, any_end, word_length, word_alike, read_after_word, word_magic, word_headers}
use Rattle.image.specs.Chunks.{hashes_at, hash_table, code_of, hash_rows}
use Rattle.image.specs.Answer.{version_at, image_of, answer_of}
use Rattle.image.specs.Check.{check_rows, check_file}
use Rattle.image.specs.declared.Image.{Image}
use Rattle.image.specs.Answer.{Answer}

-- ---- S21 to S23, and what an acceptance tells

module _ {R N : ℕ → Bool} {b c : List ℕ} (w : Alike R N b c) where
  pub hashes_at_alike : (n at : ℕ) → ((i : ℕ) → at ≤ i → i < at + 32 * n → R i ≡ true) → hashes_at n b at ≡ hashes_at n c at
  unfolding hashes_at
  hashes_at_alike zero at h = refl
  hashes_at_alike (suc n) at h =
      ap₂
      (λ (x : List (List ℕ)) (y : List ℕ). x ++ (y ∷ []))
      (hashes_at_alike n at (λ i g k. h i g (omega arith)))
      (bytes_alike w 32 (at + 32 * n) (λ i g k. h i (omega arith) (omega arith)))

-- R holds what the headers' steps read, the hashes and the code, which S23 reads, and the versions, which are told. N also has the image's length
pub record ReadByCheck (R N : ℕ → Bool) (c : List ℕ) : Type 0 where
  pub headers : ReadByHeaders R N c
  pub versions : 512 ≤ vendor_len c → (i : ℕ) → vendor_len c + 16 ≤ i → i < vendor_len c + 24 → R i ≡ true
  pub hashes : 512 ≤ vendor_len c → (i : ℕ) → vendor_len c + 32 ≤ i → i < vendor_len c + 544 → R i ≡ true
  pub code : 512 ≤ vendor_len c → (i : ℕ) → code_start c ≤ i → i < image_len c → R i ≡ true
  pub end : N (image_len c) ≡ true

module _ {R N : ℕ → Bool} {b c : List ℕ} (w : Alike R N b c) (read : ReadByCheck R N c) (least : 512 ≤ vendor_len c) where
  pub hash_table_alike : hash_table b ≡ hash_table c
  unfolding hash_table
  hash_table_alike =
      ap (λ (v : ℕ). hashes_at 16 b (v + 32)) (vendor_len_alike w read.headers)
      ∙ hashes_at_alike w 16 (vendor_len c + 32) (λ i g h. read.hashes least i g (omega arith))

  version_alike : (k : ℕ) → 16 ≤ k → k + 4 ≤ 24 → version_at b (vendor_len b + k) ≡ version_at c (vendor_len c + k)
  version_alike k l m =
      let p = vendor_len c + k in
      ap (λ (v : ℕ). version_at b (v + k)) (vendor_len_alike w read.headers)
      ∙ cc (near p (omega arith) (omega arith), near (p + 1) (omega arith) (omega arith), near (p + 2) (omega arith) (omega arith), near (p + 3) (omega arith) (omega arith))
    where
      near : (i : ℕ) → vendor_len c + 16 ≤ i → i < vendor_len c + 24 → get_or b i 0 ≡ get_or c i 0
      near i g h = w.at i (read.versions least i g h)

  pub image_of_alike : image_of b ≡ image_of c
  unfolding image_of
  image_of_alike =
      cc (vendor_len_alike w read.headers, code_len_alike w read.headers least, version_alike 16 (omega arith) (omega arith), version_alike 20 (omega arith) (omega arith))

  -- S21 and S22, where S22 is answered the same
  pub extent_rows_alike : (x y : Bool) → x ≡ y → first_failing (extent_rows x b) ≡ first_failing (extent_rows y c)
  unfolding extent_rows_at
  extent_rows_alike x y e = same_row _ _ _ (code_cut_alike w read.headers least read.end) (λ h21. same_row _ _ _ e (λ h22. refl))

  pub code_alike : code_of b ≡ code_of c
  code_alike =
      ap₂ (λ (v e : ℕ). between (v + 1024) e b) (vendor_len_alike w read.headers) (image_len_alike w read.headers least)
      ∙ between_alike w (code_start c) (image_len c) read.end (read.code least)

  pub hash_rows_alike : first_failing (hash_rows b) ≡ first_failing (hash_rows c)
  unfolding hash_rows
  hash_rows_alike = cc (vendor_len_alike w read.headers, code_alike, hash_table_alike)

  -- S21 to S23, where S22 is answered the same
  pub later_rows_alike : (x y : Bool) → x ≡ y → first_failing (extent_rows x b ++ hash_rows b) ≡ first_failing (extent_rows y c ++ hash_rows c)
  later_rows_alike x y e = same_stage (extent_rows x b) (extent_rows y c) _ _ (extent_rows_alike x y e) (λ p. hash_rows_alike)

-- the same outcome, and where it passes the same image
pub same_answer : (o o' : Outcome) (i i' : Image) → o ≡ o' → (o' ≡ Ok tt → i ≡ i') → answer_of o i ≡ answer_of o' i'
same_answer o (Ok tt) i i' e h = rw (e, h refl)
same_answer o (Err r) i i' e h = rw e

-- ---- the first word apart: w ++ drop 4 b agrees with b from 4 on

read_after_word_too : (b : List ℕ) → ReadByCheck after_word any_end b
read_after_word_too b =
    record {
      headers = read_after_word b;
      versions = λ l i g h. le-leb 4 i (omega arith);
      hashes = λ l i g h. le-leb 4 i (omega arith);
      code = λ l i g h. le-leb 4 i (omega arith);
      end = refl;
    }

module _ (w b : List ℕ) (four : length w ≡ 4) where
  -- where the headers pass there are 512 bytes, and v is at least 512
  long : (magic_missing : Bool) (given : Inputs) → first_failing (header_rows magic_missing b given) ≡ Ok tt → (4 ≤ length b) × (512 ≤ vendor_len b)
  long magic_missing given p =
      let v = vendor_shaped b (headers_pass magic_missing b given p).vendor in
      let l = v.long in
      (omega arith, v.size.least)

  follow : (some : 4 ≤ length b) → 512 ≤ vendor_len b → bytes_follow (w ++ drop 4 b) ≡ bytes_follow b
  unfolding bytes_follow
  follow some least = ap₂ ltb (image_len_alike (word_alike w b four some) (read_after_word b) least) (word_length w b four some)

  -- the whole check of a file
  pub word_file : (given : Inputs) → check_file (w ++ drop 4 b) given ≡ answer_of (first_failing (check_rows (not (starts_with TRZV w)) (bytes_follow b) b given)) (image_of b)
  unfolding check_file check_rows
  word_file given = rw (word_magic w b four)
      (same_answer _ _ _ _
      (same_stage _ _ _ _ (word_headers w b four _ given) (λ p.
      let s = long _ given p in
      later_rows_alike (word_alike w b four s.0) (read_after_word_too b) s.1 _ _ (follow s.0 s.1)))
      (λ p. let s = long _ given (stage_first _ _ p) in image_of_alike (word_alike w b four s.0) (read_after_word_too b) s.1))

-- by what the calls promise: x is the test of the first word, o the outcome of the rows
pub file_word_apart : {x t : Bool} {o : Outcome} {a : Answer} (w b : List ℕ) (given : Inputs) → length w ≡ 4 → x ≡ starts_with TRZV w → t ≡ bytes_follow b
    → o ≡ first_failing (check_rows (not x) t b given) → a ≡ answer_of o (image_of b) → a ≡ check_file (w ++ drop 4 b) given
file_word_apart w b given l e f g h =
    h
    ∙ ap (λ (o : Outcome). answer_of o (image_of b)) (g ∙ ap₂ (λ (x t : Bool). first_failing (check_rows (not x) t b given)) e f)
    ∙ sym (word_file w b l given)
