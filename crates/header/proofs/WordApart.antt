-- The first word of the bytes given apart: the steps answer the same with any word there, since only S1 reads it.
-- Assumes nothing.
use Prim.Native.Nat.{ℕ, ◌+◌, ◌-◌, ◌*◌, ◌≤◌, ◌<◌, min}
use mathlib.Core.Path.{◌≡◌, refl, sym, ap, ◌∙◌}
use mathlib.Core.Logic.{⊎_elim}
use mathlib.Core.List.{List, [], ◌∷◌, ◌++◌}
use mathlib.Core.Bool.{Bool, true, not, ◌&&◌}
use native.Mathlib.Omega.{arith}
use native.Mathlib.Nat.{not-suc-le-zero, le_of_suc-le-suc}
use lib.ListN.{length, get_or, drop, length-append, length-drop}
use lib.Seq.{get_or-drop, get_or-append-add}
use lib.Dec.{leb, eqb}
use borrow.Author.Tests.{leb-true, le-leb}
use Rattle.octets.specs.Read.{starts_with}
use Rattle.octets.proofs.Laws.{split}
use Rattle.header.specs.Layout.{TRZV, vendor_len, key_count}
use Rattle.header.specs.Steps.{vendor_magic_missing}
use Rattle.header.specs.Table.{first_failing, vendor_shape, firmware_shape, header_rows}
use Rattle.header.specs.Alike.{Alike, ReadByHeaders}
use Rattle.std.specs.Prelude.{Ok}
use Rattle.header.proofs.Facts.{vendor_shaped, short_refused}
use Rattle.header.proofs.Alike.{vendor_shape_alike, vendor_policy_alike, firmware_shape_alike, firmware_policy_alike}
use Rattle.header.proofs.Rows.{same_row, same_stage}
use Rattle.header.specs.declared.Inputs.{Inputs}

-- the positions after the first word, and every length
abbrev pub after_word : ℕ → Bool
after_word i = leb 4 i

abbrev pub any_end : ℕ → Bool
any_end n = true

-- the steps read no position of the first word
pub read_after_word : (b : List ℕ) → ReadByHeaders after_word any_end b
read_after_word b = record {
  hdrlen = λ i g h. le-leb 4 i g;
  expiry = λ l i g h. le-leb 4 i (omega arith);
  counts = λ l i g h. le-leb 4 i (omega arith);
  zeros = λ l i g h. le-leb 4 i (omega arith);
  string = λ l n. le-leb 4 (32 + 32 * key_count b) (omega arith);
  padding = λ l n p i g h. le-leb 4 i (omega arith);
  mask = λ l. le-leb 4 (vendor_len b - 65) (omega arith);
  start = λ l i g h. le-leb 4 i (omega arith);
  gap = λ l i g h. le-leb 4 i (omega arith);
  end = λ l i g h. le-leb 4 i (omega arith);
  ends = λ n g. refl;
}

-- a magic stands within a start that is long enough
pub starts_within : (m w r : List ℕ) → length m ≤ length w → starts_with m (w ++ r) ≡ starts_with m w
starts_within [] w r h = refl
starts_within (x ∷ m) [] r h = absurd (not-suc-le-zero h)
starts_within (x ∷ m) (y ∷ w) r h = ap (λ (t : Bool). eqb y x && t) (starts_within m w r (le_of_suc-le-suc h))

-- the word w in front of what stands behind the first word of b
module _ (w b : List ℕ) (l : length w ≡ 4) where
  pub word_length : 4 ≤ length b → length (w ++ drop 4 b) ≡ length b
  word_length h = simp (length-append, length-drop) (omega arith)

  pub word_byte : (i : ℕ) → 4 ≤ i → get_or (w ++ drop 4 b) i 0 ≡ get_or b i 0
  word_byte i g =
      let p : i ≡ length w + (i - 4) = omega arith in
      let q : 4 + (i - 4) ≡ i = omega arith in
      ap (λ (j : ℕ). get_or (w ++ drop 4 b) j 0) p
      ∙ get_or-append-add w (drop 4 b) (i - 4) 0
      ∙ get_or-drop 4 b (i - 4) 0
      ∙ ap (λ (j : ℕ). get_or b j 0) q

  pub word_alike : 4 ≤ length b → Alike after_word any_end (w ++ drop 4 b) b
  word_alike h = record { at = λ i r. word_byte i (leb-true 4 i r); len = λ n r. ap (min n) (word_length h) }

  -- where the vendor header has its shape, the bytes are long enough
  pub shaped_word_alike : first_failing (vendor_shape b) ≡ Ok tt → Alike after_word any_end (w ++ drop 4 b) b
  shaped_word_alike p = let long = (vendor_shaped b p).long in word_alike (omega arith)

  -- S1 reads the word alone
  pub word_magic : vendor_magic_missing (w ++ drop 4 b) ≡ not (starts_with TRZV w)
  unfolding vendor_magic_missing
  word_magic = ap not (starts_within TRZV w (drop 4 b) (omega arith))

  -- S3 to S8
  pub word_vendor_shape : first_failing (vendor_shape (w ++ drop 4 b)) ≡ first_failing (vendor_shape b)
  word_vendor_shape =
      ⊎_elim
      (λ (h : length b < 4).
      let g : length (w ++ drop 4 b) < 512 = simp (length-append, length-drop) (omega arith) in
      short_refused (w ++ drop 4 b) g ∙ sym (short_refused b (omega arith)))
      (λ (h : 4 ≤ length b). vendor_shape_alike (word_alike h) (read_after_word b))
      (split (length b) 4)

  -- S12 to S17
  pub word_firmware_shape : first_failing (vendor_shape b) ≡ Ok tt → first_failing (firmware_shape (w ++ drop 4 b)) ≡ first_failing (firmware_shape b)
  word_firmware_shape p = firmware_shape_alike (shaped_word_alike p) (read_after_word b) (vendor_shaped b p).size.least

  -- S1 to S20, where S1 is answered apart
  pub word_headers : (magic_missing : Bool) (given : Inputs) → first_failing (header_rows magic_missing (w ++ drop 4 b) given) ≡ first_failing (header_rows magic_missing b given)
  unfolding header_rows
  word_headers magic_missing given =
      same_row _ _ _ refl (λ h1.
      same_row _ _ _ refl (λ h2.
      same_stage _ _ _ _ word_vendor_shape (λ p.
      let w = shaped_word_alike p in
      let least = (vendor_shaped b p).size.least in
      same_stage _ _ _ _ (vendor_policy_alike w (read_after_word b) least given) (λ q.
      same_stage _ _ _ _ (word_firmware_shape p) (λ r. firmware_policy_alike w (read_after_word b) least given)))))
