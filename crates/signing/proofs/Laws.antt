-- How a question is answered by its rows and its digest, and that a word given apart changes neither.
-- Assumes nothing.
use Prim.Native.Nat.{ℕ, suc, ◌+◌, ◌-◌}
use mathlib.Core.Path.{◌≡◌, refl, ap, ◌∙◌}
use mathlib.Core.List.{List, [], ◌∷◌, ◌++◌, append_assoc}
use mathlib.Core.Bool.{Bool, not}
use native.Mathlib.Omega.{arith}
use lib.ListN.{length, take, drop, replicate}
use borrow.Author.Tests.{le-leb}
use Rattle.std.specs.Prelude.{Ok, Err}
use Rattle.std.specs.Result.{IsOk}
use Rattle.octets.specs.Read.{u32_at, between, starts_with}
use Rattle.blake2s.specs.Rfc7693.{blake2s_of}
use Rattle.blake2s.specs.Parts.{zero_tailed}
use Rattle.header.specs.Layout.{TRZV, vendor_len, mask_at}
use Rattle.header.specs.Steps.{vendor_magic_missing}
use Rattle.header.specs.Table.{Row, first_failing, vendor_shape, firmware_shape}
use Rattle.header.specs.Outcome.{told}
use Rattle.header.specs.declared.Refusal.{Refusal}
use Rattle.header.specs.Outcome.{Outcome}
use Rattle.header.proofs.Rows.{same_row, same_stage, stage_first, stage_then, pass_tail}
use Rattle.header.proofs.Facts.{vendor_shaped}
use Rattle.header.proofs.Alike.{between_alike}
use Rattle.header.proofs.Told.{told_too}
use Rattle.signing.specs.Digests.{vendor_rows, firmware_rows, signed_vendor, signed_firmware, answered, vendor_digest, firmware_digest}
use Rattle.signing.specs.Digests.{Digest}
use Rattle.header.proofs.WordApart.{word_byte, shaped_word_alike, word_magic, word_vendor_shape, word_firmware_shape}

-- ---- a call's return, whichever its rows are

-- o is what the rows' function returned, and a what the call replies of it
pub replies_refusal : {o : Outcome} {a : Digest} {r : Refusal} (e : List ℕ) → o ≡ Err r → a ≡ Err r → a ≡ answered o e
replies_refusal e failed h = rw failed h

pub replies_digest : {o : Outcome} {u : Unit {0}} {d e : List ℕ} → o ≡ Ok u → d ≡ e → Ok d ≡ answered o e
replies_digest passed h = rw passed (ap Ok h)

-- given x for S1's answer m
pub answers : {x m : Bool} {o : Outcome} {a : Digest} (rows : Bool → List ℕ → List Row) (b e : List ℕ) → x ≡ m → o ≡ first_failing (rows x b) → a ≡ answered o e
    → a ≡ answered (first_failing (rows m b)) e
answers rows b e magic first h = rw (← magic, ← first) h

-- an answer is a digest where its rows pass, and a refusal is that of its rows
pub outcome_ok : (o : Outcome) (d : List ℕ) → IsOk (answered o d) → o ≡ Ok tt
outcome_ok (Ok tt) d e = refl
outcome_ok (Err r) d e = cc

pub outcome_err : (o : Outcome) (d : List ℕ) (r : Refusal) → answered o d ≡ Err r → o ≡ Err r
outcome_err (Ok tt) d r e = cc
outcome_err (Err s) d r e = cc

-- a call that promises its reply promises what it tells
pub tells : {x y : Digest} → x ≡ y → (x ≡ y) × (told x ≡ told y)
tells e = told_too (λ (x : Digest). told x) e

-- ---- rows that pass: the headers have their shape

pub vendor_rows_shape : (m : Bool) (b : List ℕ) → first_failing (vendor_rows m b) ≡ Ok tt → first_failing (vendor_shape b) ≡ Ok tt
unfolding vendor_rows
vendor_rows_shape m b p = pass_tail m _ _ p

pub firmware_rows_shape : (m : Bool) (b : List ℕ) → first_failing (firmware_rows m b) ≡ Ok tt → first_failing (vendor_shape b) ≡ Ok tt
unfolding firmware_rows
firmware_rows_shape m b p = stage_first _ (firmware_shape b) (pass_tail m _ _ p)

pub firmware_rows_own_shape : (m : Bool) (b : List ℕ) → first_failing (firmware_rows m b) ≡ Ok tt → first_failing (firmware_shape b) ≡ Ok tt
unfolding firmware_rows
firmware_rows_own_shape m b p = stage_then (vendor_shape b) _ (pass_tail m _ _ p)

-- ---- the word given apart

pub answered_same : (o o' : Outcome) (d d' : List ℕ) → o ≡ o' → (o' ≡ Ok tt → d ≡ d') → answered o d ≡ answered o' d'
answered_same o (Ok tt) d d' e h = rw (e, h refl)
answered_same o (Err r) d d' e h = rw e

take_past : (w r : List ℕ) (n : ℕ) → take (length w + n) (w ++ r) ≡ w ++ take n r
take_past [] r n = let e : 0 + n ≡ n = omega arith in rw e
take_past (x ∷ w) r n = let e : suc (length w) + n ≡ suc (length w + n) = omega arith in rw e (ap (λ (l : List ℕ). x ∷ l) (take_past w r n))

module _ (w b : List ℕ) (l : length w ≡ 4) where
  pub word_len : vendor_len (w ++ drop 4 b) ≡ vendor_len b
  unfolding u32_at
  word_len = rw (word_byte w b l 4 (omega arith), word_byte w b l 5 (omega arith), word_byte w b l 6 (omega arith), word_byte w b l 7 (omega arith))

  signed_vendor_lem : first_failing (vendor_shape b) ≡ Ok tt → signed_vendor (w ++ drop 4 b) ≡ w ++ zero_tailed (between 4 (mask_at (vendor_len b)) b)
  unfolding signed_vendor between
  signed_vendor_lem p =
      let least = (vendor_shaped b p).size.least in
      let e : vendor_len b - 65 - 0 ≡ length w + (vendor_len b - 65 - 4) = omega arith in
      rw (word_len, e, take_past w (drop 4 b) (vendor_len b - 65 - 4)) (append_assoc w (take (vendor_len b - 65 - 4) (drop 4 b)) (replicate 65 0))

  signed_firmware_lem : first_failing (vendor_shape b) ≡ Ok tt → signed_firmware (w ++ drop 4 b) ≡ signed_firmware b
  unfolding signed_firmware
  signed_firmware_lem p =
      let least = (vendor_shaped b p).size.least in
      rw (word_len) (ap zero_tailed (between_alike (shaped_word_alike w b l p) (vendor_len b) _ refl (λ i g h. le-leb 4 i (omega arith))))

  -- S1 is asked of the word, and the other rows answer the same with the word in its place
  asked_apart : (rows : Bool → List ℕ → List Row) → ((m : Bool) → first_failing (rows m (w ++ drop 4 b)) ≡ first_failing (rows m b))
      → first_failing (rows (vendor_magic_missing (w ++ drop 4 b)) (w ++ drop 4 b)) ≡ first_failing (rows (not (starts_with TRZV w)) b)
  asked_apart rows same = ap (λ (m : Bool). first_failing (rows m (w ++ drop 4 b))) (word_magic w b l) ∙ same _

  pub vendor_rows_apart : first_failing (vendor_rows (vendor_magic_missing (w ++ drop 4 b)) (w ++ drop 4 b)) ≡ first_failing (vendor_rows (not (starts_with TRZV w)) b)
  unfolding vendor_rows
  vendor_rows_apart = asked_apart vendor_rows (λ m. same_row _ _ _ refl (λ g. word_vendor_shape w b l))

  pub firmware_rows_apart : first_failing (firmware_rows (vendor_magic_missing (w ++ drop 4 b)) (w ++ drop 4 b)) ≡ first_failing (firmware_rows (not (starts_with TRZV w)) b)
  unfolding firmware_rows
  firmware_rows_apart =
      asked_apart firmware_rows (λ m. same_row _ _ _ refl (λ g. same_stage _ _ _ _ (word_vendor_shape w b l) (λ p. word_firmware_shape w b l p)))

  pub vendor_apart : vendor_digest (w ++ drop 4 b) ≡ answered (first_failing (vendor_rows (not (starts_with TRZV w)) b)) (blake2s_of (w ++ zero_tailed (between 4 (mask_at (vendor_len b)) b)))
  unfolding vendor_digest
  vendor_apart = answered_same _ _ _ _ vendor_rows_apart (λ p. ap blake2s_of (signed_vendor_lem (vendor_rows_shape _ b p)))

  pub firmware_apart : firmware_digest (w ++ drop 4 b) ≡ answered (first_failing (firmware_rows (not (starts_with TRZV w)) b)) (blake2s_of (signed_firmware b))
  unfolding firmware_digest
  firmware_apart = answered_same _ _ _ _ firmware_rows_apart (λ p. ap blake2s_of (signed_firmware_lem (firmware_rows_shape _ b p)))
