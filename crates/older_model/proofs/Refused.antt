-- What the checks of the older model refuse first: where all steps before it hold, a step that fails answers.
-- Assumes nothing.
use Prim.Native.Nat.{ℕ, ◌+◌, ◌<◌}
use mathlib.Core.Path.{◌≡◌, refl, sym}
use mathlib.Core.Bool.{Bool, false}
use mathlib.Core.List.{List, ◌++◌}
use lib.ListN.{length, take, drop}
use borrow.Author.Tests.{lt-ltb}
use Rattle.octets.specs.Read.{u32_at}
use Rattle.code_header.specs.Layout.{code_end_at}
use Rattle.code_header.proofs.Facts.{magic_missing_lem, time_passes}
use Rattle.header.specs.Table.{Row, refusal, first_failing, extent_rows_at}
use Rattle.header.specs.declared.Refusal.{Refusal}
use Rattle.std.specs.Prelude.{Err}
use Rattle.header.proofs.Rows.{fails_here, passes_here, stage_passes, stage_fails}
use Rattle.image.specs.Answer.{image_at, answer_of}
use Rattle.image.proofs.Facts.{rejected}
use Rattle.older_model.specs.declared.OlderInputs.{OlderInputs}
use Rattle.older_model.specs.Steps.{TRZR, TRZF, legacy_len, legacy_magic_missing, code_len_other}
use Rattle.older_model.specs.Check.{legacy_shape, legacy_policy, legacy_rows, v2_shape, v2_policy, code_rows, v2_rows, alone_rows, pair_rows}
use Rattle.older_model.specs.Theorems.{LegacyHeader, V2Header, KeySheet, ThreeKeys, AllYes, SignedByThree, Timely, LegacyBefore, RefusesV2, RefusesLegacy}
use Rattle.older_model.proofs.Signers.{sheet_passes, indexes_pass, indexes_fail, verdicts_fail}
use Rattle.older_model.proofs.Headers.{v2_passes, v2_unlinked, legacy_passes, linked_passes, linked_fails}
use Rattle.older_model.proofs.Rows.{policy_passes, legacy_rows_pass}

-- ---- the V2 header and the code

module _ (other t : Bool) (b : List ℕ) (at : ℕ) (given : OlderInputs) where
  pub v2_magic : (take 4 (drop at b) ≡ TRZF → ⊥) → Err (refusal 10 2) ≡ first_failing (v2_rows other t b at given)
  unfolding v2_rows v2_shape
  v2_magic h = fails_here _ _ (magic_missing_lem b at TRZF refl h) refl

  v2_indexes : V2Header b at → other ≡ false → Timely b at given → (ThreeKeys given.keys b (at + 0x2E0) → ⊥) → Err (refusal 8 2) ≡ first_failing (v2_rows other t b at given)
  unfolding v2_rows v2_policy
  v2_indexes d e l h =
      stage_passes _ _ (sym (v2_passes other b at d e)) refl
      (passes_here _ _ (time_passes (u32_at b (at + 8)) given.time l) (fails_here _ _ (indexes_fail given.keys b (at + 0x2E0) h) refl))

  v2_verdicts : V2Header b at → other ≡ false → Timely b at given → ThreeKeys given.keys b (at + 0x2E0) → (AllYes given.v2 → ⊥) → Err (refusal 9 2) ≡ first_failing (v2_rows other t b at given)
  unfolding v2_rows v2_policy
  v2_verdicts d e l k h =
      stage_passes _ _ (sym (v2_passes other b at d e)) refl
      (passes_here _ _ (time_passes (u32_at b (at + 8)) given.time l)
      (passes_here _ _ (indexes_pass given.keys b (at + 0x2E0) k) (fails_here _ _ (verdicts_fail given.v2 h) refl)))

  v2_cut : V2Header b at → other ≡ false → Timely b at given → SignedByThree given.keys b (at + 0x2E0) given.v2 → length b < code_end_at b at → Err (refusal 2 3) ≡ first_failing (v2_rows other t b at given)
  unfolding v2_rows code_rows extent_rows_at
  v2_cut d e l s h =
      stage_passes _ _ (sym (v2_passes other b at d e)) refl
      (stage_passes _ _ (sym (policy_passes other t b at given l s)) refl (fails_here _ _ (lt-ltb (length b) (code_end_at b at) h) refl))

-- ---- one form, by what is before its V2 header

-- where that holds, the answer of all rows is that of the V2 header's
pub record Reaches (rows : Bool → List ℕ → OlderInputs → List Row) (Before : List ℕ → OlderInputs → Type 0) (other : List ℕ → Bool) (at : ℕ) : Type 0 where
  pub reached : (t : Bool) (b : List ℕ) (given : OlderInputs) {r : Refusal} → Before b given → Err r ≡ first_failing (v2_rows (other b) t b at given) → first_failing (rows t b given) ≡ Err r
  pub own : (b : List ℕ) (given : OlderInputs) → Before b given → other b ≡ false

pub refuses_v2 : {rows : Bool → List ℕ → OlderInputs → List Row} {Before : List ℕ → OlderInputs → Type 0} {other : List ℕ → Bool} {at : ℕ} (tail : List ℕ → Bool) → Reaches rows Before other at
    → RefusesV2 (λ b given. answer_of (first_failing (rows (tail b) b given)) (image_at b 0 at)) Before at
refuses_v2 {other = other} {at} tail form =
    record {
      magic = λ b given p h. sym (rejected (image_at b 0 at) (form.reached (tail b) b given p (v2_magic (other b) (tail b) b at given h)));
      indexes = λ b given p d l h. sym (rejected (image_at b 0 at) (form.reached (tail b) b given p (v2_indexes (other b) (tail b) b at given d (form.own b given p) l h)));
      verdicts = λ b given p d l k h. sym (rejected (image_at b 0 at) (form.reached (tail b) b given p (v2_verdicts (other b) (tail b) b at given d (form.own b given p) l k h)));
      cut = λ b given p d l s h. sym (rejected (image_at b 0 at) (form.reached (tail b) b given p (v2_cut (other b) (tail b) b at given d (form.own b given p) l s h)));
    }

pub alone_before : Reaches alone_rows (λ b given. KeySheet given.keys) (λ b. false) 0
unfolding alone_rows
alone_before = record { reached = λ t b given s h. sym (passes_here _ _ (sheet_passes given.keys s) h); own = λ b given s. refl }

-- behind a good legacy header
behind_legacy : (t : Bool) (b : List ℕ) (given : OlderInputs) {r : Refusal} → KeySheet given.keys → LegacyHeader b → SignedByThree given.keys b 8 given.legacy
    → Err r ≡ first_failing (v2_rows (code_len_other b) t b legacy_len given) → first_failing (pair_rows t b given) ≡ Err r
unfolding pair_rows
behind_legacy t b given s l g h =
    sym (passes_here _ _ (sheet_passes given.keys s) (stage_passes _ _ (sym (legacy_rows_pass b given l g)) refl h))

pub pair_before : Reaches pair_rows LegacyBefore code_len_other 256
pair_before =
    record {
      reached = λ t b given p h. behind_legacy t b given p.sheet p.legacy p.signed h;
      own = λ b given p. linked_passes b p.linked;
    }

-- ---- the legacy header

module _ (t : Bool) (b : List ℕ) (given : OlderInputs) where
  legacy_magic : KeySheet given.keys → (take 4 b ≡ TRZR → ⊥) → first_failing (pair_rows t b given) ≡ Err (refusal 1 1)
  unfolding pair_rows legacy_rows legacy_shape legacy_magic_missing
  legacy_magic s h = sym (passes_here _ _ (sheet_passes given.keys s) (fails_here _ _ (magic_missing_lem b 0 TRZR refl h) refl))

  -- a refusal of the legacy header's indexes or verdicts
  legacy_refused : {r : Refusal} → KeySheet given.keys → LegacyHeader b → Err r ≡ first_failing (legacy_policy b given) → first_failing (pair_rows t b given) ≡ Err r
  unfolding pair_rows legacy_rows
  legacy_refused s l h =
      sym
      (passes_here _ _ (sheet_passes given.keys s)
      (stage_fails (legacy_shape b ++ legacy_policy b given) _ (stage_passes _ _ (sym (legacy_passes b l)) refl h) refl refl))

  legacy_indexes : (ThreeKeys given.keys b 8 → ⊥) → Err (refusal 8 1) ≡ first_failing (legacy_policy b given)
  unfolding legacy_policy
  legacy_indexes h = fails_here _ _ (indexes_fail given.keys b 8 h) refl

  legacy_verdicts : ThreeKeys given.keys b 8 → (AllYes given.legacy → ⊥) → Err (refusal 9 1) ≡ first_failing (legacy_policy b given)
  unfolding legacy_policy
  legacy_verdicts k h = passes_here _ _ (indexes_pass given.keys b 8 k) (fails_here _ _ (verdicts_fail given.legacy h) refl)

  not_linked : V2Header b 256 → (u32_at b 4 ≡ u32_at b 268 + 1024 → ⊥) → Err (refusal 12 2) ≡ first_failing (v2_rows (code_len_other b) t b legacy_len given)
  unfolding v2_rows
  not_linked d h = stage_fails (v2_shape (code_len_other b) b 256) _ (sym (v2_unlinked (code_len_other b) b 256 d (linked_fails b h))) refl refl

pub refuses_legacy : (tail : List ℕ → Bool) → RefusesLegacy (λ b given. answer_of (first_failing (pair_rows (tail b) b given)) (image_at b 0 256))
refuses_legacy tail =
    record {
      magic = λ b given s h. sym (rejected (image_at b 0 256) (legacy_magic (tail b) b given s h));
      indexes = λ b given s l h. sym (rejected (image_at b 0 256) (legacy_refused (tail b) b given s l (legacy_indexes (tail b) b given h)));
      verdicts = λ b given s l k h. sym (rejected (image_at b 0 256) (legacy_refused (tail b) b given s l (legacy_verdicts (tail b) b given k h)));
      behind = λ b given s l g h. sym (rejected (image_at b 0 256) (behind_legacy (tail b) b given s l g (v2_magic (code_len_other b) (tail b) b 256 given h)));
      unlinked = λ b given s l g d h. sym (rejected (image_at b 0 256) (behind_legacy (tail b) b given s l g (not_linked (tail b) b given d h)));
    }
