-- The digest questions, answered exactly for their headers.
-- Assumes nothing.
use Prim.Native.Nat.{ℕ, ◌+◌, ◌≤◌, ◌<◌}
use mathlib.Core.Path.{◌≡◌, refl, sym}
use mathlib.Core.Bool.{false}
use mathlib.Core.List.{List, [], ◌∷◌, ◌++◌}
use native.Mathlib.Omega.{arith}
use lib.ListN.{length, take, drop}
use borrow.Author.Tests.{ltb-false, le-ltb, lt-ltb}
use Rattle.octets.specs.Read.{u32_at}
use Rattle.header.specs.Table.{Row, step, first_failing}
use Rattle.header.specs.declared.Refusal.{Refusal}
use Rattle.std.specs.Prelude.{Ok, Err}
use Rattle.header.proofs.Rows.{passes_here, fails_here, ends, pass_head, stage_first, stage_then, stage_passes, stage_fails}
use Rattle.image.proofs.Parts.{part_taken}
use Rattle.signing.proofs.Laws.{outcome_ok}
use Rattle.older_model.specs.Steps.{legacy_len, code_len_other}
use Rattle.older_model.specs.Check.{legacy_shape, v2_shape}
use Rattle.older_model.specs.Digest.{signed_v2, v2_digest, pair_v2_digest, signed_legacy, signed_legacy_cut, pair_legacy_digest}
use Rattle.older_model.specs.Theorems.{LegacyHeader, V2Header, v2_signed, OlderHeadersAnswer}
use Rattle.older_model.proofs.Headers.{v2_is, v2_other, v2_passes, v2_unlinked, v2_magic_missing, legacy_is, legacy_passes, legacy_magic_missing_lem, linked_is, linked_passes, linked_fails}

-- ---- what is signed

signed_v2_is : (b : List ℕ) (at : ℕ) → signed_v2 b at ≡ v2_signed b at
unfolding signed_v2
signed_v2_is b at =
    rw (
      part_taken b at 0x220 at (at + 0x220) refl refl,
      part_taken b (at + 0x2E3) 285 (at + 0x2E3) (at + 1024) refl (omega arith),
    )

signed_legacy_is : (b : List ℕ) → signed_legacy b ≡ take (u32_at b 4) (drop 256 b)
unfolding signed_legacy
signed_legacy_is b = part_taken b 256 (u32_at b 4) 256 (256 + u32_at b 4) refl refl

-- ---- the V2 header in the pair

both_pass : (b : List ℕ) → LegacyHeader b → V2Header b 256 → u32_at b 4 ≡ u32_at b 268 + 1024 → first_failing (legacy_shape b ++ v2_shape (code_len_other b) b legacy_len) ≡ Ok tt
both_pass b l v e = sym (stage_passes _ _ (sym (legacy_passes b l)) refl (sym (v2_passes (code_len_other b) b 256 v (linked_passes b e))))

both_are : (b : List ℕ) → first_failing (legacy_shape b ++ v2_shape (code_len_other b) b legacy_len) ≡ Ok tt → LegacyHeader b × (V2Header b 256 × (u32_at b 4 ≡ u32_at b 268 + 1024))
both_are b h =
    let l = stage_first (legacy_shape b) _ h in
    let v = stage_then (legacy_shape b) _ h in
    (legacy_is b l, (v2_is (code_len_other b) b 256 v, linked_is b (v2_other (code_len_other b) b 256 v)))

-- a refusal of the V2 header behind a good legacy header
both_refused : {r : Refusal} (b : List ℕ) → LegacyHeader b → first_failing (v2_shape (code_len_other b) b legacy_len) ≡ Err r → first_failing (legacy_shape b ++ v2_shape (code_len_other b) b legacy_len) ≡ Err r
both_refused b l h = sym (stage_passes _ _ (sym (legacy_passes b l)) refl (sym h))

-- ---- the legacy header

-- its magic is asked first
legacy_first : (b : List ℕ) (more : List Row) → (take 4 b ≡ 84 ∷ 82 ∷ 90 ∷ 82 ∷ [] → ⊥) → first_failing (legacy_shape b ++ more) ≡ Err (record { number = 1; part = 1; chunk = 0 })
legacy_first b more h = sym (stage_fails (legacy_shape b) more (sym (legacy_magic_missing_lem b h)) refl refl)

legacy_pass : (b : List ℕ) → LegacyHeader b → 256 + u32_at b 4 ≤ length b → first_failing (legacy_shape b ++ (step (signed_legacy_cut b) 2 3 ∷ [])) ≡ Ok tt
unfolding signed_legacy_cut
legacy_pass b l h = sym (stage_passes _ _ (sym (legacy_passes b l)) refl (passes_here _ _ (le-ltb (length b) (256 + u32_at b 4) h) ends))

legacy_are : (b : List ℕ) → first_failing (legacy_shape b ++ (step (signed_legacy_cut b) 2 3 ∷ [])) ≡ Ok tt → LegacyHeader b × (256 + u32_at b 4 ≤ length b)
unfolding signed_legacy_cut
legacy_are b h =
    (legacy_is b (stage_first (legacy_shape b) _ h), ltb-false (length b) (256 + u32_at b 4) (pass_head _ _ _ (stage_then (legacy_shape b) _ h)))

legacy_cut : (b : List ℕ) → LegacyHeader b → length b < 256 + u32_at b 4 → first_failing (legacy_shape b ++ (step (signed_legacy_cut b) 2 3 ∷ [])) ≡ Err (record { number = 2; part = 3; chunk = 0 })
unfolding signed_legacy_cut
legacy_cut b l h = sym (stage_passes _ _ (sym (legacy_passes b l)) refl (fails_here _ _ (lt-ltb (length b) (256 + u32_at b 4) h) refl))

pub older_headers_answer : OlderHeadersAnswer
unfolding v2_digest pair_v2_digest pair_legacy_digest
older_headers_answer =
    record {
      v2 = λ b v. rw (v2_passes false b 0 v refl, signed_v2_is b 0);
      v2_only = λ b h. v2_is false b 0 (outcome_ok (first_failing (v2_shape false b 0)) _ h);
      v2_magic = λ b h. rw (v2_magic_missing false b 0 h);
      pair_v2 = λ b l v e. rw (both_pass b l v e, signed_v2_is b 256);
      pair_v2_only = λ b h. both_are b (outcome_ok (first_failing (legacy_shape b ++ v2_shape (code_len_other b) b legacy_len)) _ h);
      pair_v2_magic = λ b h. rw (legacy_first b _ h);
      pair_v2_behind = λ b l h. rw (both_refused b l (v2_magic_missing (code_len_other b) b 256 h));
      pair_v2_unlinked = λ b l v h. rw (both_refused b l (v2_unlinked (code_len_other b) b 256 v (linked_fails b h)));
      legacy = λ b l h. rw (legacy_pass b l h, signed_legacy_is b);
      legacy_only = λ b h. legacy_are b (outcome_ok (first_failing (legacy_shape b ++ (step (signed_legacy_cut b) 2 3 ∷ []))) _ h);
      legacy_cut = λ b l h. rw (legacy_cut b l h);
      legacy_magic = λ b h. rw (legacy_first b _ h);
    }
