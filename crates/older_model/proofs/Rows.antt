-- The rows of the two forms: they pass exactly where the headers, the signers, the extent and the hashes are as they must be.
-- Assumes nothing.
use Prim.Native.Nat.{ℕ, ◌+◌, ◌≤◌}
use mathlib.Core.Path.{◌≡◌, refl, sym}
use mathlib.Core.Bool.{Bool, false}
use mathlib.Core.List.{List}
use native.Mathlib.Omega.{arith}
use lib.ListN.{length}
use Rattle.octets.specs.Read.{u32_at}
use Rattle.code_header.specs.Layout.{code_end_at}
use Rattle.code_header.proofs.Facts.{in_time, time_passes}
use Rattle.header.specs.Table.{first_failing, extent_rows_at}
use Rattle.std.specs.Prelude.{Ok}
use Rattle.header.proofs.Facts.{extent_passes, passing_extent}
use Rattle.header.proofs.Rows.{passes_here, ends, pass_head, pass_tail, stage_first, stage_then, stage_passes, Numbered, numbered_append, extent_numbered}
use Rattle.sha256.specs.Fips180.{sha256_of}
use Rattle.image.specs.Chunks.{hash_table_at, code_at}
use Rattle.image.specs.Answer.{image_at}
use Rattle.image.specs.declared.Image.{Image}
use Rattle.image.proofs.Hashes.{chunks_numbered}
use Rattle.older_model.specs.declared.OlderInputs.{OlderInputs}
use Rattle.older_model.specs.Steps.{legacy_len, first_room, code_len_other}
use Rattle.older_model.specs.Check.{legacy_shape, legacy_policy, legacy_rows, v2_shape, v2_policy, code_rows, v2_rows, alone_rows, pair_rows}
use Rattle.older_model.specs.Theorems.{LegacyHeader, KeySheet, SignedByThree, Timely, IsV2, IsPair}
use Rattle.older_model.proofs.Signers.{sheet_is, sheet_passes, signed_is, indexes_pass, verdicts_pass}
use Rattle.older_model.proofs.Headers.{v2_is, v2_other, v2_passes, legacy_is, legacy_passes, linked_is, linked_passes}
use Rattle.older_model.proofs.Hashes.{hashes_used, hashes_unused, hashes_pass}

-- ---- the V2 header and the code

module _ (other tail_wrong : Bool) (b : List ℕ) (at : ℕ) (given : OlderInputs) where
  policy_is : first_failing (v2_policy b at given) ≡ Ok tt → Timely b at given × SignedByThree given.keys b (at + 0x2E0) given.v2
  unfolding v2_policy
  policy_is h =
      let i = pass_tail _ _ _ h in
      (in_time (u32_at b (at + 8)) given.time (pass_head _ _ _ h), signed_is given.keys b (at + 0x2E0) given.v2 (pass_head _ _ _ i) (pass_head _ _ _ (pass_tail _ _ _ i)))

  pub policy_passes : Timely b at given → SignedByThree given.keys b (at + 0x2E0) given.v2 → first_failing (v2_policy b at given) ≡ Ok tt
  unfolding v2_policy
  policy_passes t s =
      sym
      (passes_here _ _ (time_passes (u32_at b (at + 8)) given.time t)
      (passes_here _ _ (indexes_pass given.keys b (at + 0x2E0) s.signers)
      (passes_here _ _ (verdicts_pass given.v2 s.agreed) ends)))

  -- what the rows say of the bytes
  pub record V2Stands : Type 0 where
    pub image : IsV2 b at given (image_at b 0 at)
    pub own : other ≡ false
    pub tail : tail_wrong ≡ false

  pub v2_stands : KeySheet given.keys → first_failing (v2_rows other tail_wrong b at given) ≡ Ok tt → V2Stands
  unfolding v2_rows code_rows
  v2_stands sheet h =
      let shape = stage_first (v2_shape other b at) _ h in
      let later = stage_then (v2_shape other b at) _ h in
      let policy = policy_is (stage_first (v2_policy b at given) _ later) in
      let code = stage_then (v2_policy b at given) _ later in
      let extent = extent_passes tail_wrong b at (stage_first (extent_rows_at tail_wrong b at) _ code) in
      let hashes = stage_then (extent_rows_at tail_wrong b at) _ code in
      record {
        image =
            record {
              sheet = sheet;
              header = v2_is other b at shape;
              timely = policy.0;
              signed = policy.1;
              held = extent.held;
              used = hashes_used b at extent.held hashes;
              unused = hashes_unused b at extent.held hashes;
              v = refl;
              codelen = refl;
              version = refl;
              fix = refl;
            };
        own = v2_other other b at shape;
        tail = extent.tail;
      }

  pub v2_rows_pass : (i : Image) → IsV2 b at given i → other ≡ false → tail_wrong ≡ false → first_failing (v2_rows other tail_wrong b at given) ≡ Ok tt
  unfolding v2_rows code_rows
  v2_rows_pass i s e f =
      let c = s.codelen in
      let held : code_end_at b at ≤ length b = rw (← c) s.held in
      sym
      (stage_passes _ _ (sym (v2_passes other b at s.header e)) refl
      (stage_passes _ _ (sym (policy_passes s.timely s.signed)) refl
      (stage_passes _ _ (sym (passing_extent (record { held = held; tail = f }))) refl
      (sym (hashes_pass b at held (rw (← c) s.used) (rw (← c) s.unused))))))

-- ---- the legacy header

module _ (b : List ℕ) (given : OlderInputs) where
  pub legacy_stands : first_failing (legacy_rows b given) ≡ Ok tt → LegacyHeader b × SignedByThree given.keys b 8 given.legacy
  unfolding legacy_rows legacy_policy
  legacy_stands h =
      let p = stage_then (legacy_shape b) _ h in
      (legacy_is b (stage_first (legacy_shape b) _ h), signed_is given.keys b 8 given.legacy (pass_head _ _ _ p) (pass_head _ _ _ (pass_tail _ _ _ p)))

  pub legacy_rows_pass : LegacyHeader b → SignedByThree given.keys b 8 given.legacy → first_failing (legacy_rows b given) ≡ Ok tt
  unfolding legacy_rows legacy_policy
  legacy_rows_pass l s =
      sym
      (stage_passes _ _ (sym (legacy_passes b l)) refl
      (passes_here _ _ (indexes_pass given.keys b 8 s.signers) (passes_here _ _ (verdicts_pass given.legacy s.agreed) ends)))

-- ---- the two forms

module _ (tail_wrong : Bool) (b : List ℕ) (given : OlderInputs) where
  pub alone_stands : first_failing (alone_rows tail_wrong b given) ≡ Ok tt → V2Stands false tail_wrong b 0 given
  unfolding alone_rows
  alone_stands h = v2_stands false tail_wrong b 0 given (sheet_is given.keys (pass_head _ _ _ h)) (pass_tail _ _ _ h)

  pub alone_passes : (i : Image) → IsV2 b 0 given i → tail_wrong ≡ false → first_failing (alone_rows tail_wrong b given) ≡ Ok tt
  unfolding alone_rows
  alone_passes i s f = sym (passes_here _ _ (sheet_passes given.keys s.sheet) (sym (v2_rows_pass false tail_wrong b 0 given i s refl f)))

  pub pair_stands : first_failing (pair_rows tail_wrong b given) ≡ Ok tt → IsPair b given (image_at b 0 256) × (tail_wrong ≡ false)
  unfolding pair_rows
  pair_stands h =
      let p = pass_tail _ _ _ h in
      let l = legacy_stands b given (stage_first (legacy_rows b given) _ p) in
      let s = v2_stands (code_len_other b) tail_wrong b 256 given (sheet_is given.keys (pass_head _ _ _ h)) (stage_then (legacy_rows b given) _ p) in
      (record { legacy = l.0; legacy_signed = l.1; linked = linked_is b s.own; v2 = s.image }, s.tail)

  pub pair_passes : (i : Image) → IsPair b given i → tail_wrong ≡ false → first_failing (pair_rows tail_wrong b given) ≡ Ok tt
  unfolding pair_rows
  pair_passes i s f =
      sym
      (passes_here _ _ (sheet_passes given.keys s.v2.sheet)
      (stage_passes _ _ (sym (legacy_rows_pass b given s.legacy s.legacy_signed)) refl
      (sym (v2_rows_pass (code_len_other b) tail_wrong b 256 given i s.v2 (linked_passes b s.linked) f))))

-- ---- every row refuses with a number

code_numbered : (tail_wrong : Bool) (b : List ℕ) (at : ℕ) → Numbered (code_rows tail_wrong b at)
unfolding code_rows
code_numbered tail_wrong b at =
    numbered_append (extent_rows_at tail_wrong b at) _ (extent_numbered tail_wrong b at) (chunks_numbered sha256_of first_room (code_at b at) (hash_table_at b at) 0 16)

policy_numbered : (b : List ℕ) (at : ℕ) (given : OlderInputs) → Numbered (v2_policy b at given)
unfolding v2_policy
policy_numbered b at given = (omega arith, (omega arith, (omega arith, omega arith)))

shape_numbered : (other : Bool) (b : List ℕ) (at : ℕ) → Numbered (v2_shape other b at)
unfolding v2_shape
shape_numbered other b at = (omega arith, (omega arith, (omega arith, (omega arith, (omega arith, omega arith)))))

v2_numbered : (other tail_wrong : Bool) (b : List ℕ) (at : ℕ) (given : OlderInputs) → Numbered (v2_rows other tail_wrong b at given)
unfolding v2_rows
v2_numbered other tail_wrong b at given =
    numbered_append (v2_shape other b at) _ (shape_numbered other b at) (numbered_append (v2_policy b at given) _ (policy_numbered b at given) (code_numbered tail_wrong b at))

legacy_numbered : (b : List ℕ) (given : OlderInputs) → Numbered (legacy_rows b given)
unfolding legacy_rows legacy_shape legacy_policy
legacy_numbered b given = numbered_append (legacy_shape b) (legacy_policy b given) (omega arith, (omega arith, (omega arith, (omega arith, omega arith)))) (omega arith, (omega arith, omega arith))

pub alone_numbered : (tail_wrong : Bool) (b : List ℕ) (given : OlderInputs) → Numbered (alone_rows tail_wrong b given)
unfolding alone_rows
alone_numbered tail_wrong b given = (omega arith, v2_numbered false tail_wrong b 0 given)

pub pair_numbered : (tail_wrong : Bool) (b : List ℕ) (given : OlderInputs) → Numbered (pair_rows tail_wrong b given)
unfolding pair_rows
pair_numbered tail_wrong b given = (omega arith, numbered_append (legacy_rows b given) _ (legacy_numbered b given) (v2_numbered (code_len_other b) tail_wrong b legacy_len given))
