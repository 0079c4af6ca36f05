-- The two headers: the rows of each through its zero bytes pass exactly where its fields are as they must be.
-- Assumes nothing.
use Prim.Native.Nat.{ℕ, ◌+◌, ◌%◌}
use mathlib.Core.Path.{◌≡◌, refl, sym, ap}
use mathlib.Core.Bool.{Bool, true, false, not, ◌||◌}
use mathlib.Core.List.{List}
use native.Mathlib.Omega.{arith}
use lib.ListN.{length, take, drop}
use lib.Dec.{ltb, eqb}
use borrow.Author.Tests.{ltb-false, le-ltb, eqb-true, eq-eqb, not-false}
use Rattle.octets.specs.Read.{u32_at, between, all_are}
use Rattle.octets.specs.Rounding.{multiple_of}
use Rattle.octets.proofs.Laws.{and_left, and_right, or_left, or_right}
use Rattle.code_header.specs.Layout.{code_len_at}
use Rattle.code_header.specs.Tests.{code_len_outside}
use Rattle.code_header.proofs.Facts.{code_len_inside, inside_code_len, magic_stands, magic_passes, magic_missing_lem}
use Rattle.header.specs.Table.{refusal, first_failing}
use Rattle.std.specs.Prelude.{Ok, Err}
use Rattle.header.proofs.Rows.{passes_here, fails_here, ends, pass_head, pass_tail}
use Rattle.image.proofs.Parts.{part_taken}
use Rattle.older_model.specs.Steps.{TRZR, TRZF, most_code, legacy_code_len, legacy_magic_missing, legacy_cut, legacy_code_len_wrong, legacy_bytes_not_zero, v2_code_len_wrong, code_len_other, v2_bytes_not_zero}
use Rattle.older_model.specs.Check.{legacy_shape, v2_shape}
use Rattle.older_model.specs.Theorems.{LegacyHeader, V2Header}

-- ---- the V2 header

module _ (other : Bool) (b : List ℕ) (at : ℕ) where
  zeros_at : between (at + 24) (at + 32) b ≡ take 8 (drop (at + 24) b)
  zeros_at = part_taken b (at + 24) 8 (at + 24) (at + 32) refl (omega arith)

  gap_at : between (at + 0x2E3) (at + 1024) b ≡ take 285 (drop (at + 0x2E3) b)
  gap_at = part_taken b (at + 0x2E3) 285 (at + 0x2E3) (at + 1024) refl (omega arith)

  -- a header whose rows pass; and nothing else was wrong with its codelen
  pub v2_is : first_failing (v2_shape other b at) ≡ Ok tt → V2Header b at
  unfolding v2_shape v2_code_len_wrong v2_bytes_not_zero
  v2_is h =
      let cut = pass_tail _ _ _ h in
      let size = pass_tail _ _ _ cut in
      let len = pass_tail _ _ _ size in
      let zero = pass_tail _ _ _ len in
      let c = code_len_inside most_code (code_len_at b at) (or_left _ other (pass_head _ _ _ len)) in
      let some = c.some in
      let whole = c.whole in
      let z = not-false _ (pass_head _ _ _ zero) in
      record {
        magic = magic_stands b at TRZF refl (pass_head _ _ _ h);
        long = ltb-false (length b) (at + 1024) (pass_head _ _ _ cut);
        size = eqb-true (u32_at b (at + 4)) 1024 (not-false _ (pass_head _ _ _ size));
        some = omega arith;
        most = c.most;
        whole = whole;
        zeros = rw (← zeros_at) (and_left _ _ z);
        gap = rw (← gap_at) (and_right (all_are 0 (between (at + 24) (at + 32) b)) _ z);
      }

  pub v2_other : first_failing (v2_shape other b at) ≡ Ok tt → other ≡ false
  unfolding v2_shape v2_code_len_wrong
  v2_other h =
      let len = pass_tail _ _ _ (pass_tail _ _ _ (pass_tail _ _ _ h)) in
      or_right (code_len_outside most_code (code_len_at b at)) other (pass_head _ _ _ len)

  pub v2_passes : V2Header b at → other ≡ false → first_failing (v2_shape other b at) ≡ Ok tt
  unfolding v2_shape v2_code_len_wrong v2_bytes_not_zero
  v2_passes d e =
      let some = d.some in
      sym
      (passes_here _ _ (magic_passes b at TRZF refl d.magic)
      (passes_here _ _ (le-ltb (length b) (at + 1024) d.long)
      (passes_here _ _ (ap (λ (n : ℕ). not (eqb n 1024)) d.size)
      (passes_here _ _ (rw (inside_code_len most_code (code_len_at b at) (omega arith) d.whole d.most, e))
      (passes_here _ _ (rw (zeros_at, gap_at, d.zeros, d.gap)) ends)))))

  -- a good header whose codelen is not what the one in front of it wants
  pub v2_unlinked : V2Header b at → other ≡ true → first_failing (v2_shape other b at) ≡ Err (refusal 12 2)
  unfolding v2_shape v2_code_len_wrong
  v2_unlinked d e =
      let some = d.some in
      sym
      (passes_here _ _ (magic_passes b at TRZF refl d.magic)
      (passes_here _ _ (le-ltb (length b) (at + 1024) d.long)
      (passes_here _ _ (ap (λ (n : ℕ). not (eqb n 1024)) d.size)
      (fails_here _ _ (rw (inside_code_len most_code (code_len_at b at) (omega arith) d.whole d.most, e)) refl))))

  pub v2_magic_missing : (take 4 (drop at b) ≡ TRZF → ⊥) → first_failing (v2_shape other b at) ≡ Err (refusal 10 2)
  unfolding v2_shape
  v2_magic_missing h = sym (fails_here _ _ (magic_missing_lem b at TRZF refl h) refl)

-- ---- the legacy header

module _ (b : List ℕ) where
  pub legacy_magic_missing_lem : (take 4 b ≡ TRZR → ⊥) → first_failing (legacy_shape b) ≡ Err (refusal 1 1)
  unfolding legacy_shape legacy_magic_missing
  legacy_magic_missing_lem h = sym (fails_here _ _ (magic_missing_lem b 0 TRZR refl h) refl)

  legacy_zeros : between 11 64 b ≡ take 53 (drop 11 b)
  legacy_zeros = part_taken b 11 53 11 64 refl refl

  pub legacy_is : first_failing (legacy_shape b) ≡ Ok tt → LegacyHeader b
  unfolding legacy_shape legacy_magic_missing legacy_cut legacy_code_len_wrong legacy_bytes_not_zero
  legacy_is h =
      let cut = pass_tail _ _ _ h in
      let len = pass_tail _ _ _ cut in
      let zero = pass_tail _ _ _ len in
      let l = pass_head _ _ _ len in
      let low = or_left _ (ltb 2096896 (legacy_code_len b)) l in
      record {
        magic = magic_stands b 0 TRZR refl (pass_head _ _ _ h);
        long = ltb-false (length b) 256 (pass_head _ _ _ cut);
        some = ltb-false (u32_at b 4) 1028 (or_right (not (multiple_of 4 (legacy_code_len b))) _ low);
        most = ltb-false 2096896 (u32_at b 4) (or_right (not (multiple_of 4 (legacy_code_len b)) || ltb (legacy_code_len b) 1028) _ l);
        whole = eqb-true (u32_at b 4 % 4) 0 (not-false _ (or_left _ (ltb (legacy_code_len b) 1028) low));
        zeros = rw (← legacy_zeros) (not-false _ (pass_head _ _ _ zero));
      }

  pub legacy_passes : LegacyHeader b → first_failing (legacy_shape b) ≡ Ok tt
  unfolding legacy_shape legacy_magic_missing legacy_cut legacy_code_len_wrong legacy_bytes_not_zero
  legacy_passes d =
      sym
      (passes_here _ _ (magic_passes b 0 TRZR refl d.magic)
      (passes_here _ _ (le-ltb (length b) 256 d.long)
      (passes_here _ _ (rw (d.whole, le-ltb (u32_at b 4) 1028 d.some, le-ltb 2096896 (u32_at b 4) d.most))
      (passes_here _ _ (rw (legacy_zeros, d.zeros)) ends))))

  -- the V2 header's codelen is 1,024 less
  pub linked_is : code_len_other b ≡ false → u32_at b 4 ≡ u32_at b 268 + 1024
  unfolding code_len_other
  linked_is h = sym (eqb-true (u32_at b 268 + 1024) (u32_at b 4) (not-false _ h))

  pub linked_passes : u32_at b 4 ≡ u32_at b 268 + 1024 → code_len_other b ≡ false
  unfolding code_len_other
  linked_passes e = ap not (eq-eqb (u32_at b 268 + 1024) (u32_at b 4) (sym e))

  pub linked_fails : (u32_at b 4 ≡ u32_at b 268 + 1024 → ⊥) → code_len_other b ≡ true
  linked_fails h = go (code_len_other b) refl
    where
      go : (t : Bool) → code_len_other b ≡ t → code_len_other b ≡ true
      go true e = e
      go false e = absurd (h (linked_is e))
