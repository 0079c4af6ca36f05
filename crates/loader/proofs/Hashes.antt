-- S23 of a loader: chunk 1 holds all of the code, and chunks 2 to 16 hold nothing. So it passes exactly where hash 1 is that of the code and the others are zero.
-- Assumes nothing.
use Prim.Native.Nat.{ℕ, zero, suc, ◌+◌, ◌-◌, ◌*◌, ◌≤◌, ◌<◌}
use mathlib.Core.Path.{◌≡◌, refl, sym, ap, ◌∙◌}
use mathlib.Core.List.{List, []}
use native.Mathlib.Omega.{arith}
use lib.ListN.{length, get_or, take, drop, replicate}
use Rattle.std.specs.Prelude.{Ok}
use Rattle.octets.specs.Read.{u32_at, bytes_at}
use Rattle.octets.proofs.Laws.{between_end}
use Rattle.blake2s.specs.Rfc7693.{blake2s_of}
use Rattle.header.specs.Table.{first_failing}
use Rattle.image.specs.Chunks.{chunk_start, chunk, hash_of, hash_table_at, code_at}
use Rattle.image.proofs.Hashes.{start_is, chunk_empty, hash_empty, hash_used, hash_at, chunk_rows_pass, chunk_rows_right}
use Rattle.image.proofs.Facts.{length_part}
use Rattle.image.proofs.Parts.{part_taken}
use Rattle.loader.specs.Check.{most_code, hash_rows}

pub code_is : (b : List ℕ) → code_at b 0 ≡ take (u32_at b 12) (drop 1024 b)
code_is b = part_taken b 1024 (u32_at b 12) 1024 (1024 + u32_at b 12) refl refl

-- the code, where it is held and no longer than chunk 1
module _ (b : List ℕ) (some : 1 ≤ u32_at b 12) (most : u32_at b 12 ≤ 130048) (held : 1024 + u32_at b 12 ≤ length b) where
  code_long : length (code_at b 0) ≡ u32_at b 12
  code_long = length_part b 1024 (1024 + u32_at b 12) (u32_at b 12) refl held

  first_chunk : chunk most_code 0 (code_at b 0) ≡ code_at b 0
  unfolding chunk chunk_start
  first_chunk = let l = code_long in between_end 0 130048 (code_at b 0) (omega arith)

  first_hash : hash_of blake2s_of (chunk most_code 0 (code_at b 0)) ≡ blake2s_of (take (u32_at b 12) (drop 1024 b))
  first_hash =
      let l = code_long in
      ap (hash_of blake2s_of) first_chunk ∙ sym (hash_used blake2s_of (code_at b 0) (λ e. omega arith) refl) ∙ ap blake2s_of (code_is b)

  later_hash : (k : ℕ) → 1 ≤ k → hash_of blake2s_of (chunk most_code k (code_at b 0)) ≡ replicate 32 0
  later_hash zero h = absurd (omega arith)
  later_hash (suc k) h =
      let l = code_long in
      let s = start_is most_code k in
      let e : chunk most_code (suc k) (code_at b 0) ≡ [] = chunk_empty most_code (suc k) (code_at b 0) (omega arith) in
      sym (hash_empty blake2s_of (chunk most_code (suc k) (code_at b 0)) (ap length e) refl)

  -- the hashes that stand in the header
  stands : (k : ℕ) → k < 16 → get_or (hash_table_at b 0) k [] ≡ bytes_at 32 b (32 + 32 * k)
  stands k h = hash_at 16 b 32 k h

  pub hashes_right : first_failing (hash_rows b) ≡ Ok tt → bytes_at 32 b 32 ≡ blake2s_of (take (u32_at b 12) (drop 1024 b))
  unfolding hash_rows
  hashes_right h = sym (stands 0 (omega arith)) ∙ sym (chunk_rows_right _ _ _ _ 0 16 h 0 (omega arith) (omega arith)) ∙ first_hash

  pub hashes_unused : first_failing (hash_rows b) ≡ Ok tt → (k : ℕ) → 2 ≤ k → k ≤ 16 → bytes_at 32 b (32 * k) ≡ replicate 32 0
  unfolding hash_rows
  hashes_unused h k g l =
      let e : 32 * k ≡ 32 + 32 * (k - 1) = omega arith in
      ap (bytes_at 32 b) e
      ∙ sym (stands (k - 1) (omega arith))
      ∙ sym (chunk_rows_right _ _ _ _ 0 16 h (k - 1) (omega arith) (omega arith))
      ∙ later_hash (k - 1) (omega arith)

  pub hashes_pass : bytes_at 32 b 32 ≡ blake2s_of (take (u32_at b 12) (drop 1024 b)) → ((k : ℕ) → 2 ≤ k → k ≤ 16 → bytes_at 32 b (32 * k) ≡ replicate 32 0) → first_failing (hash_rows b) ≡ Ok tt
  unfolding hash_rows
  hashes_pass e f = chunk_rows_pass _ _ _ _ 0 16 right
    where
      right : (i : ℕ) → 0 ≤ i → i < 0 + 16 → hash_of blake2s_of (chunk most_code i (code_at b 0)) ≡ get_or (hash_table_at b 0) i []
      right zero g l = first_hash ∙ sym e ∙ sym (stands 0 (omega arith))
      right (suc i) g l =
          let p : 32 * suc (suc i) ≡ 32 + 32 * suc i = omega arith in
          later_hash (suc i) (omega arith)
          ∙ sym (f (suc (suc i)) (omega arith) (omega arith))
          ∙ ap (bytes_at 32 b) p
          ∙ sym (stands (suc i) (omega arith))
