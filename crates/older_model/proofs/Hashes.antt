-- S23 of the older model: it passes exactly where each hash is the digest of what its chunk holds, or zeros where that is nothing.
-- Assumes nothing.
use Prim.Native.Nat.{ℕ, zero, suc, ◌+◌, ◌-◌, ◌*◌, ◌≤◌, ◌<◌}
use mathlib.Core.Path.{◌≡◌, refl, sym, ap, ◌∙◌}
use mathlib.Core.List.{List, []}
use native.Mathlib.Omega.{arith}
use native.Mathlib.Decide.{dec_le}
use lib.ListN.{length, get_or, take, drop, replicate, length-take, length-drop}
use Rattle.octets.specs.Read.{u32_at, bytes_at, between}
use Rattle.sha256.specs.Fips180.{sha256_of}
use Rattle.header.specs.Table.{first_failing}
use Rattle.std.specs.Prelude.{Ok}
use Rattle.image.specs.Difference.{chunk_of}
use Rattle.image.specs.Chunks.{chunk, hash_of, hash_table_at, code_at, chunk_rows}
use Rattle.image.proofs.Hashes.{start_at, chunk_empty, hash_empty, hash_used, hash_at, chunk_rows_pass, chunk_rows_right}
use Rattle.image.proofs.OneCode.{chunk_at}
use Rattle.image.proofs.Facts.{length_part}
use Rattle.image.proofs.Parts.{part_taken}
use Rattle.older_model.specs.Steps.{first_room}
use Rattle.older_model.specs.Theorems.{chunk_from}

-- chunk number k, counted from 1
chunk_is : (k : ℕ) (code : List ℕ) → chunk first_room k code ≡ chunk_of 1280 (suc k) code
chunk_is k code =
    let e : suc k - 1 ≡ k = omega arith in
    sym (chunk_at first_room 1280 refl (suc k) code (omega arith) ∙ ap (λ (n : ℕ). chunk first_room n code) e)

chunk_used : (k : ℕ) (code : List ℕ) → chunk_from (suc k) < length code → length (chunk_of 1280 (suc k) code) ≡ 0 → ⊥
unfolding between
chunk_used k code h z =
    let t = length-take (131072 * suc k - 1280 - chunk_from (suc k)) (drop (chunk_from (suc k)) code) in
    let d = length-drop (chunk_from (suc k)) code in
    omega arith

pub code_is : (b : List ℕ) (at : ℕ) → code_at b at ≡ take (u32_at b (at + 12)) (drop (at + 1024) b)
code_is b at = part_taken b (at + 1024) (u32_at b (at + 12)) (at + 1024) (at + 1024 + u32_at b (at + 12)) refl refl

module _ (b : List ℕ) (at : ℕ) (held : at + 1024 + u32_at b (at + 12) ≤ length b) where
  abbrev codelen : ℕ
  codelen = u32_at b (at + 12)

  abbrev code : List ℕ
  code = take codelen (drop (at + 1024) b)

  -- a hash as it must be
  abbrev pub Used : ℕ → Type 0
  Used k = chunk_from k < codelen → bytes_at 32 b (at + 32 * k) ≡ sha256_of (chunk_of 1280 k code)

  abbrev pub Unused : ℕ → Type 0
  Unused k = codelen ≤ chunk_from k → bytes_at 32 b (at + 32 * k) ≡ replicate 32 0

  code_long : length (code_at b at) ≡ codelen
  code_long = length_part b (at + 1024) (at + 1024 + codelen) codelen refl held

  -- what the hash of the chunk at k is
  hash_of_used : (k : ℕ) → chunk_from (suc k) < codelen → hash_of sha256_of (chunk first_room k (code_at b at)) ≡ sha256_of (chunk_of 1280 (suc k) code)
  hash_of_used k h =
      let e : chunk first_room k (code_at b at) ≡ chunk_of 1280 (suc k) code = chunk_is k (code_at b at) ∙ ap (chunk_of 1280 (suc k)) (code_is b at) in
      sym (hash_used sha256_of (chunk first_room k (code_at b at)) (λ z. chunk_used k (code_at b at) (let l = code_long in omega arith) (rw (chunk_is k (code_at b at)) at z)) refl) ∙ ap sha256_of e

  hash_of_unused : (k : ℕ) → codelen ≤ chunk_from (suc k) → hash_of sha256_of (chunk first_room k (code_at b at)) ≡ replicate 32 0
  hash_of_unused k h =
      let l = code_long in
      let s = start_at first_room 1280 k refl in
      let e : chunk first_room k (code_at b at) ≡ [] = chunk_empty first_room k (code_at b at) (omega arith) in
      sym (hash_empty sha256_of (chunk first_room k (code_at b at)) (ap length e) refl)

  -- the hash that stands in the header
  stands : (k : ℕ) → k < 16 → get_or (hash_table_at b at) k [] ≡ bytes_at 32 b (at + 32 * suc k)
  stands k h = hash_at 16 b (at + 32) k h ∙ ap (bytes_at 32 b) (omega arith)

  right_hash : first_failing (chunk_rows sha256_of first_room (code_at b at) (hash_table_at b at) 0 16) ≡ Ok tt → (k : ℕ) → k < 16
      → bytes_at 32 b (at + 32 * suc k) ≡ hash_of sha256_of (chunk first_room k (code_at b at))
  right_hash h k l = sym (stands k l) ∙ sym (chunk_rows_right _ _ _ _ 0 16 h k (omega arith) (omega arith))

  pub hashes_used : first_failing (chunk_rows sha256_of first_room (code_at b at) (hash_table_at b at) 0 16) ≡ Ok tt → (k : ℕ) → 1 ≤ k → k ≤ 16 → Used k
  hashes_used h zero g l u = absurd (omega arith)
  hashes_used h (suc k) g l u = right_hash h k (omega arith) ∙ hash_of_used k u

  pub hashes_unused : first_failing (chunk_rows sha256_of first_room (code_at b at) (hash_table_at b at) 0 16) ≡ Ok tt → (k : ℕ) → 1 ≤ k → k ≤ 16 → Unused k
  hashes_unused h zero g l u = absurd (omega arith)
  hashes_unused h (suc k) g l u = right_hash h k (omega arith) ∙ hash_of_unused k u

  pub hashes_pass : ((k : ℕ) → 1 ≤ k → k ≤ 16 → Used k) → ((k : ℕ) → 1 ≤ k → k ≤ 16 → Unused k) → first_failing (chunk_rows sha256_of first_room (code_at b at) (hash_table_at b at) 0 16) ≡ Ok tt
  hashes_pass used unused = chunk_rows_pass _ _ _ _ 0 16 (λ k g l. right k (omega arith))
    where
      right : (k : ℕ) → k < 16 → hash_of sha256_of (chunk first_room k (code_at b at)) ≡ get_or (hash_table_at b at) k []
      right k l =
          elim (dec_le codelen (chunk_from (suc k))) [
            | yes y ↦ hash_of_unused k y ∙ sym (unused (suc k) (omega arith) (omega arith) y) ∙ sym (stands k l)
            | no y ↦ hash_of_used k (omega arith) ∙ sym (used (suc k) (omega arith) (omega arith) (omega arith)) ∙ sym (stands k l)
          ]
