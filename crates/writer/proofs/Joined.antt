-- A table of hashes one behind the other: hash by hash it is read back from where it stands, and hash by hash it is written again.
-- Assumes nothing.
use mathlib.Core.Path.{◌≡◌, refl, sym, ap, ap₂, ◌∙◌}
use mathlib.Core.List.{List, [], ◌∷◌, ◌++◌, append_assoc, append-nil}
use Prim.Native.Nat.{ℕ, zero, suc, ◌+◌, ◌-◌, ◌*◌, ◌≤◌}
use native.Mathlib.Omega.{arith}
use lib.ListN.{length, length-append}
use Rattle.octets.specs.Read.{between, bytes_at}
use Rattle.octets.proofs.Laws.{between_none, bytes_between}
use Rattle.std.specs.List.{flat_map}
use Rattle.blake2s.specs.Rfc7693.{blake2s_of}
use Rattle.image.specs.Chunks.{chunk, hash_of, hashes_of, hashes_at}
use Rattle.image.proofs.Hashes.{hash_length}
use Rattle.writer.specs.Firmware.{joined}
use Rattle.writer.proofs.Fields.{part_is, part_add}

pub joined_append : (a b : List (List ℕ)) → joined (a ++ b) ≡ joined a ++ joined b
joined_append [] b = refl
joined_append (x ∷ a) b = ap (λ (l : List ℕ). x ++ l) (joined_append a b) ∙ sym (append_assoc x (joined a) (joined b))

-- in std's words
pub joined_flat : (t : List (List ℕ)) → flat_map (λ x. x) t ≡ joined t
joined_flat [] = refl
joined_flat (x ∷ t) = ap (λ (l : List ℕ). x ++ l) (joined_flat t)

-- one hash more at the end
joined_last : (t : List (List ℕ)) (h : List ℕ) → joined (t ++ (h ∷ [])) ≡ joined t ++ h
joined_last t h = joined_append t (h ∷ []) ∙ ap (λ (l : List ℕ). joined t ++ l) (append-nil h)

-- the hashes of n chunks take 32 bytes each
pub length_hashes : (n first : ℕ) (code : List ℕ) → length (joined (hashes_of blake2s_of n first code)) ≡ 32 * n
unfolding hashes_of
length_hashes zero first code = refl
length_hashes (suc n) first code =
    rw (joined_last, length-append, length_hashes n first code, hash_length) (omega arith)

-- where they stand, they are read back
pub hashes_stand : (n first : ℕ) (code before after : List ℕ) (at : ℕ) → length before ≡ at
    → hashes_at n (before ++ (joined (hashes_of blake2s_of n first code) ++ after)) at ≡ hashes_of blake2s_of n first code
unfolding hashes_of hashes_at
hashes_stand zero first code before after at e = refl
hashes_stand (suc n) first code before after at e =
    ap₂ (λ (x : List (List ℕ)) (y : List ℕ). x ++ (y ∷ []))
    (ap (λ (l : List ℕ). hashes_at n l at) apart ∙ hashes_stand n first code before (h ++ after) at e)
    (bytes_between 32 _ (at + 32 * n) long
    ∙ ap (between (at + 32 * n) (at + 32 * n + 32)) (apart ∙ sym (append_assoc before (joined (hashes_of blake2s_of n first code)) (h ++ after)))
    ∙ part_is (before ++ joined (hashes_of blake2s_of n first code)) h after (at + 32 * n) (at + 32 * n + 32) place (hash_length _ ∙ sym (past (at + 32 * n))))
  where
    h : List ℕ
    h = hash_of blake2s_of (chunk first n code)

    whole : List ℕ
    whole = before ++ (joined (hashes_of blake2s_of n first code ++ (h ∷ [])) ++ after)

    apart : whole ≡ before ++ (joined (hashes_of blake2s_of n first code) ++ (h ++ after))
    apart = ap (λ (l : List ℕ). before ++ l) (ap (λ (l : List ℕ). l ++ after) (joined_last (hashes_of blake2s_of n first code) h) ∙ append_assoc (joined (hashes_of blake2s_of n first code)) h after)

    place : length (before ++ joined (hashes_of blake2s_of n first code)) ≡ at + 32 * n
    place = rw (length-append, length_hashes n first code, e)

    long : at + 32 * n + 32 ≤ length whole
    long = rw apart (simp (length-append, length_hashes n first code, hash_length, e) (omega arith))

    past : (x : ℕ) → x + 32 - x ≡ 32
    past x = omega arith

-- a table that stands at an offset, joined, is the bytes from there on
pub joined_at : (n : ℕ) (b : List ℕ) (at : ℕ) → at + 32 * n ≤ length b → joined (hashes_at n b at) ≡ between at (at + 32 * n) b
unfolding hashes_at
joined_at zero b at l = sym (between_none at (at + 0) b (omega arith))
joined_at (suc n) b at l =
    let e : at + 32 * n + 32 ≡ at + 32 * suc n = omega arith in
    joined_last (hashes_at n b at) (bytes_at 32 b (at + 32 * n))
    ∙ ap₂ (λ (x y : List ℕ). x ++ y) (joined_at n b at (omega arith)) (bytes_between 32 b (at + 32 * n) (omega arith))
    ∙ part_add b at (at + 32 * n) (at + 32 * n + 32) (omega arith) (omega arith)
    ∙ ap (λ (i : ℕ). between at i b) e
