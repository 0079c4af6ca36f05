-- Loaders that are accepted under the same header: chunk 1 holds all of the code, and the header has its hash.
-- Assumes nothing.
use Prim.Native.Nat.{ℕ, ◌+◌, ◌-◌, ◌*◌, ◌≤◌, ◌<◌}
use mathlib.Core.Path.{◌≡◌, sym, ap, ◌∙◌}
use mathlib.Core.Bool.{Bool}
use mathlib.Core.Logic.{inl, inr}
use mathlib.Core.List.{List}
use native.Mathlib.Omega.{arith}
use lib.ListN.{length, take, drop}
use borrow.Author.Tests.{lt-ltb}
use Rattle.octets.specs.Read.{between}
use Rattle.octets.proofs.Laws.{between_end}
use Rattle.blake2s.specs.Rfc7693.{blake2s_of}
use Rattle.header.proofs.Alike.{same_start_alike, u32_alike, bytes_alike}
use Rattle.image.specs.Difference.{chunk_of, OneCode}
use Rattle.image.specs.declared.Image.{Image}
use Rattle.image.proofs.Difference.{code_long, one_image}
use Rattle.loader.specs.declared.AreaInputs.{AreaInputs}
use Rattle.loader.specs.Theorems.{IsLoader, OneLoaderHeaderOneCode}
use Rattle.loader.proofs.Accepted.{loaders_are_accepted}

-- the only chunk is the whole code
only_chunk : (k : ℕ) (code : List ℕ) → length code ≤ 130048 → 1 ≤ k → 131072 * (k - 1) - 1024 < length code → chunk_of 1024 k code ≡ code
only_chunk k code l g u =
    let e : 131072 * (k - 1) - 1024 ≡ 0 = omega arith in
    ap (λ (a : ℕ). between a (131072 * k - 1024) code) e ∙ between_end 0 (131072 * k - 1024) code (omega arith)

module _ {x y : ℕ} {b c : List ℕ} {given other : AreaInputs} {one two : Bool} {i j : Image} (p : IsLoader x b given one i) (q : IsLoader y c other two j) (same : take 1024 b ≡ take 1024 c) where
  codelen_same : i.codelen ≡ j.codelen
  codelen_same =
      p.codelen ∙ u32_alike (same_start_alike 1024 b c same) 12 (λ k g h. lt-ltb k 1024 (omega arith)) ∙ sym q.codelen

  digest_same : blake2s_of (take i.codelen (drop 1024 b)) ≡ blake2s_of (take j.codelen (drop 1024 c))
  digest_same =
      sym p.hash ∙ bytes_alike (same_start_alike 1024 b c same) 32 32 (λ k g h. lt-ltb k 1024 (omega arith)) ∙ q.hash

  short : {z : ℕ} {s : List ℕ} {with : AreaInputs} {verdict : Bool} {t : Image} → IsLoader z s with verdict t → length (take t.codelen (drop 1024 s)) ≤ 130048
  short {s = s} {t = t} r =
      let l = code_long 1024 t.codelen s r.held in
      let e = r.codelen in
      let m = r.header.most in
      omega arith

  loaders_same : OneCode (take (1024 + i.codelen) b ≡ take (1024 + j.codelen) c) blake2s_of 1024 (take i.codelen (drop 1024 b)) (take j.codelen (drop 1024 c))
  loaders_same =
      let e = codelen_same in
      let m = p.header.most in
      let n = p.codelen in
      let l = code_long 1024 i.codelen b p.held in
      let o = code_long 1024 j.codelen c q.held in
      one_image blake2s_of 1024 1024 i.codelen j.codelen b c _ (λ x. x) same e p.held q.held (omega arith)
      (λ k g f u.
      ap blake2s_of (only_chunk k _ (short p) g (omega arith)) ∙ digest_same ∙ sym (ap blake2s_of (only_chunk k _ (short q) g (omega arith))))

pub one_loader_header_one_code : OneLoaderHeaderOneCode
one_loader_header_one_code b c given other i j (inl h) (inl g) same = loaders_same (loaders_are_accepted.card b given i h) (loaders_are_accepted.card c other j g) same
one_loader_header_one_code b c given other i j (inl h) (inr g) same = loaders_same (loaders_are_accepted.card b given i h) (loaders_are_accepted.internal c other j g) same
one_loader_header_one_code b c given other i j (inr h) (inl g) same = loaders_same (loaders_are_accepted.internal b given i h) (loaders_are_accepted.card c other j g) same
one_loader_header_one_code b c given other i j (inr h) (inr g) same = loaders_same (loaders_are_accepted.internal b given i h) (loaders_are_accepted.internal c other j g) same
