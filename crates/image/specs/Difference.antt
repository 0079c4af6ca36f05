-- The lowest chunk in which two codes differ, computed from the two, and what is then said of them (specification, 18.1). Chunks count from 1. They
-- are told by how many of the first 131,072 bytes the headers take from chunk 1, and not by the definitions that the check goes by.
-- Assumes nothing.
use Rattle.std.specs.Prelude.{ℕ, zero, suc, ◌-◌, ◌*◌, ◌≤◌, ◌<◌, ◌≡◌, List, Bool, true, false}
use Rattle.octets.specs.Read.{between, same}

-- chunk k of a code: chunk 1 has room for what h bytes leave of 131,072, and each later one for 131,072. The last used may be partial, and those behind
-- it hold nothing
abbrev pub chunk_of : ℕ → ℕ → List ℕ → List ℕ
chunk_of h k code = between (131072 * (k - 1) - h) (131072 * k - h) code

-- none differs; or the lowest chunk that does, and what each of the two holds there
pub data Difference : Type 0 where
  none : Difference
  differs : ℕ → List ℕ → List ℕ → Difference

-- where chunk k is the same in both, what the later chunks give; else chunk k, with the bytes x of the one and y of the other
abbrev pub lowest : Bool → ℕ → List ℕ → List ℕ → Difference → Difference
lowest true k x y later = later
lowest false k x y later = differs k x y

-- of n chunks from k on
unfoldable pub difference_from : ℕ → List ℕ → List ℕ → ℕ → ℕ → Difference
difference_from h code other k zero = none
difference_from h code other k (suc n) =
    lowest (same (chunk_of h k code) (chunk_of h k other)) k (chunk_of h k code) (chunk_of h k other) (difference_from h code other (suc k) n)

-- of all sixteen
abbrev pub difference : ℕ → List ℕ → List ℕ → Difference
difference h code other = difference_from h code other 1 16

-- chunk k, 1 to 16, with the bytes x of the one and y of the other: they differ, and have the same digest. No lower chunk differs
pub record Collision (digest : List ℕ → List ℕ) (h : ℕ) (code other : List ℕ) (k : ℕ) (x y : List ℕ) : Type 0 where
  pub least : 1 ≤ k
  pub most : k ≤ 16
  pub bytes : x ≡ chunk_of h k code
  pub other_bytes : y ≡ chunk_of h k other
  pub differ : x ≡ y → ⊥
  pub digests : digest x ≡ digest y
  pub lower : (j : ℕ) → 1 ≤ j → j < k → chunk_of h j code ≡ chunk_of h j other

-- either no chunk differs, and then Same holds, or the lowest that does is a collision of the digest
abbrev pub SameOrCollision : Type 0 → (List ℕ → List ℕ) → ℕ → List ℕ → List ℕ → Difference → Type 0
SameOrCollision Same digest h code other none = Same
SameOrCollision Same digest h code other (differs k x y) = Collision digest h code other k x y

-- by the lowest chunk in which two codes differ
abbrev pub OneCode : Type 0 → (List ℕ → List ℕ) → ℕ → List ℕ → List ℕ → Type 0
OneCode Same digest h code other = SameOrCollision Same digest h code other (difference h code other)
