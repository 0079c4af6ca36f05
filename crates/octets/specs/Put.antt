-- Fields written into a list of bytes.
-- Assumes nothing.
use Rattle.std.specs.Prelude.{ℕ, ◌+◌, ◌/◌, ◌%◌, ◌≤◌, ◌≡◌, List, [], ◌∷◌, ◌++◌, length, take, drop, replicate}

-- the bytes of a number, little endian
abbrev pub le16 : ℕ → List ℕ
le16 x = x % 256 ∷ x / 256 % 256 ∷ []

abbrev pub le32 : ℕ → List ℕ
le32 x = x % 256 ∷ x / 256 % 256 ∷ x / 65536 % 256 ∷ x / 16777216 % 256 ∷ []

unfoldable pub zeros : ℕ → List ℕ
zeros n = replicate n 0

-- d with s at an offset
unfoldable pub splice : ℕ → List ℕ → List ℕ → List ℕ
splice at s d = take at d ++ (s ++ drop (at + length s) d)

-- o is d with s written at an offset, where there was room for it; next is the place behind s
pub record Put (at : ℕ) (s d : List ℕ) (next : ℕ) (o : List ℕ) : Type 0 where
  pub room : at + length s ≤ length d
  pub place : next ≡ at + length s
  pub is : o ≡ splice at s d
