-- What stands in a list of bytes. Every reading is total: a byte past the end reads as 0, and a part has as many bytes as there are.
-- Assumes nothing.
use Rattle.std.specs.Prelude.{ℕ, zero, suc, ◌+◌, ◌-◌, ◌*◌, ◌/◌, ◌%◌, ◌^◌, List, [], ◌∷◌, ◌++◌, Bool, true, false, ◌&&◌, get_or, take, drop, leb, eqb}
use Rattle.std.specs.Int.Count.{ones}
use Rattle.octets.specs.declared.Span.{Span}

-- ---- numbers, little endian

unfoldable pub u16_at : List ℕ → ℕ → ℕ
u16_at b at = get_or b at 0 + 256 * get_or b (at + 1) 0

unfoldable pub u32_at : List ℕ → ℕ → ℕ
u32_at b at = get_or b at 0 + 256 * get_or b (at + 1) 0 + 65536 * get_or b (at + 2) 0 + 16777216 * get_or b (at + 3) 0

-- ---- parts

-- the bytes from a up to e, as many of them as there are
unfoldable pub between : ℕ → ℕ → List ℕ → List ℕ
between a e b = take (e - a) (drop a b)

-- the bytes of a span
abbrev pub span_of : Span → List ℕ → List ℕ
span_of s b = between s.from s.to b

-- the n bytes at an offset, with zeros past the end
unfoldable pub bytes_at : ℕ → List ℕ → ℕ → List ℕ
bytes_at zero b at = []
bytes_at (suc n) b at = bytes_at n b at ++ (get_or b (at + n) 0 ∷ [])

-- ---- tests

-- every byte is x
abbrev pub all_are : ℕ → List ℕ → Bool
all_are x [] = true
all_are x (y ∷ ys) = eqb y x && all_are x ys

-- the bytes of a magic stand at the start of b
abbrev pub starts_with : List ℕ → List ℕ → Bool
starts_with [] b = true
starts_with (x ∷ xs) [] = false
starts_with (x ∷ xs) (y ∷ ys) = eqb y x && starts_with xs ys

-- two lists are the same
abbrev pub same : List ℕ → List ℕ → Bool
same [] [] = true
same [] (y ∷ ys) = false
same (x ∷ xs) [] = false
same (x ∷ xs) (y ∷ ys) = eqb x y && same xs ys

-- ---- bits

-- how many bits of a mask are set
unfoldable pub ones_of : ℕ → ℕ
ones_of mask = ones mask

-- a bit of the mask is set at n or higher
unfoldable pub bit_at_or_above : ℕ → ℕ → Bool
bit_at_or_above n mask = leb (2 ^ n) mask

-- bit k is not set
abbrev pub bit_unset : ℕ → ℕ → Bool
bit_unset k x = eqb (x / 2 ^ k % 2) 0
