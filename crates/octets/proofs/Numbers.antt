-- A number and its bytes, least first: each is told by the other, by one division at a time.
-- Assumes nothing.
use mathlib.Core.Path.{◌≡◌, refl, ◌∙◌}
use mathlib.Core.List.{List, [], ◌∷◌}
use Prim.Native.Nat.{ℕ, ◌+◌, ◌*◌, ◌/◌, ◌%◌, ◌<◌}
use native.Mathlib.Omega.{arith}
use native.Mathlib.Nat.{div-add-mod', add-zero}
use lib.ListN.{length, get_or}
use lib.Seq.{take_all}
use Rattle.std.specs.Int.{to_le_bytes, from_le_bytes, w16, w32}
use Rattle.octets.specs.Read.{u16_at, u32_at, between, bytes_at}
use Rattle.octets.specs.Put.{le16, le32}
use Rattle.octets.proofs.Laws.{bytes_between}

quarter : (x : ℕ) → x / 65536 ≡ x / 256 / 256
quarter x = omega arith

eighth : (x : ℕ) → x / 16777216 ≡ x / 256 / 256 / 256
eighth x = omega arith

-- the number from its bytes

join : (x a y b z c w : ℕ) → y * 256 + a ≡ x → z * 256 + b ≡ y → w * 256 + c ≡ z → a + 256 * b + 65536 * c + 16777216 * w ≡ x
join x a y b z c w e f g = omega arith

top : (x : ℕ) → x < 4294967296 → x / 16777216 % 256 ≡ x / 16777216
top x h = omega arith

pub word_of_lem : (x : ℕ) → x < 4294967296 → x % 256 + 256 * (x / 256 % 256) + 65536 * (x / 65536 % 256) + 16777216 * (x / 16777216 % 256) ≡ x
word_of_lem x h =
    rw (top x h, quarter x, eighth x)
    (join x (x % 256) (x / 256) (x / 256 % 256) (x / 256 / 256) (x / 256 / 256 % 256) (x / 256 / 256 / 256) (div-add-mod' x 256) (div-add-mod' (x / 256) 256) (div-add-mod' (x / 256 / 256) 256))

-- the bytes from the number

low : (a r : ℕ) → a < 256 → (a + 256 * r) % 256 ≡ a
low a r h = omega arith

up : (a r : ℕ) → a < 256 → (a + 256 * r) / 256 ≡ r
up a r h = omega arith

regroup : (a b c d : ℕ) → a + 256 * b + 65536 * c + 16777216 * d ≡ a + 256 * (b + 256 * (c + 256 * d))
regroup a b c d = omega arith

small : (d : ℕ) → d < 256 → d % 256 ≡ d
small d h = omega arith

pub bytes_of : (a b c d : ℕ) → a < 256 → b < 256 → c < 256 → d < 256 → le32 (a + 256 * b + 65536 * c + 16777216 * d) ≡ a ∷ b ∷ c ∷ d ∷ []
bytes_of a b c d ha hb hc hd =
    rw (regroup a b c d, quarter, eighth, up a (b + 256 * (c + 256 * d)) ha, up b (c + 256 * d) hb, up c d hc, low a (b + 256 * (c + 256 * d)) ha, low b (c + 256 * d) hb, low c d hc, small d hd)

-- a word of four bytes is the bytes of its number
pub word_back : (x : List ℕ) → length x ≡ 4 → get_or x 0 0 < 256 → get_or x 1 0 < 256 → get_or x 2 0 < 256 → get_or x 3 0 < 256 → le32 (u32_at x 0) ≡ x
unfolding u32_at bytes_at between
word_back x e a b c d =
    bytes_of (get_or x 0 0) (get_or x 1 0) (get_or x 2 0) (get_or x 3 0) a b c d ∙ bytes_between 4 x 0 (omega arith) ∙ take_all 4 x (omega arith)

pub halves_of : (a b : ℕ) → a < 256 → b < 256 → le16 (a + 256 * b) ≡ a ∷ b ∷ []
halves_of a b ha hb = rw (up a b ha, low a b ha, small b hb)

-- four bytes make a number below 2 ^ 32
pub word_below : (x y z w : ℕ) → x < 256 → y < 256 → z < 256 → w < 256 → x + 256 * y + 65536 * z + 16777216 * w < 4294967296
word_below x y z w hx hy hz hw = omega arith

-- ---- what std says of `to_le_bytes` and `from_le_bytes`

-- the bytes of a number
pub le16_bytes : (x : ℕ) → to_le_bytes w16 x ≡ le16 x
le16_bytes x = refl

pub le32_bytes : (x : ℕ) → to_le_bytes w32 x ≡ le32 x
le32_bytes x = refl

-- the number of bytes
pub u16_from_bytes : (b : List ℕ) → from_le_bytes w16 b ≡ u16_at b 0
unfolding u16_at
u16_from_bytes b = omega arith

pub u32_from_bytes : (b : List ℕ) → from_le_bytes w32 b ≡ u32_at b 0
unfolding u32_at
u32_from_bytes b = omega arith

-- the number of the bytes at an offset
pub u16_from_place : (s : List ℕ) (at : ℕ) → from_le_bytes w16 (bytes_at 2 s at) ≡ u16_at s at
unfolding u16_at bytes_at
u16_from_place s at = rw (add-zero at) (omega arith)

pub u32_from_place : (s : List ℕ) (at : ℕ) → from_le_bytes w32 (bytes_at 4 s at) ≡ u32_at s at
unfolding u32_at bytes_at
u32_from_place s at = rw (add-zero at) (omega arith)
