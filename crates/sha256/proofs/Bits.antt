-- The functions on words: Ch and Maj in the forms of the code, one binary digit at a time, and sums that wrap.
-- Assumes nothing.
use Rattle.std.proofs.Common.{◌≡◌, ℕ, zero, suc, ◌+◌, ◌-◌, ◌*◌, ◌/◌, ◌%◌, ◌^◌, ◌<◌, bit_or, w32, sym, refl, subst, ap, ◌∙◌, add-zero, zero-add, zero-mul, pow_pos, pow-suc, div-add-mod', arith}
use Rattle.std.specs.Int.{rotate_right}
use Rattle.std.proofs.lemmas.Nat.{mod-pow-add, mod_low, or_comm, or_shifted, shl-shr, shr_below, xor_comm}
use lib.Bits.{bit_and, bit_xor, and_lt, xor_lt, and_block, xor_block, xor_zero_r}
use Rattle.sha256.specs.Fips180.{rotr, Ch, Maj}

-- ---- one digit more

and_digit : (a b p q : ℕ) → p < 2 → q < 2 → bit_and (a * 2 + p) (b * 2 + q) ≡ bit_and a b * 2 + bit_and p q
and_digit a b p q h g = and_block 1 a b p q h g

xor_digit : (a b p q : ℕ) → p < 2 → q < 2 → bit_xor (a * 2 + p) (b * 2 + q) ≡ bit_xor a b * 2 + bit_xor p q
xor_digit a b p q h g = xor_block 1 a b p q h g

-- what holds of three digits in each of the eight cases
digits : (P : ℕ → ℕ → ℕ → Type 0) → P 0 0 0 → P 0 0 1 → P 0 1 0 → P 0 1 1 → P 1 0 0 → P 1 0 1 → P 1 1 0 → P 1 1 1 → (p q r : ℕ) → p < 2 → q < 2 → r < 2 → P p q r
digits P a b c d e i j k zero zero zero f g h = a
digits P a b c d e i j k zero zero (suc zero) f g h = b
digits P a b c d e i j k zero zero (suc (suc r)) f g h = absurd (omega arith)
digits P a b c d e i j k zero (suc zero) zero f g h = c
digits P a b c d e i j k zero (suc zero) (suc zero) f g h = d
digits P a b c d e i j k zero (suc zero) (suc (suc r)) f g h = absurd (omega arith)
digits P a b c d e i j k zero (suc (suc q)) r f g h = absurd (omega arith)
digits P a b c d e i j k (suc zero) zero zero f g h = e
digits P a b c d e i j k (suc zero) zero (suc zero) f g h = i
digits P a b c d e i j k (suc zero) zero (suc (suc r)) f g h = absurd (omega arith)
digits P a b c d e i j k (suc zero) (suc zero) zero f g h = j
digits P a b c d e i j k (suc zero) (suc zero) (suc zero) f g h = k
digits P a b c d e i j k (suc zero) (suc zero) (suc (suc r)) f g h = absurd (omega arith)
digits P a b c d e i j k (suc zero) (suc (suc q)) r f g h = absurd (omega arith)
digits P a b c d e i j k (suc (suc p)) q r f g h = absurd (omega arith)

-- ---- Ch, where n is the complement of x

abbrev chosen : ℕ → ℕ → ℕ → ℕ
chosen x y z = bit_xor z (bit_and x (bit_xor y z))

abbrev chosen_by : ℕ → ℕ → ℕ → ℕ → ℕ
chosen_by x n y z = bit_xor (bit_and x y) (bit_and n z)

ch_one : (p q r : ℕ) → p < 2 → q < 2 → r < 2 → chosen p q r ≡ chosen_by p (1 - p) q r
ch_one = digits (λ p q r. chosen p q r ≡ chosen_by p (1 - p) q r) refl refl refl refl refl refl refl refl

ch_more : (x n y z p q r : ℕ) → p < 2 → q < 2 → r < 2 → chosen x y z ≡ chosen_by x n y z
    → chosen (x * 2 + p) (y * 2 + q) (z * 2 + r) ≡ chosen_by (x * 2 + p) (n * 2 + (1 - p)) (y * 2 + q) (z * 2 + r)
ch_more x n y z p q r f g h i =
    let m : 1 - p < 2 = omega arith in
    let a = xor_lt 1 q r g h in
    rw (
      xor_digit y z q r g h,
      and_digit x (bit_xor y z) p (bit_xor q r) f a,
      xor_digit z (bit_and x (bit_xor y z)) r (bit_and p (bit_xor q r)) h (and_lt 1 p (bit_xor q r) f a),
      and_digit x y p q f g,
      and_digit n z (1 - p) r m h,
      xor_digit (bit_and x y) (bit_and n z) (bit_and p q) (bit_and (1 - p) r) (and_lt 1 p q f g) (and_lt 1 (1 - p) r m h),
      i,
      ch_one p q r f g h,
    )

ch_wide : (k x n y z : ℕ) → x + n + 1 ≡ 2 ^ k → z < 2 ^ k → chosen x y z ≡ chosen_by x n y z
ch_wide zero x n y z e h =
    let a : x ≡ 0 = omega arith in
    let b : n ≡ 0 = omega arith in
    let c : z ≡ 0 = omega arith in
    rw (a, b, c)
ch_wide (suc k) x n y z e h =
    let w : 2 ^ suc k ≡ 2 ^ k * 2 = pow-suc 2 k in
    let d : n / 2 * 2 + (1 - x % 2) ≡ n = omega arith in
    rw (div-add-mod' x 2, d, div-add-mod' y 2, div-add-mod' z 2) at
    (ch_more (x / 2) (n / 2) (y / 2) (z / 2) (x % 2) (y % 2) (z % 2) (omega arith) (omega arith) (omega arith)
    (ch_wide k (x / 2) (n / 2) (y / 2) (z / 2) (omega arith) (omega arith)))

pub ch_is : (x y z : ℕ) → x < 2 ^ 32 → z < 2 ^ 32 → bit_xor z (bit_and x (bit_xor y z)) ≡ Ch x y z
unfolding Ch
ch_is x y z h g = ch_wide 32 x (2 ^ 32 - 1 - x) y z (omega arith) g

-- ---- Maj

abbrev most : ℕ → ℕ → ℕ → ℕ
most x y z = bit_xor y (bit_and (bit_xor x y) (bit_xor y z))

abbrev most_by : ℕ → ℕ → ℕ → ℕ
most_by x y z = bit_xor (bit_xor (bit_and x y) (bit_and x z)) (bit_and y z)

maj_one : (p q r : ℕ) → p < 2 → q < 2 → r < 2 → most p q r ≡ most_by p q r
maj_one = digits (λ p q r. most p q r ≡ most_by p q r) refl refl refl refl refl refl refl refl

maj_more : (x y z p q r : ℕ) → p < 2 → q < 2 → r < 2 → most x y z ≡ most_by x y z → most (x * 2 + p) (y * 2 + q) (z * 2 + r) ≡ most_by (x * 2 + p) (y * 2 + q) (z * 2 + r)
maj_more x y z p q r f g h i =
    let a = xor_lt 1 p q f g in
    let b = xor_lt 1 q r g h in
    let c = and_lt 1 p q f g in
    let d = and_lt 1 p r f h in
    rw (
      xor_digit x y p q f g,
      xor_digit y z q r g h,
      and_digit (bit_xor x y) (bit_xor y z) (bit_xor p q) (bit_xor q r) a b,
      xor_digit y (bit_and (bit_xor x y) (bit_xor y z)) q (bit_and (bit_xor p q) (bit_xor q r)) g (and_lt 1 (bit_xor p q) (bit_xor q r) a b),
      and_digit x y p q f g,
      and_digit x z p r f h,
      xor_digit (bit_and x y) (bit_and x z) (bit_and p q) (bit_and p r) c d,
      and_digit y z q r g h,
      xor_digit (bit_xor (bit_and x y) (bit_and x z)) (bit_and y z) (bit_xor (bit_and p q) (bit_and p r)) (bit_and q r) (xor_lt 1 (bit_and p q) (bit_and p r) c d) (and_lt 1 q r g h),
      i,
      maj_one p q r f g h,
    )

maj_wide : (k x y z : ℕ) → x < 2 ^ k → y < 2 ^ k → z < 2 ^ k → most x y z ≡ most_by x y z
maj_wide zero x y z f g h =
    let a : x ≡ 0 = omega arith in
    let b : y ≡ 0 = omega arith in
    rw (a, b)
maj_wide (suc k) x y z f g h =
    let w : 2 ^ suc k ≡ 2 ^ k * 2 = pow-suc 2 k in
    rw (div-add-mod' x 2, div-add-mod' y 2, div-add-mod' z 2) at
    (maj_more (x / 2) (y / 2) (z / 2) (x % 2) (y % 2) (z % 2) (omega arith) (omega arith) (omega arith)
    (maj_wide k (x / 2) (y / 2) (z / 2) (omega arith) (omega arith) (omega arith)))

pub maj_is : (x y z : ℕ) → x < 2 ^ 32 → y < 2 ^ 32 → z < 2 ^ 32 → bit_xor y (bit_and (bit_xor x y) (bit_xor y z)) ≡ Maj x y z
unfolding Maj
maj_is x y z f g h = maj_wide 32 x y z f g h

-- ---- rotations

-- bits that lie apart
apart : (k m b : ℕ) → b < 2 ^ k → bit_or b (m * 2 ^ k) ≡ bit_xor b (m * 2 ^ k)
apart k m b h =
    let e : bit_xor (m * 2 ^ k) b ≡ m * 2 ^ k + b = rw (add-zero, zero-mul, zero-add, xor_zero_r) at (xor_block k m 0 0 b (pow_pos k) h) in
    or_comm b (m * 2 ^ k) ∙ or_shifted m k b h ∙ sym e ∙ xor_comm (m * 2 ^ k) b

-- the rotation of std is that of the standard
pub rotated : (n x : ℕ) → 0 < n → n < 32 → x < 2 ^ 32 → rotate_right w32 x n ≡ rotr n x
unfolding rotr
rotated n x f g h =
    let j : ℕ = 32 - n in
    let e : 32 ≡ n + j = omega arith in
    let d : 32 ≡ j + n = omega arith in
    let small : n % 32 ≡ n = omega arith in
    let left : (32 - n) % 32 ≡ 32 - n = omega arith in
    let clear : x * 2 ^ j % 2 ^ j ≡ 0 = ap (λ (y : ℕ). y % 2 ^ j) (sym (add-zero _)) ∙ mod_low x j 0 (pow_pos j) in
    let low : x * 2 ^ j % 2 ^ 32 ≡ x % 2 ^ n * 2 ^ j = ap (λ (i : ℕ). x * 2 ^ j % 2 ^ i) e ∙ mod-pow-add (x * 2 ^ j) n j ∙ rw (shl-shr x j, clear) (add-zero _) in
    let high : x / 2 ^ n < 2 ^ j = shr_below x j n (subst (λ (i : ℕ). x < 2 ^ i) d h) in
    rw (small, left, low) (apart j (x % 2 ^ n) (x / 2 ^ n) high)

-- ---- sums

-- sums of four words, and of five in the order in which the code adds them for T1
pub sum_of_four : (a b c d : ℕ) → (((a + b) % 2 ^ 32 + c) % 2 ^ 32 + d) % 2 ^ 32 ≡ (a + b + c + d) % 2 ^ 32
sum_of_four a b c d = omega arith

pub sum_of_round : (h s c k w : ℕ) → (((h + (k + w) % 2 ^ 32) % 2 ^ 32 + c) % 2 ^ 32 + s) % 2 ^ 32 ≡ (h + s + c + k + w) % 2 ^ 32
sum_of_round h s c k w = sum_of_four h ((k + w) % 2 ^ 32) c s ∙ omega arith
