-- G by its steps, and the half rounds by the words that each G changes. On a vector of sixteen words both sides compute to the same list.
-- Assumes nothing.
use Rattle.std.proofs.Common.{◌≡◌, ℕ, ◌+◌, ◌-◌, ◌*◌, ◌/◌, ◌%◌, ◌^◌, ◌<◌, List, [], ◌∷◌, set, sym, refl, ap, ◌∙◌, add-zero, pow_pos, arith}
use Rattle.std.proofs.lemmas.Nat.{mod-pow-add, mod_low, shl-shr, shr_below, xor_comm, xor_lt}
use Rattle.std.specs.Int.{w32, rotate_right}
use lib.Bits.{bit_xor, or_shifted_r, xor_shifted}
use Rattle.blake2s.specs.Rfc7693.{at, plus, rotr, G, columns, diagonals}

-- x rotated to the right by n bits. The definition joins the two parts by xor and the standard library by or: no bit is in both
pub rotated : (x n : ℕ) → 0 < n → n < 32 → x < 2 ^ 32 → rotate_right w32 x n ≡ rotr x n
unfolding rotr
rotated x n p q fits =
    let j : ℕ = 32 - n in
    let e : 32 ≡ n + j = omega arith in
    let m : n % 32 ≡ n = omega arith in
    let k : j % 32 ≡ j = omega arith in
    let clear : x * 2 ^ j % 2 ^ j ≡ 0 = ap (λ (y : ℕ). y % 2 ^ j) (sym (add-zero _)) ∙ mod_low x j 0 (pow_pos j) in
    let high : x * 2 ^ j % 2 ^ 32 ≡ x % 2 ^ n * 2 ^ j = ap (λ (i : ℕ). x * 2 ^ j % 2 ^ i) e ∙ mod-pow-add (x * 2 ^ j) n j ∙ rw (shl-shr x j, clear) (add-zero _) in
    let low : x / 2 ^ n < 2 ^ j = shr_below x j n (let z : j + n ≡ 32 = omega arith in rw z fits) in
    rw (m, k, high) (or_shifted_r (x % 2 ^ n) j (x / 2 ^ n) low ∙ sym (xor_comm (x / 2 ^ n) (x % 2 ^ n * 2 ^ j) ∙ xor_shifted (x % 2 ^ n) j (x / 2 ^ n) low))

-- two words by xor, rotated
turned : (x y n : ℕ) → 0 < n → n < 32 → x < 2 ^ 32 → y < 2 ^ 32 → rotate_right w32 (bit_xor x y) n ≡ rotr (bit_xor x y) n
turned x y n p q f g = rotated (bit_xor x y) n p q (xor_lt 32 x y f g)

-- the sum of three words
summed : (a b c : ℕ) → plus (plus a b) c ≡ plus (a + b) c
summed a b c = omega arith

-- the eight steps of G, each by what it gives
pub stepped : {a1 d1 c1 b1 a2 d2 c2 b2 : ℕ} (a b c d x y : ℕ) → a1 ≡ plus (plus a b) x → d1 ≡ rotr (bit_xor d a1) 16 → c1 ≡ plus c d1 → b1 ≡ rotr (bit_xor b c1) 12
    → a2 ≡ plus (plus a1 b1) y → d2 ≡ rotr (bit_xor d1 a2) 8 → c2 ≡ plus c1 d2 → b2 ≡ rotr (bit_xor b1 c2) 7
    → (a2 ∷ b2 ∷ c2 ∷ d2 ∷ []) ≡ G (a ∷ b ∷ c ∷ d ∷ []) 0 1 2 3 x y
unfolding G
stepped a b c d x y s1 s2 s3 s4 s5 s6 s7 s8 = rw (s8, s7, s6, s5 ∙ summed _ _ _, s4, s3, s2, s1 ∙ summed a b x)

-- the steps on words, with the standard library's rotations
pub steps : {d1 b1 d2 b2 : ℕ} (a b c d x y : ℕ) → b < 2 ^ 32 → d < 2 ^ 32
    → d1 < 2 ^ 32 → d1 ≡ rotate_right w32 (bit_xor d (plus (plus a b) x)) 16
    → b1 < 2 ^ 32 → b1 ≡ rotate_right w32 (bit_xor b (plus c d1)) 12
    → d2 ≡ rotate_right w32 (bit_xor d1 (plus (plus (plus (plus a b) x) b1) y)) 8
    → b2 ≡ rotate_right w32 (bit_xor b1 (plus (plus c d1) d2)) 7
    → (plus (plus (plus (plus a b) x) b1) y ∷ b2 ∷ plus (plus c d1) d2 ∷ d2 ∷ []) ≡ G (a ∷ b ∷ c ∷ d ∷ []) 0 1 2 3 x y
steps {d1 = d1} {b1 = b1} a b c d x y fb fd f1 s1 g1 s2 s3 s4 =
    stepped a b c d x y
    refl (s1 ∙ turned d _ 16 (omega arith) (omega arith) fd (omega arith))
    refl (s2 ∙ turned b _ 12 (omega arith) (omega arith) fb (omega arith))
    refl (s3 ∙ turned d1 _ 8 (omega arith) (omega arith) f1 (omega arith))
    refl (s4 ∙ turned b1 _ 7 (omega arith) (omega arith) g1 (omega arith))

-- G on words that are given by others
pub handed : {l : List ℕ} {a b c d x y a1 b1 c1 d1 x1 y1 : ℕ} → a1 ≡ a → b1 ≡ b → c1 ≡ c → d1 ≡ d → x1 ≡ x → y1 ≡ y → l ≡ G (a1 ∷ b1 ∷ c1 ∷ d1 ∷ []) 0 1 2 3 x1 y1
    → l ≡ G (a ∷ b ∷ c ∷ d ∷ []) 0 1 2 3 x y
handed p q r s t u e = rw (p, q, r, s, t, u) at e

-- v with G's four words at a, b, c, d, as the code's g and g3 make them
unfoldable pub mixed : List ℕ → ℕ → ℕ → ℕ → ℕ → ℕ → ℕ → List ℕ
mixed v a b c d x y =
    let q : List ℕ = G (at v a ∷ at v b ∷ at v c ∷ at v d ∷ []) 0 1 2 3 x y in
    set (set (set (set v a (at q 0)) b (at q 1)) c (at q 2)) d (at q 3)

-- the columns by their mixed words
unfoldable pub columns_mixed : List ℕ → ℕ → ℕ → ℕ → ℕ → ℕ → ℕ → ℕ → ℕ → List ℕ
columns_mixed v x0 x1 x2 x3 x4 x5 x6 x7 =
    mixed (mixed (mixed (mixed v 0 4 8 12 x0 x1) 1 5 9 13 x2 x3) 2 6 10 14 x4 x5) 3 7 11 15 x6 x7

pub columns_met : {r : List ℕ} (v0 v1 v2 v3 v4 v5 v6 v7 v8 v9 v10 v11 v12 v13 v14 v15 x0 x1 x2 x3 x4 x5 x6 x7 : ℕ)
    → r ≡ columns_mixed (v0 ∷ v1 ∷ v2 ∷ v3 ∷ v4 ∷ v5 ∷ v6 ∷ v7 ∷ v8 ∷ v9 ∷ v10 ∷ v11 ∷ v12 ∷ v13 ∷ v14 ∷ v15 ∷ []) x0 x1 x2 x3 x4 x5 x6 x7
    → r ≡ columns (v0 ∷ v1 ∷ v2 ∷ v3 ∷ v4 ∷ v5 ∷ v6 ∷ v7 ∷ v8 ∷ v9 ∷ v10 ∷ v11 ∷ v12 ∷ v13 ∷ v14 ∷ v15 ∷ []) x0 x1 x2 x3 x4 x5 x6 x7
unfolding columns_mixed mixed columns G
columns_met v0 v1 v2 v3 v4 v5 v6 v7 v8 v9 v10 v11 v12 v13 v14 v15 x0 x1 x2 x3 x4 x5 x6 x7 e = e

-- the diagonals by their mixed words
unfoldable pub diagonals_mixed : List ℕ → ℕ → ℕ → ℕ → ℕ → ℕ → ℕ → ℕ → ℕ → List ℕ
diagonals_mixed v x0 x1 x2 x3 x4 x5 x6 x7 =
    mixed (mixed (mixed (mixed v 0 5 10 15 x0 x1) 1 6 11 12 x2 x3) 2 7 8 13 x4 x5) 3 4 9 14 x6 x7

pub diagonals_met : {r : List ℕ} (v0 v1 v2 v3 v4 v5 v6 v7 v8 v9 v10 v11 v12 v13 v14 v15 x0 x1 x2 x3 x4 x5 x6 x7 : ℕ)
    → r ≡ diagonals_mixed (v0 ∷ v1 ∷ v2 ∷ v3 ∷ v4 ∷ v5 ∷ v6 ∷ v7 ∷ v8 ∷ v9 ∷ v10 ∷ v11 ∷ v12 ∷ v13 ∷ v14 ∷ v15 ∷ []) x0 x1 x2 x3 x4 x5 x6 x7
    → r ≡ diagonals (v0 ∷ v1 ∷ v2 ∷ v3 ∷ v4 ∷ v5 ∷ v6 ∷ v7 ∷ v8 ∷ v9 ∷ v10 ∷ v11 ∷ v12 ∷ v13 ∷ v14 ∷ v15 ∷ []) x0 x1 x2 x3 x4 x5 x6 x7
unfolding diagonals_mixed mixed diagonals G
diagonals_met v0 v1 v2 v3 v4 v5 v6 v7 v8 v9 v10 v11 v12 v13 v14 v15 x0 x1 x2 x3 x4 x5 x6 x7 e = e
