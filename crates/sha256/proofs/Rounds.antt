-- The rounds by their words, and the schedule by the sixteen words before.
-- Assumes nothing.
use Rattle.std.proofs.Common.{◌≡◌, ℕ, zero, suc, ◌+◌, ◌-◌, ◌*◌, ◌<◌, ◌≤◌, List, [], ◌∷◌, ◌++◌, length, drop, sym, refl, ap, ◌∙◌, append_assoc, append-nil, add-one, arith, length-append, drop_of_length-le, drop-cons, get_or-append-add, drop_at}
use lib.Seq.{drop-append-le}
use Rattle.sha256.specs.Fips180.{at, K, scheduled_word, schedule, round, rounds}
use Rattle.sha256.specs.Words.{two, sixteen_at}

-- ---- rounds

-- no round more
pub none : (v w : List ℕ) → v ≡ rounds v [] w
unfolding rounds
none v w = refl

-- rounds after rounds
rounds_after : (v ks ls ws xs : List ℕ) → length ks ≡ length ws → rounds v (ks ++ ls) (ws ++ xs) ≡ rounds (rounds v ks ws) ls xs
unfolding rounds
rounds_after v [] ls [] xs e = refl
rounds_after v [] ls (x ∷ ws) xs e = absurd (omega arith)
rounds_after v (k ∷ ks) ls [] xs e = absurd (omega arith)
rounds_after v (k ∷ ks) ls (x ∷ ws) xs e = rounds_after (round v k x) ks ls ws xs (omega arith)

-- ---- the schedule

-- the words before a window do not count
window_word : (p u : List ℕ) (j : ℕ) → scheduled_word (p ++ u) (length p + j) ≡ scheduled_word u j
unfolding scheduled_word
window_word p u j =
    let e : (i : ℕ) → at (p ++ u) (length p + j + i) ≡ at u (j + i) = λ i. let z : length p + j + i ≡ length p + (j + i) = omega arith in rw z (get_or-append-add p u (j + i) 0) in
    rw (e 14, e 9, e 1, get_or-append-add p u j 0)

-- the schedule goes on from a window of it as from a block
schedule_window : (m p w : List ℕ) (n j : ℕ) → schedule m n ≡ p ++ w → length p ≡ n → schedule m (n + j) ≡ p ++ schedule w j
unfolding schedule
schedule_window m p w n zero e l = let z : n + 0 ≡ n = omega arith in rw z e
schedule_window m p w n (suc j) e l =
    let z : n + suc j ≡ suc (n + j) = omega arith in
    let i : schedule m (n + j) ≡ p ++ schedule w j = schedule_window m p w n j e l in
    let s : scheduled_word (p ++ schedule w j) (n + j) ≡ scheduled_word (schedule w j) j = rw (← l) (window_word p (schedule w j) j) in
    rw (z, i, s) (append_assoc p (schedule w j) (scheduled_word (schedule w j) j ∷ []))

-- four words more, and their window
window_four : (m p q r s t a : List ℕ) (n : ℕ) → schedule m n ≡ p ++ (q ++ (r ++ (s ++ t))) → length p ≡ n → schedule (q ++ (r ++ (s ++ t))) 4 ≡ (q ++ (r ++ (s ++ t))) ++ a
    → schedule m (n + 4) ≡ (p ++ q) ++ (r ++ (s ++ (t ++ a)))
window_four m p q r s t a n e l f = schedule_window m p (q ++ (r ++ (s ++ t))) n 4 e l ∙ rw f (simp append_assoc)

-- sixteen words more, four at a time
pub sixteen_more : (p q r s a b c d : List ℕ) → length p ≡ 4 → length q ≡ 4 → length r ≡ 4
    → schedule (p ++ (q ++ (r ++ s))) 4 ≡ (p ++ (q ++ (r ++ s))) ++ a
    → schedule (q ++ (r ++ (s ++ a))) 4 ≡ (q ++ (r ++ (s ++ a))) ++ b
    → schedule (r ++ (s ++ (a ++ b))) 4 ≡ (r ++ (s ++ (a ++ b))) ++ c
    → schedule (s ++ (a ++ (b ++ c))) 4 ≡ (s ++ (a ++ (b ++ c))) ++ d
    → schedule (p ++ (q ++ (r ++ s))) 16 ≡ (p ++ (q ++ (r ++ s))) ++ (a ++ (b ++ (c ++ d)))
sixteen_more p q r s a b c d lp lq lr e f g h =
    let m : List ℕ = p ++ (q ++ (r ++ s)) in
    let m4 : schedule m 4 ≡ p ++ (q ++ (r ++ (s ++ a))) = e ∙ simp append_assoc in
    let m8 : schedule m 8 ≡ (p ++ q) ++ (r ++ (s ++ (a ++ b))) = window_four m p q r s a b 4 m4 lp f in
    let l8 : length (p ++ q) ≡ 8 = omega (arith, length-append p q) in
    let m12 : schedule m 12 ≡ ((p ++ q) ++ r) ++ (s ++ (a ++ (b ++ c))) = window_four m (p ++ q) r s a b c 8 m8 l8 g in
    let l12 : length ((p ++ q) ++ r) ≡ 12 = omega (arith, length-append (p ++ q) r) in
    window_four m ((p ++ q) ++ r) s a b c d 12 m12 l12 h ∙ simp append_assoc

-- ---- groups of sixteen rounds

length_schedule : (m : List ℕ) (n : ℕ) → length (schedule m n) ≡ length m + n
unfolding schedule
length_schedule m zero = omega arith
length_schedule m (suc n) = rw (length-append, length_schedule m n) (omega arith)

-- the schedule starts with the words of the block
schedule_starts : (m : List ℕ) (n : ℕ) → length m ≡ 16 → schedule m n ≡ m ++ drop 16 (schedule m n)
unfolding schedule
schedule_starts m zero l = rw (drop_of_length-le m {i = 16} (omega arith), append-nil)
schedule_starts m (suc n) l =
    let g : 16 ≤ length (schedule m n) = omega (arith, length_schedule m n) in
    let x : List ℕ = scheduled_word (schedule m n) n ∷ [] in
    rw (drop-append-le 16 (schedule m n) x g, ← append_assoc m (drop 16 (schedule m n)) x, ← schedule_starts m n l)

drop_two : (k : List ℕ) (t u : ℕ) → t + 2 ≤ length k → u ≡ t + 2 → drop t k ≡ two k t ++ drop u k
drop_two k t u l e =
    let y : t + 2 ≡ suc (t + 1) = omega arith in
    rw (e, y, drop-cons k t 0 (omega arith), ← add-one t, drop-cons k (t + 1) 0 (omega arith))

drop_sixteen : (k : List ℕ) (t : ℕ) → t + 16 ≤ length k → drop t k ≡ sixteen_at k t ++ drop (t + 16) k
drop_sixteen k t l =
    rw (
      drop_two k t (t + 2) (omega arith) refl,
      drop_two k (t + 2) (t + 4) (omega arith) (omega arith),
      drop_two k (t + 4) (t + 6) (omega arith) (omega arith),
      drop_two k (t + 6) (t + 8) (omega arith) (omega arith),
      drop_two k (t + 8) (t + 10) (omega arith) (omega arith),
      drop_two k (t + 10) (t + 12) (omega arith) (omega arith),
      drop_two k (t + 12) (t + 14) (omega arith) (omega arith),
      drop_two k (t + 14) (t + 16) (omega arith) (omega arith),
    )

-- sixteen rounds with the first words of a schedule that is left
pub group : {u : List ℕ} (v k x : List ℕ) (t j : ℕ) → t + 16 ≤ length k → length x ≡ 16 → u ≡ rounds v (sixteen_at k t) x
    → rounds u (drop (t + 16) k) (drop 16 (schedule x j)) ≡ rounds v (drop t k) (schedule x j)
group v k x t j l lx e =
    rw (e, drop_sixteen k t l)
    (sym (rounds_after v (sixteen_at k t) (drop (t + 16) k) x (drop 16 (schedule x j)) (sym lx)) ∙ ap (rounds v (sixteen_at k t ++ drop (t + 16) k)) (sym (schedule_starts x j lx)))

-- sixteen rounds with the words behind a window
pub next_group : {u : List ℕ} (v k w x : List ℕ) (t i j : ℕ) → i ≡ 16 + j → t + 16 ≤ length k → length w ≡ 16 → length x ≡ 16 → schedule w 16 ≡ w ++ x
    → u ≡ rounds v (sixteen_at k t) x
    → rounds u (drop (t + 16) k) (drop 16 (schedule x j)) ≡ rounds v (drop t k) (drop 16 (schedule w i))
next_group v k w x t i j z l lw lx s e =
    let f : drop 16 (schedule w i) ≡ schedule x j = rw (z, schedule_window w w x 16 j s lw) (drop_at w (schedule x j) 16 lw) in
    rw f (group v k x t j l lx e)

pub length_constants : length K ≡ 64
unfolding K
length_constants = refl

-- sixteen rounds with a row of the constants
pub next_row : {u : List ℕ} (v w x r : List ℕ) (i : ℕ) → i < 3 → length w ≡ 16 → length x ≡ 16 → schedule w 16 ≡ w ++ x
    → sixteen_at r 0 ≡ sixteen_at K (16 * i + 16) → u ≡ rounds v (sixteen_at r 0) x
    → rounds u (drop (16 * (i + 1) + 16) K) (drop 16 (schedule x (48 - 16 * (i + 1)))) ≡ rounds v (drop (16 * i + 16) K) (drop 16 (schedule w (48 - 16 * i)))
next_row v w x r i h lw lx s e f =
    let t : 16 * (i + 1) + 16 ≡ 16 * i + 16 + 16 = omega arith in
    rw t (next_group v K w x (16 * i + 16) (48 - 16 * i) (48 - 16 * (i + 1)) (omega arith) (omega (arith, length_constants)) lw lx s (rw e at f))

-- no constant is left
pub last_group : (v k w : List ℕ) (t : ℕ) → length k ≤ t → v ≡ rounds v (drop t k) w
last_group v k w t l = rw (drop_of_length-le k {i = t} l) (none v w)
