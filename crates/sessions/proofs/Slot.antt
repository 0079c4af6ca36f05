-- The slot while pages are erased and while a file is filled in: which bytes it holds when the bytes g were given.
-- Assumes nothing.
use mathlib.Core.Path.{◌≡◌, refl, sym, ap, ◌∙◌}
use mathlib.Core.List.{List, [], ◌∷◌, ◌++◌, append_assoc, append-nil}
use mathlib.Core.Bool.{true}
use mathlib.Core.Logic.{◌⊎◌, inl, inr}
use Prim.Native.Nat.{ℕ, zero, suc, ◌+◌, ◌-◌, ◌*◌, ◌%◌, ◌≤◌, max}
use native.Mathlib.Omega.{arith}
use lib.ListN.{length, take, drop, length-append, length-take, length-drop, take-append-drop, drop_of_length-le}
use lib.Seq.{take_at, drop_at, drop-drop, drop-length, take_all, take-append-le, drop-append-le}
use borrow.Author.Tests.{eq-eqb}
use Rattle.octets.specs.Read.{starts_with}
use Rattle.flash.specs.Flash.{erased_bytes, starts_erased}
use Rattle.flash.proofs.Laws.{length_erased, erased_none, erased_append, drop_past, erased_word, page_erased, word_stored}
use Rattle.sessions.specs.Record.{no_word}
use Rattle.sessions.specs.Run.{invalidated, pages_erased, whole_words, holding}

pub erased_split : (k n : ℕ) → k ≤ n → erased_bytes n ≡ erased_bytes k ++ erased_bytes (n - k)
erased_split k n h = let e : n ≡ k + (n - k) = omega arith in ap erased_bytes e ∙ sym (erased_append k (n - k))

pub drop_erased : (k n : ℕ) → k ≤ n → drop k (erased_bytes n) ≡ erased_bytes (n - k)
drop_erased k n h = rw (erased_split k n h) (drop_at (erased_bytes k) (erased_bytes (n - k)) k (length_erased k))

pub erased_starts : (n : ℕ) → 4 ≤ n → starts_erased (erased_bytes n) ≡ true
erased_starts n h = ap starts_erased (erased_split 4 n h) ∙ erased_word (erased_bytes (n - 4))

-- ---- zero in word 0

pub invalidated_first : (found : List ℕ) → take 4 (invalidated found) ≡ no_word
unfolding invalidated
invalidated_first found = refl

pub length_invalidated : (found : List ℕ) → 4 ≤ length found → length (invalidated found) ≡ length found
unfolding invalidated
length_invalidated found h = simp length-drop (omega arith)

pub zero_stored : (found : List ℕ) → word_stored 0 no_word found ≡ invalidated found
unfolding invalidated
zero_stored found = refl

-- ---- pages erased

pub no_page : (found : List ℕ) → pages_erased 0 found ≡ found
unfolding pages_erased
no_page found = sym (erased_none found)

pub length_pages : (p : ℕ) (found : List ℕ) → p * 4096 ≤ length found → length (pages_erased p found) ≡ length found
unfolding pages_erased
length_pages p found h = simp (length-append, length_erased, length-drop) (omega arith)

-- the first word is erased with the first page
pub pages_first : (p : ℕ) (found : List ℕ) → 4 ≤ p * 4096 → take 4 (pages_erased p found) ≡ erased_bytes 4
unfolding pages_erased
pages_first p found h =
    rw (erased_split 4 (p * 4096) h, append_assoc (erased_bytes 4) (erased_bytes (p * 4096 - 4)) (drop (p * 4096) found))
    (take_at (erased_bytes 4) (erased_bytes (p * 4096 - 4) ++ drop (p * 4096) found) 4 (length_erased 4))

-- the first word is zero before it, and erased from then on
pub pages_hidden : (p : ℕ) (found : List ℕ) → (take 4 (pages_erased p (invalidated found)) ≡ erased_bytes 4) ⊎ (take 4 (pages_erased p (invalidated found)) ≡ no_word)
pages_hidden zero found = inr (ap (take 4) (no_page (invalidated found)) ∙ invalidated_first found)
pages_hidden (suc p) found = inl (pages_first (suc p) (invalidated found) (omega arith))

-- page p makes them p + 1
pub page_more : (p : ℕ) (found : List ℕ) → page_erased p (pages_erased p found) ≡ pages_erased (p + 1) found
unfolding pages_erased
page_more p found =
    let e : (p + 1) * 4096 ≡ p * 4096 + 4096 = omega arith in
    rw (
      e,
      take_at (erased_bytes (p * 4096)) (drop (p * 4096) found) (p * 4096) (length_erased (p * 4096)),
      drop_past (erased_bytes (p * 4096)) (drop (p * 4096) found) (p * 4096) 4096 (length_erased (p * 4096)),
      drop-drop 4096 (p * 4096) found,
      ← erased_append (p * 4096) 4096,
    )
    (sym (append_assoc (erased_bytes (p * 4096)) (erased_bytes 4096) (drop (p * 4096 + 4096) found)))

-- with the last page every byte is erased
pub pages_all : (p : ℕ) (found : List ℕ) → p * 4096 ≡ length found → pages_erased p found ≡ erased_bytes (length found)
unfolding pages_erased
pages_all p found h = rw (h, drop-length found) (append-nil (erased_bytes (length found)))

-- ---- words stored

pub holding_first : (g : List ℕ) (n : ℕ) → take 4 (holding g n) ≡ erased_bytes 4
unfolding holding
holding_first g n = take_at (erased_bytes 4) _ 4 (length_erased 4)

pub length_holding : (g : List ℕ) (n : ℕ) → 4 ≤ n → whole_words g ≤ n → length (holding g n) ≡ n
unfolding holding
length_holding g n h l = simp (length-append, length_erased, length-drop, length-take) (omega arith)

-- while the first word is not past, the slot is erased
holding_early : (g : List ℕ) (n : ℕ) → whole_words g ≤ 4 → holding g n ≡ erased_bytes 4 ++ erased_bytes (n - 4)
unfolding holding
holding_early g n h =
    let l : length (take (whole_words g) g) ≤ 4 = omega (arith, length-take (whole_words g) g) in
    let e : max 4 (whole_words g) ≡ 4 = omega arith in
    rw (drop_of_length-le (take (whole_words g) g) l, e)

pub holding_none : (n : ℕ) → 4 ≤ n → holding [] n ≡ erased_bytes n
holding_none n h = holding_early [] n (omega arith) ∙ sym (erased_split 4 n h)

-- word 0 in progress or complete: nothing is stored
pub holding_opening : (g b : List ℕ) (n : ℕ) → whole_words g ≤ 4 → whole_words (g ++ b) ≤ 4 → holding g n ≡ holding (g ++ b) n
holding_opening g b n h k = holding_early g n h ∙ sym (holding_early (g ++ b) n k)

-- no further word is complete: nothing is stored
pub holding_kept : (g b : List ℕ) (n : ℕ) → whole_words (g ++ b) ≡ whole_words g → holding g n ≡ holding (g ++ b) n
unfolding holding
holding_kept g b n e = rw (e, take-append-le (whole_words g) g b (omega arith))

-- the bytes stored once the first word is past, word 0 erased
head : List ℕ → List ℕ
head g = erased_bytes 4 ++ drop 4 (take (whole_words g) g)

length_head : (g : List ℕ) → 4 ≤ length g → length (head g) ≡ whole_words g
unfolding head
length_head g h = simp (length-append, length_erased, length-drop, length-take) (omega arith)

holding_split : (g : List ℕ) (n : ℕ) → 4 ≤ length g → holding g n ≡ head g ++ erased_bytes (n - whole_words g)
unfolding holding head
holding_split g n h =
    let e : max 4 (whole_words g) ≡ whole_words g = omega arith in
    rw e (sym (append_assoc (erased_bytes 4) (drop 4 (take (whole_words g) g)) (erased_bytes (n - whole_words g))))

-- the place of the word in progress is erased
pub holding_free : (g : List ℕ) (n : ℕ) → 4 ≤ length g → whole_words g + 4 ≤ n → starts_erased (drop (whole_words g) (holding g n)) ≡ true
holding_free g n h l =
    rw (holding_split g n h, drop_at (head g) (erased_bytes (n - whole_words g)) (whole_words g) (length_head g h)) (erased_starts (n - whole_words g) (omega arith))

head_more : (g b : List ℕ) → 4 ≤ length g → length (g ++ b) ≡ whole_words g + 4 → head (g ++ b) ≡ head g ++ (drop (whole_words g) g ++ b)
unfolding head
head_more g b h e =
    let w : whole_words (g ++ b) ≡ length (g ++ b) = omega arith in
    let s : g ++ b ≡ take (whole_words g) g ++ (drop (whole_words g) g ++ b) = ap (λ (v : List ℕ). v ++ b) (sym (take-append-drop (whole_words g) g)) ∙ append_assoc (take (whole_words g) g) (drop (whole_words g) g) b in
    let l : 4 ≤ length (take (whole_words g) g) = omega (arith, length-take (whole_words g) g) in
    ap (λ (v : List ℕ). erased_bytes 4 ++ drop 4 v) (ap (λ (k : ℕ). take k (g ++ b)) w ∙ take_all (length (g ++ b)) (g ++ b) (omega arith) ∙ s)
    ∙ ap (λ (v : List ℕ). erased_bytes 4 ++ v) (drop-append-le 4 (take (whole_words g) g) (drop (whole_words g) g ++ b) l)
    ∙ sym (append_assoc (erased_bytes 4) (drop 4 (take (whole_words g) g)) (drop (whole_words g) g ++ b))

-- a completed word is stored at its place
pub holding_stored : (g b : List ℕ) (n : ℕ) → 4 ≤ length g → length (g ++ b) ≡ whole_words g + 4 → whole_words g + 4 ≤ n
    → word_stored (whole_words g) (drop (whole_words g) g ++ b) (holding g n) ≡ holding (g ++ b) n
holding_stored g b n h e l =
    let w : whole_words (g ++ b) ≡ whole_words g + 4 = omega arith in
    let k : n - whole_words g - 4 ≡ n - (whole_words g + 4) = omega arith in
    let j : 4 ≤ length (g ++ b) = omega arith in
    rw (
      holding_split g n h,
      holding_split (g ++ b) n j,
      head_more g b h e,
      w,
      take_at (head g) (erased_bytes (n - whole_words g)) (whole_words g) (length_head g h),
      drop_past (head g) (erased_bytes (n - whole_words g)) (whole_words g) 4 (length_head g h),
      drop_erased 4 (n - whole_words g) (omega arith),
      k,
    )
    (sym (append_assoc (head g) (drop (whole_words g) g ++ b) (erased_bytes (n - (whole_words g + 4)))))

-- all bytes given: what close checks is the file, and with word 0 stored the slot holds it
module _ (g : List ℕ) (n : ℕ) (h : 4 ≤ length g) (m : length g % 4 ≡ 0) where
  all_words : take (whole_words g) g ≡ g
  all_words = take_all (whole_words g) g (omega arith)

  pub holding_file : take 4 g ++ drop 4 (take (length g) (holding g n)) ≡ g
  unfolding head
  holding_file =
      let w : length (head g) ≡ length g = length_head g h ∙ omega arith in
      rw (holding_split g n h, take_at (head g) (erased_bytes (n - whole_words g)) (length g) w, drop_at (erased_bytes 4) (drop 4 (take (whole_words g) g)) 4 (length_erased 4), all_words)
      (take-append-drop 4 g)

  pub holding_landed : take 4 g ++ drop 4 (holding g n) ≡ g ++ erased_bytes (n - length g)
  unfolding holding
  holding_landed =
      let e : max 4 (whole_words g) ≡ length g = omega arith in
      rw (drop_at (erased_bytes 4) (drop 4 (take (whole_words g) g) ++ erased_bytes (n - max 4 (whole_words g))) 4 (length_erased 4), all_words, e)
      (sym (append_assoc (take 4 g) (drop 4 g) (erased_bytes (n - length g))) ∙ ap (λ (v : List ℕ). v ++ erased_bytes (n - length g)) (take-append-drop 4 g))

-- ---- a slot starts with the first word of what it holds

starts_same : (w rest : List ℕ) → starts_with w (w ++ rest) ≡ true
starts_same [] rest = refl
starts_same (x ∷ w) rest = rw (eq-eqb x x refl) (starts_same w rest)

pub starts_own : (g rest : List ℕ) → 4 ≤ length g → starts_with (take 4 g) (g ++ rest) ≡ true
starts_own g rest h =
    ap (λ (l : List ℕ). starts_with (take 4 g) (l ++ rest)) (sym (take-append-drop 4 g))
    ∙ ap (starts_with (take 4 g)) (append_assoc (take 4 g) (drop 4 g) rest)
    ∙ starts_same (take 4 g) (drop 4 g ++ rest)
