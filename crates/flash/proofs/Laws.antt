-- Laws of erased bytes and of a stored word.
-- Assumes nothing.
use mathlib.Core.Path.{◌≡◌, refl, sym, ap, ◌∙◌}
use mathlib.Core.Bool.{Bool, true, false, ◌&&◌}
use mathlib.Core.List.{List, [], ◌∷◌, ◌++◌, append-nil}
use Prim.Native.Nat.{ℕ, ◌+◌, ◌*◌, ◌≤◌, ◌<◌}
use native.Mathlib.Omega.{arith}
use lib.Dec.{eqb}
use lib.ListN.{length, take, drop, replicate, get_or, length-drop, take-append-drop, drop_of_length-le, length-replicate, replicate-append-replicate, get_or-eq_default}
use lib.Seq.{drop-drop, drop-append-add, take_all, length-take-le}
use borrow.Author.Tests.{le-leb, lt-leb}
use Rattle.flash.specs.Flash.{erased_bytes, first_page_erased, first_word_stored, starts_erased}
use Rattle.flash.specs.Operation.{word_of, bytes_of, performed}
use Rattle.flash.specs.declared.Word.{Word}
use Rattle.flash.specs.declared.Operation.TheVariants.{ErasePage, StoreWord}

pub erased_none : (d : List ℕ) → d ≡ erased_bytes 0 ++ drop 0 d
unfolding erased_bytes
erased_none d = refl

pub length_erased : (n : ℕ) → length (erased_bytes n) ≡ n
unfolding erased_bytes
length_erased n = length-replicate n 255

pub erased_append : (n m : ℕ) → erased_bytes n ++ erased_bytes m ≡ erased_bytes (n + m)
unfolding erased_bytes
erased_append n m = replicate-append-replicate n m 255

-- what stands m past a list of length a
pub drop_past : (xs ys : List ℕ) (a m : ℕ) → length xs ≡ a → drop (a + m) (xs ++ ys) ≡ drop m ys
drop_past xs ys a m e = rw (← e) (drop-append-add xs ys m)

-- four erased bytes are an erased word
pub erased_word : (rest : List ℕ) → starts_erased (erased_bytes 4 ++ rest) ≡ true
unfolding erased_bytes
erased_word rest = refl

pub word_erased : (b : List ℕ) → take 4 b ≡ erased_bytes 4 → starts_erased b ≡ true
word_erased b e = ap starts_erased (sym (take-append-drop 4 b) ∙ ap (λ (v : List ℕ). v ++ drop 4 b) e) ∙ erased_word (drop 4 b)

-- a list of four is its four elements
pub four_elements : (w : List ℕ) → length w ≡ 4 → w ≡ get_or w 0 0 ∷ get_or w 1 0 ∷ get_or w 2 0 ∷ get_or w 3 0 ∷ []
four_elements [] e = absurd (omega arith)
four_elements (a ∷ []) e = absurd (omega arith)
four_elements (a ∷ b ∷ []) e = absurd (omega arith)
four_elements (a ∷ b ∷ c ∷ []) e = absurd (omega arith)
four_elements (a ∷ b ∷ c ∷ d ∷ []) e = refl
four_elements (a ∷ b ∷ c ∷ d ∷ x ∷ r) e = absurd (omega arith)

-- ---- where there is a whole page or word, and where there is not

pub page_whole : (b : List ℕ) → 4096 ≤ length b → first_page_erased b ≡ erased_bytes 4096 ++ drop 4096 b
unfolding first_page_erased
page_whole b h = rw (le-leb 4096 (length b) h)

-- a whole page filled with 255, and what stands behind it
pub page_filled : {f : List ℕ} (b : List ℕ) → 4096 ≤ length b → f ≡ replicate (length (take 4096 b)) 255 → f ++ drop 4096 b ≡ first_page_erased b
unfolding erased_bytes
page_filled b h e = rw (page_whole b h, e, length-take-le 4096 b h)

pub page_cut : (b : List ℕ) → length b < 4096 → first_page_erased b ≡ b
unfolding first_page_erased
page_cut b h = rw (lt-leb 4096 (length b) h)

pub word_whole : (w b : List ℕ) → 4 ≤ length b → first_word_stored w b ≡ w ++ drop 4 b
unfolding first_word_stored
word_whole w b h = rw (le-leb 4 (length b) h)

pub word_cut : (w b : List ℕ) → length b < 4 → first_word_stored w b ≡ b
unfolding first_word_stored
word_cut w b h = rw (lt-leb 4 (length b) h)

last_false : (a b c : Bool) → (a && (b && (c && false))) ≡ false
last_false true true true = refl
last_false true true false = refl
last_false true false c = refl
last_false false b c = refl

-- less than a word is not erased
pub cut_not_erased : (b : List ℕ) → length b < 4 → starts_erased b ≡ false
cut_not_erased b h =
    let past : get_or b 3 0 ≡ 0 = get_or-eq_default b 0 (omega arith) in
    rw past (last_false (eqb (get_or b 0 0) 255) (eqb (get_or b 1 0) 255) (eqb (get_or b 2 0) 255))

-- ---- operations that lie in the slot

-- the slot with page p erased
abbrev pub page_erased : ℕ → List ℕ → List ℕ
page_erased p slot = take (p * 4096) slot ++ (erased_bytes 4096 ++ drop (p * 4096 + 4096) slot)

-- the slot with the word w stored at an offset
abbrev pub word_stored : ℕ → List ℕ → List ℕ → List ℕ
word_stored at w slot = take at slot ++ (w ++ drop (at + 4) slot)

pub performed_page : (p : ℕ) (slot : List ℕ) → p * 4096 + 4096 ≤ length slot → performed (ErasePage p) slot ≡ page_erased p slot
performed_page p slot h = rw (page_whole (drop (p * 4096) slot) (omega (arith, length-drop (p * 4096) slot)), drop-drop 4096 (p * 4096) slot)

pub performed_word : (at : ℕ) (w slot : List ℕ) → length w ≡ 4 → at + 4 ≤ length slot → performed (StoreWord at (word_of w)) slot ≡ word_stored at w slot
performed_word at w slot l h =
    rw (word_whole (bytes_of (word_of w)) (drop at slot) (omega (arith, length-drop at slot)), drop-drop 4 at slot)
    (ap (λ (v : List ℕ). take at slot ++ (v ++ drop (at + 4) slot)) (sym (four_elements w l)))

-- ---- operations past the slot's end change nothing

pub page_past : (p : ℕ) (slot : List ℕ) → length slot ≤ p * 4096 → performed (ErasePage p) slot ≡ slot
page_past p slot h = rw (take_all (p * 4096) slot h, drop_of_length-le slot h, page_cut [] (omega arith)) (append-nil slot)

pub word_past : (at : ℕ) (w : Word) (slot : List ℕ) → length slot ≤ at → performed (StoreWord at w) slot ≡ slot
word_past at w slot h = rw (take_all at slot h, drop_of_length-le slot h, word_cut (bytes_of w) [] (omega arith)) (append-nil slot)
