-- An operation of the flash as a value, the slot once it is made, and the slot if the power is cut in it (specification, 9).
-- Assumes nothing.
use Rattle.std.specs.Prelude.{ℕ, ◌*◌, List, [], ◌∷◌, ◌++◌, Bool, false, cond, take, drop, get_or}
use Rattle.flash.specs.Flash.{first_page_erased, first_page_torn, first_word_stored}
use Rattle.flash.specs.declared.Word.{Word}
use Rattle.flash.specs.declared.Operation.{Operation}
use Rattle.flash.specs.declared.Operation.TheVariants.{Nothing, ErasePage, StoreWord}

-- four bytes as a word, and a word as its bytes
abbrev pub word_of : List ℕ → Word
word_of b = record { b0 = get_or b 0 0; b1 = get_or b 1 0; b2 = get_or b 2 0; b3 = get_or b 3 0 }

abbrev pub bytes_of : Word → List ℕ
bytes_of w = w.b0 ∷ w.b1 ∷ w.b2 ∷ w.b3 ∷ []

-- the slot once the operation is made on the bytes from its place on
abbrev pub performed : Operation → List ℕ → List ℕ
performed Nothing slot = slot
performed (ErasePage p) slot = take (p * 4096) slot ++ first_page_erased (drop (p * 4096) slot)
performed (StoreWord at w) slot = take at slot ++ first_word_stored (bytes_of w) (drop at slot)

-- the slot if the power is cut before the operation is over. A store happens wholly or not at all; an erase leaves each word of its page as it was or
-- erased. Which, is the flash's choice: a store takes its first entry, an erase one for each word
abbrev pub interrupted : List Bool → Operation → List ℕ → List ℕ
interrupted choice Nothing slot = slot
interrupted choice (ErasePage p) slot = take (p * 4096) slot ++ first_page_torn choice (drop (p * 4096) slot)
interrupted choice (StoreWord at w) slot = cond (get_or choice 0 false) (performed (StoreWord at w) slot) slot

-- how many operations of the flash it is
abbrev pub count : Operation → ℕ
count Nothing = 0
count (ErasePage p) = 1
count (StoreWord at w) = 1
