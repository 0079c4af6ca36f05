-- Laws of a part of the slot that is lent from some place on, and comes back changed; and of a piece that is a whole word.
-- Assumes nothing.
use Rattle.std.proofs.Common.{◌≡◌, ℕ, ◌+◌, ◌-◌, ◌≤◌, List, ◌++◌, length, take, drop, sym, ◌∙◌, arith, length-drop}
use mathlib.Core.List.{append-nil}
use Rattle.std.proofs.Math.ListN.{drop_of_length-le}
use Rattle.std.proofs.Math.Seq.{take_all, paste}
use Rattle.octets.specs.Read.{between, bytes_at}
use Rattle.octets.proofs.Laws.{bytes_between}

-- a part lent from a place on is what stands from there on
pub part_whole : (a : ℕ) (slot : List ℕ) → take (length slot - a) (drop a slot) ≡ drop a slot
part_whole a slot = take_all (length slot - a) (drop a slot) (omega (arith, length-drop a slot))

-- where it comes back as new bytes, they stand behind what was not lent
pub part_back : (a : ℕ) (slot back new : List ℕ) → back ≡ new → take a slot ++ (back ++ drop (length slot - a) (drop a slot)) ≡ take a slot ++ new
part_back a slot back new e =
    let l : length (drop a slot) ≤ length slot - a = omega (arith, length-drop a slot) in
    rw (e, drop_of_length-le (drop a slot) l, append-nil)

-- four bytes of a piece in a word of four are the word
pub whole_word : (word : List ℕ) (got : ℕ) (piece : List ℕ) (k : ℕ) → length word ≡ 4 → k ≡ 4 → got + k ≤ 4 → k ≤ length piece
    → bytes_at 4 piece 0 ≡ paste word got piece k
unfolding between
whole_word word got piece k long four fits most =
    let most_word : length word ≤ 4 = omega arith in
    let from : got ≡ 0 = omega arith in
    rw (four, from) (bytes_between 4 piece 0 (omega arith) ∙ sym (rw (drop_of_length-le word most_word) (append-nil _)))
