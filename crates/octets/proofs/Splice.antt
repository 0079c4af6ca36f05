-- Laws of the definitions of specs/Put.antt: what a slice holds once a field is written, and fields written one behind the other as one field.
-- Assumes nothing.
use mathlib.Core.Path.{◌≡◌, sym, ap, ◌∙◌}
use mathlib.Core.List.{List, [], ◌∷◌, ◌++◌, append_assoc}
use Prim.Native.Nat.{ℕ, ◌+◌, ◌≤◌, ◌<◌}
use native.Mathlib.Omega.{arith}
use native.Mathlib.Nat.{add-zero}
use native.Mathlib.Numerals.{add-one}
use lib.ListN.{length, set, take, drop, length-append, length-take, length-drop, length-replicate, take-append-drop}
use lib.Seq.{take-length, take_at, drop-drop, paste, set_split, length-take-le, drop-append-add}
use Rattle.octets.specs.Put.{Put, splice, zeros}

-- all bytes pasted
pub splice_paste : (at : ℕ) (s d : List ℕ) → paste d at s (length s) ≡ splice at s d
unfolding splice
splice_paste at s d = rw (take-length s, append_assoc)

-- one byte set
pub splice_one : (at x : ℕ) (d : List ℕ) → at < length d → set d at x ≡ splice at (x ∷ []) d
unfolding splice
splice_one at x d h = rw (set_split d at x h, add-one at)

pub length_zeros : (n : ℕ) → length (zeros n) ≡ n
unfolding zeros
length_zeros n = length-replicate n 0

pub length_splice : (at : ℕ) (s d : List ℕ) → at + length s ≤ length d → length (splice at s d) ≡ length d
unfolding splice
length_splice at s d h = simp (length-append, length-take, length-drop) (omega arith)

-- a field written behind a field is both written as one
pub splice_next : (at : ℕ) (s t d : List ℕ) → at ≤ length d → splice (at + length s) t (splice at s d) ≡ splice at (s ++ t) d
unfolding splice
splice_next at s t d h =
    let p : List ℕ = take at d ++ s in
    let r : List ℕ = drop (at + length s) d in
    let l : length p ≡ at + length s = length-append (take at d) s ∙ ap (λ (k : ℕ). k + length s) (length-take-le at d h) in
    let e : take at d ++ (s ++ r) ≡ p ++ r = sym (append_assoc (take at d) s r) in
    let g : at + length s + length t ≡ at + length (s ++ t) = omega (arith, length-append s t) in
    let f : drop (at + length s + length t) (p ++ r) ≡ drop (at + length (s ++ t)) d =
    ap (λ (k : ℕ). drop (k + length t) (p ++ r)) (sym l) ∙ drop-append-add p r (length t) ∙ drop-drop (length t) (at + length s) d
    ∙ ap (λ (k : ℕ). drop k d) g in
    rw (e, take_at p r (at + length s) l, f, append_assoc, append_assoc)

-- the whole, from the start
pub splice_start : (s d : List ℕ) → splice 0 s d ≡ s ++ drop (length s) d
unfolding splice
splice_start s d = let z : 0 + length s ≡ length s = omega arith in ap (λ (k : ℕ). s ++ drop k d) z

-- nothing written yet
pub none : (at : ℕ) (d : List ℕ) → at ≤ length d → Put at [] d at d
unfolding splice
none at d h = record { room = omega arith; place = omega arith; is = rw (add-zero at) (sym (take-append-drop at d)) }

-- two fields, one behind the other, are one field
pub next : {from a b : ℕ} {s t d o q : List ℕ} → Put from s d a o → Put a t o b q → Put from (s ++ t) d b q
next {from} {a} {b} {s} {t} {d} {o} {q} f g =
    let l : length (s ++ t) ≡ length s + length t = length-append s t in
    let k : length o ≡ length d = ap length f.is ∙ length_splice from s d f.room in
    record {
      room = omega (arith, f.room, g.room, f.place);
      place = omega (arith, g.place, f.place);
      is = g.is ∙ rw (f.is, f.place) (splice_next from s t d (omega (arith, f.room)));
    }
