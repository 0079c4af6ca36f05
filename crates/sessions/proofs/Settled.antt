-- A Fill whose operation was made gives the record and the answer that it planned: it never answers Accepted.
-- Assumes nothing.
use Prim.Native.Nat.{ℕ, ◌+◌, ◌%◌}
use mathlib.Core.Path.{◌≡◌, refl}
use mathlib.Core.List.{List}
use mathlib.Core.Bool.{Bool, true, false}
use lib.Dec.{eqb}
use lib.ListN.{length, drop}
use Rattle.flash.specs.Flash.{starts_erased}
use Rattle.sessions.specs.Record.{filling}
use Rattle.sessions.specs.Calls.{turn, turn_of, word_at, in_first_word, filled}
use Rattle.sessions.specs.declared.Session.{Session}

pub fill_settled : (s : Session) (k : ℕ) (w slot : List ℕ) → turn_of (filled s k w slot) ≡ turn (filled s k w slot).session (filled s k w slot).reply
fill_settled s k w slot =
    go (filling s (length slot)) refl (eqb (s.taken % 4 + k) 4) refl (in_first_word s) refl (starts_erased (drop (word_at s) slot)) refl
  where
    go : (a : Bool) → filling s (length slot) ≡ a → (b : Bool) → eqb (s.taken % 4 + k) 4 ≡ b → (c : Bool) → in_first_word s ≡ c
        → (d : Bool) → starts_erased (drop (word_at s) slot) ≡ d
        → turn_of (filled s k w slot) ≡ turn (filled s k w slot).session (filled s k w slot).reply
    go false p b q c r d e = rw p
    go true p false q c r d e = rw (p, q)
    go true p true q true r d e = rw (p, q, r)
    go true p true q false r true e = rw (p, q, r, e)
    go true p true q false r false e = rw (p, q, r, e)
