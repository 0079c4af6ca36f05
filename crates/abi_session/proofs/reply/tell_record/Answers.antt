-- By the test: after the installer's own refusal no word was written, and else the words are the promise of `words_over`.
use Prim.Native.Nat.{ℕ}
use mathlib.Core.Path.{sym, ap, ◌∙◌}
use mathlib.Core.List.{List}
use lib.ListN.{get_or}
use Rattle.abi_session.proofs.reply.tell_record.Goals as goal

pub returns-then-own_refusal : goal.returns-then-own_refusal
returns-then-own_refusal c =
    let e = sym c.own_refusal.ensures ∙ c.if-own_refusal.true in
    record { value = ap (λ (x : List ℕ). get_or x 0 0) c.reply_words-told.ensures; record_after = rw e }

pub returns : goal.returns
returns c =
    let e = sym c.own_refusal.ensures ∙ c.if-own_refusal.false in
    record { value = ap (λ (x : List ℕ). get_or x 0 0) c.reply_words-told.ensures; record_after = rw e c.words_over-words.ensures }
