-- `sha256::mixing::all_rounds` meets its contract. The invariant: the rounds that are left lead from the working variables now to those at last.
use Rattle.std.proofs.Common.{◌≡◌, ℕ, zero, suc, ◌+◌, ◌*◌, ◌<◌, drop, get_or, [], length, refl, ◌∙◌, arith}
use Rattle.sha256.specs.Fips180.{K}
use Rattle.sha256.specs.declared.mixing.TheConstants.{CONSTANTS}
use Rattle.sha256.specs.Words.{state, block, sixteen_at}
use Rattle.sha256.proofs.Rounds.{group, next_row, last_group, length_constants}
use Rattle.sha256.proofs.mixing.all_rounds.Goals as goal

-- the rows after the first are the constants from 16 on
later : (i : ℕ) → i < 3 → sixteen_at (get_or (drop 1 CONSTANTS) i []) 0 ≡ sixteen_at K (16 * i + 16)
unfolding K
later zero h = refl
later (suc zero) h = refl
later (suc (suc zero)) h = refl
later (suc (suc (suc i))) h = absurd (omega arith)

pub loop-k-init : goal.loop-k-init
loop-k-init c = refl

pub loop-k-preserved : goal.loop-k-preserved
loop-k-preserved c = next_row _ _ _ (get_or (drop 1 CONSTANTS) c.loop-k.k-index []) c.loop-k.k-index c.loop-k-test.true refl refl c.next_words-w.ensures (later _ c.loop-k-test.true) c.sixteen_rounds-v-in-loop-k.ensures ∙ c.loop-k.invariant

pub returns : goal.returns
unfolding K
returns c =
    let n : length K ≡ 64 = length_constants in
    last_group _ K _ (16 * c.loop-k.k-index + 16) (omega arith) ∙ c.loop-k.invariant ∙ group (state c.args.h) K (block c.args.m) 0 48 (omega arith) refl c.sixteen_rounds-v.ensures
