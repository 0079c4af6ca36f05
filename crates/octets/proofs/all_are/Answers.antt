-- The answers for the runs of 64 bytes and for what stands behind them are that for the whole.
use Rattle.std.proofs.Common.{◌/◌, length, rules, tests, nat_eq, refl, ◌∙◌}
use Rattle.std.proofs.lemmas.Iterator.{YieldsList-from_slice}
use Rattle.std.proofs.lemmas.Iterator.Search.{all_from_yields_List}
use Rattle.octets.specs.Read.{all_are}
use Rattle.octets.proofs.Laws.{list_all_are, all_in_runs}
use Rattle.octets.proofs.all_are.Goals as goal

pub returns-then-all : goal.returns-then-all
returns-then-all c =
    let runs = all_from_yields_List (all_are c.args.x) _ _ c.all.result c.all.ensures.ran (YieldsList-from_slice c.as_chunks.result.0.now cc) (λ x b q k. search (rules, tests)) in
    let tail = all_from_yields_List (λ y. nat_eq y c.args.x) _ _ c.all-then-all.result c.all-then-all.ensures.ran (YieldsList-from_slice c.as_chunks.result.1.now cc) (λ x b q k. search (rules, tests)) in
    rw c.if-all.true at (all_in_runs c.args.x 64 (length c.args.s.now / 64) c.args.s.now c.as_chunks.ensures.front c.as_chunks.ensures.back runs (tail ∙ list_all_are c.args.x _))

pub returns-else-all : goal.returns-else-all
returns-else-all c =
    let runs = all_from_yields_List (all_are c.args.x) _ _ c.all.result c.all.ensures.ran (YieldsList-from_slice c.as_chunks.result.0.now cc) (λ x b q k. search (rules, tests)) in
    c.if-all.false ∙ (rw c.if-all.false at (all_in_runs c.args.x 64 (length c.args.s.now / 64) c.args.s.now c.as_chunks.ensures.front c.as_chunks.ensures.back runs refl))
