-- The fold says whether every byte is x.
use Rattle.std.proofs.Common.{rules, tests, Bool, true, ◌&&◌, nat_eq, ◌∙◌}
use Rattle.std.proofs.lemmas.Iterator.{YieldsList-from_slice}
use Rattle.std.proofs.lemmas.Iterator.Consumers.{fold_from_yields_List}
use Rattle.octets.proofs.Laws.{fold_all}
use Rattle.octets.proofs.run_is.Goals as goal

pub returns : goal.returns
returns c =
    fold_from_yields_List _ (λ (all : Bool) y. all && nat_eq y c.args.x) true c.fold.result c.fold.ensures.ran (YieldsList-from_slice c.args.run.now cc) (λ a x b q k. search (rules, tests))
    ∙ fold_all c.args.x true c.args.run.now
