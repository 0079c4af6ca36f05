-- A part is the rest, from its start on, of the bytes up to its end.
use Rattle.octets.proofs.Laws.{between_cut}
use Rattle.octets.proofs.part.Goals as goal

pub returns : goal.returns
returns c = between_cut c.args.a c.args.e c.args.s.now c.min.ensures c.rest.ensures
