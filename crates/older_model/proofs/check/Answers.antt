-- `older_model::check` meets its contract: the rows are those of the headers, and then of the code.
use Rattle.older_model.proofs.Laws.{form_checked}
use Rattle.older_model.proofs.check.Goals as goal

pub returns : goal.returns
returns g c =
    form_checked g.F.Form.rows_before g.F.Form.unlinked _ _ _ c.args.given c.v2_header-header.ensures.bytes c.v2_header-header.ensures.at
    c.headers-headers.ensures c.then_code-outcome.ensures c.answer_at.ensures
