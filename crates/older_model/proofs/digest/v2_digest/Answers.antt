-- `older_model::digest::v2_digest` meets its contract: a header that passes has zeros behind its indexes, so that zeros from the signatures on are what is signed.
use mathlib.Core.Path.{sym, ◌∙◌}
use Rattle.header.proofs.Rows.{stage_then}
use Rattle.older_model.proofs.Signed.{answers_signed}
use Rattle.older_model.proofs.digest.v2_digest.Goals as goal

pub returns-clause-value : goal.returns-clause-value
returns-clause-value g c =
    answers_signed _ (g.F.Form.unlinked c.args.b.now) c.args.b.now g.F.Form.AT c.shape.ensures c.in_ok-shape.was
    (rw (c.v2_header.ensures.bytes, c.v2_header.ensures.at) at c.v2_header_digest.ensures)
    (λ h. stage_then (g.F.Form.shape_before c.args.b.now) _ h)
    ∙ sym (g.met.F.Form.digest_is c.args.b.now)
