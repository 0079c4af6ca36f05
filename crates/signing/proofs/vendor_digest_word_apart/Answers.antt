-- `signing::vendor_digest_word_apart` meets its contract: S1 is asked of the word, and the other rows and the digest are the same with the word in its place.
use borrow.Author.Rules.{rules}
use mathlib.Core.Bool.{not}
use mathlib.Core.Path.{sym, ap, ◌∙◌}
use Rattle.header.proofs.Rows.{handed_on}
use Rattle.signing.specs.Digests.{vendor_rows}
use Rattle.signing.proofs.Laws.{replies_refusal, replies_digest, answers, tells, vendor_apart}
use Rattle.signing.proofs.vendor_digest_word_apart.Goals as goal

pub returns-in_err-vendor_rows : goal.returns-in_err-vendor_rows
returns-in_err-vendor_rows c =
    let both = tells (answers vendor_rows _ _ (ap not c.starts_with.ensures) c.vendor_rows.ensures (replies_refusal _ c.in_err-vendor_rows.was (handed_on c.from_residual.ensures))
    ∙ sym (vendor_apart c.args.first c.args.b.now (search rules))) in
    record { value = both.0; told = both.1 }

pub returns : goal.returns
returns c =
    let both = tells (answers vendor_rows _ _ (ap not c.starts_with.ensures) c.vendor_rows.ensures (replies_digest c.in_ok-vendor_rows.was c.vendor_header_digest_word_apart.ensures)
    ∙ sym (vendor_apart c.args.first c.args.b.now (search rules))) in
    record { value = both.0; told = both.1 }
