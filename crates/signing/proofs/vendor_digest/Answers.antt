-- `signing::vendor_digest` meets its contract: the rows are asked with S1's own answer, and the digest is made where they pass.
use Rattle.header.proofs.Rows.{handed_on}
use Rattle.signing.specs.Digests.{vendor_rows, vendor_digest}
use Rattle.signing.proofs.Laws.{replies_refusal, replies_digest, answers, tells}
use Rattle.signing.proofs.vendor_digest.Goals as goal

pub returns-in_err-vendor_rows : goal.returns-in_err-vendor_rows
unfolding vendor_digest
returns-in_err-vendor_rows c =
    let both = tells (answers vendor_rows _ _ c.vendor_magic_missing.ensures c.vendor_rows.ensures (replies_refusal _ c.in_err-vendor_rows.was (handed_on c.from_residual.ensures))) in
    record { value = both.0; told = both.1 }

pub returns : goal.returns
unfolding vendor_digest
returns c =
    let both = tells (answers vendor_rows _ _ c.vendor_magic_missing.ensures c.vendor_rows.ensures (replies_digest c.in_ok-vendor_rows.was c.vendor_header_digest.ensures)) in
    record { value = both.0; told = both.1 }
