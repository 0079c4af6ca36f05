-- Headers that pass are signed, by the law of both.
use Rattle.header.proofs.Facts.{both_signed}
use Rattle.header.proofs.theorems.passing_headers_are_signed.Goals as goal

pub returns : goal.returns
returns c = both_signed
