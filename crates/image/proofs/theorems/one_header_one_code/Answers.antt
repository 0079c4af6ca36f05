-- One header, one code, by the law of that name.
use Rattle.image.proofs.OneCode.{one_header_one_code}
use Rattle.image.proofs.theorems.one_header_one_code.Goals as goal

pub returns : goal.returns
returns c = one_header_one_code
