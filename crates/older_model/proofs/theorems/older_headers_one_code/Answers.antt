-- One header, one code, by the law of that name.
use Rattle.older_model.proofs.OneCode.{older_headers_one_code}
use Rattle.older_model.proofs.theorems.older_headers_one_code.Goals as goal

pub returns : goal.returns
returns c = older_headers_one_code
