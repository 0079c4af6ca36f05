-- One header, one code, by the law of that name.
use Rattle.loader.proofs.OneCode.{one_loader_header_one_code}
use Rattle.loader.proofs.theorems.one_loader_header_one_code.Goals as goal

pub returns : goal.returns
returns c = one_loader_header_one_code
