-- `header::theorems::alike_headers_pass_alike` meets its contract: row by row the tests agree, and a row that passes bounds what the next ones read.
use Rattle.header.proofs.Alike.{headers_alike}
use Rattle.header.proofs.theorems.alike_headers_pass_alike.Goals as goal

pub returns : goal.returns
returns c = λ R N b d w read magic_missing given. headers_alike w read magic_missing given
