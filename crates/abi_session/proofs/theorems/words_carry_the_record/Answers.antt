-- `abi_session::theorems::words_carry_the_record` meets its contract: the law of `Carried.antt`.
use Rattle.abi_session.proofs.Carried.{words_carry_the_record}
use Rattle.abi_session.proofs.theorems.words_carry_the_record.Goals as goal

pub returns : goal.returns
returns c = words_carry_the_record
