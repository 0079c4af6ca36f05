-- Numbers that fit are read as they stand, by the law of that name.
use Rattle.abi.proofs.Numbers.{numbers_are_read}
use Rattle.abi.proofs.theorems.numbers_are_read.Goals as goal

pub returns : goal.returns
returns c = numbers_are_read
