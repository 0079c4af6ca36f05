-- One element set is the splice of that one byte.
use native.Mathlib.Omega.{arith}
use Rattle.octets.proofs.Splice.{splice_one}
use Rattle.octets.proofs.put.put_byte.Goals as goal

pub returns : goal.returns
returns c = record { room = omega arith; place = omega arith; is = splice_one _ _ _ (omega arith) }
