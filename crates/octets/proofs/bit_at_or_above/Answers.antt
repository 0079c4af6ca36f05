-- The leading zeros of a byte tell its highest set bit.
use Rattle.octets.proofs.Laws.{bit_is}
use Rattle.octets.proofs.bit_at_or_above.Goals as goal

pub returns : goal.returns
returns c = bit_is c.args.n c.args.mask c.ranges.mask.fits
