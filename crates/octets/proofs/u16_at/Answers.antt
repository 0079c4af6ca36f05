-- The number of the two bytes there.
use Rattle.std.proofs.Common.{◌∙◌, ap}
use Rattle.std.specs.Int.{from_le_bytes, w16}
use Rattle.octets.proofs.Numbers.{u16_from_place}
use Rattle.octets.proofs.u16_at.Goals as goal

pub returns : goal.returns
returns c = c.from.ensures ∙ c.from_le_bytes.ensures ∙ ap (from_le_bytes w16) c.bytes_at.ensures ∙ u16_from_place c.args.s.now c.args.at
