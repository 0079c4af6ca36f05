-- The number of the four bytes there.
use Rattle.std.proofs.Common.{◌∙◌, ap}
use Rattle.std.specs.Int.{from_le_bytes, w32}
use Rattle.octets.proofs.Numbers.{u32_from_place}
use Rattle.octets.proofs.u32_at.Goals as goal

pub returns : goal.returns
returns c = c.from_le_bytes.ensures ∙ ap (from_le_bytes w32) c.bytes_at.ensures ∙ u32_from_place c.args.s.now c.args.at
