-- Five fields written one behind the other are one field.
use mathlib.Core.List.{append_assoc}
use Rattle.writer.specs.Firmware.{firmware_fields}
use Rattle.writer.proofs.Chain.{wrote_next}
use Rattle.writer.proofs.Joined.{joined_flat}
use Rattle.writer.proofs.firmware_fields.Goals as goal

pub returns : goal.returns
unfolding firmware_fields
returns c = rw (c.as_flattened.ensures.value, joined_flat) at
    (simp append_assoc at
    (wrote_next (wrote_next (wrote_next (wrote_next c.firmware_head.ensures.wrote c.bytes.ensures) c.zeros.ensures.wrote) c.byte.ensures) c.bytes-2.ensures))
