-- Four fields written one behind the other are one field.
use mathlib.Core.List.{append_assoc}
use Rattle.writer.specs.Vendor.{vendor_back}
use Rattle.writer.proofs.Chain.{wrote_next}
use Rattle.writer.proofs.vendor_back.Goals as goal

pub returns : goal.returns
unfolding vendor_back
returns c = rw c.bytes.ensures.put.place at
    (simp append_assoc at (wrote_next (wrote_next (wrote_next c.bytes.ensures c.zeros.ensures.wrote) c.byte.ensures) c.bytes-2.ensures))
