-- Six fields written one behind the other are the header's first 32 bytes.
use Rattle.octets.specs.Put.{zeros}
use Rattle.writer.specs.Vendor.{vendor_head}
use Rattle.writer.proofs.Chain.{wrote_next}
use Rattle.writer.proofs.vendor_head.Goals as goal

pub returns-clause-wrote : goal.returns-clause-wrote
unfolding vendor_head zeros
returns-clause-wrote c = rw (c.to_le_bytes.ensures, c.to_le_bytes-2.ensures, c.to_le_bytes-3.ensures) at
    (wrote_next (wrote_next (wrote_next (wrote_next (wrote_next c.bytes.ensures c.bytes-2.ensures) c.bytes-3.ensures) c.bytes-4.ensures) c.bytes-5.ensures) c.zeros.ensures.wrote)
