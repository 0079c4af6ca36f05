-- S1 is asked of the bytes.
use Rattle.signing.specs.Digests.{firmware_digest}
use Rattle.signing.proofs.Laws.{tells}
use Rattle.signing.proofs.firmware_digest.Goals as goal

pub returns : goal.returns
unfolding firmware_digest
returns c =
    let both = tells (rw (← c.vendor_magic_missing.ensures) c.firmware_answer.ensures) in
    record { value = both.0; told = both.1 }
