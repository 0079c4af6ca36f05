-- A sigmask passes exactly if it names m signers among n keys, by the two laws of it.
use Rattle.code_header.proofs.Facts.{mask_signed, signed_mask}
use Rattle.code_header.proofs.theorems.masks_pass_by_signers.Goals as goal

pub returns : goal.returns
returns c = record { signed = mask_signed; passes = signed_mask }
