-- `worked_numbers::worked_numbers_hold` meets its contract: both columns compute to the same numbers.
use mathlib.Core.Path.{refl}
use lib.Count.{ones}
use Rattle.octets.specs.Read.{u32_at, between, ones_of, bit_at_or_above}
use Rattle.header.specs.Steps.{shorter_than_any_header, vendor_len_impossible, vendor_header_cut, vendor_keys_impossible, string_leaves_no_room, vendor_bytes_not_zero, vendor_expired, vendor_mask_wrong}
use Rattle.header.specs.Table.{first_failing, vendor_shape, vendor_policy}
use Rattle.header.specs.Trust.{trust_of}
use Rattle.worked_numbers.specs.Table.{WorkedNumbersHold}
use Rattle.worked_numbers.proofs.worked_numbers_hold.Goals as goal

hold : WorkedNumbersHold
unfolding ones u32_at between ones_of bit_at_or_above shorter_than_any_header vendor_len_impossible vendor_header_cut vendor_keys_impossible string_leaves_no_room vendor_bytes_not_zero vendor_expired vendor_mask_wrong first_failing vendor_shape vendor_policy trust_of
hold = refl

pub returns : goal.returns
returns c = hold
