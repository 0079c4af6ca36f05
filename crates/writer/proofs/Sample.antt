-- Some parts are well-formed and the writers leave a file of them, so the theorems speak of something: every test of this sample computes.
-- Assumes nothing.
use mathlib.Core.Path.{refl}
use mathlib.Core.List.{[], ◌∷◌}
use mathlib.Core.Bool.{true}
use native.Mathlib.Omega.{arith}
use lib.ListN.{replicate}
use lib.Count.{ones}
use Rattle.octets.specs.Read.{bit_at_or_above, ones_of}
use Rattle.header.specs.Table.{first_failing}
use Rattle.header.specs.declared.Inputs.{Inputs}
use Rattle.writer.specs.Vendor.{vendor_refusals}
use Rattle.writer.specs.Firmware.{firmware_refusals}
use Rattle.writer.specs.Parts.{Parts, WellFormed, WrittenFile}
use Rattle.writer.proofs.Files.{file_of, written_of}

abbrev sample : Parts
sample =
    record {
      vendor = record { expiry = 100; major = 1; minor = 0; m = 1; n = 2; trust = 65526; mask = 3 };
      keys = replicate 64 1;
      string = 110 ∷ 97 ∷ 109 ∷ 101 ∷ [];
      picture = 7 ∷ 8 ∷ [];
      vsig = replicate 64 9;
      firmware = record { expiry = 0; version = record { major = 1; minor = 2; patch = 3; build = 4 }; fix = record { major = 1; minor = 0; patch = 0; build = 0 }; mask = 2 };
      code = 1 ∷ 2 ∷ 3 ∷ 4 ∷ [];
      sig = replicate 64 8;
    }

abbrev asked : Inputs
asked = record { time = 100; m = 2; n = 3; vendor = true; firmware = true }

pub some_parts_are_well_formed : WellFormed sample asked
unfolding bit_at_or_above ones_of ones
some_parts_are_well_formed =
    record {
      sized = record { vendor_expiry32 = omega arith; expiry32 = omega arith; vsig64 = refl; sig64 = refl };
      policy = refl;
      vendor_in_time = refl;
      vendor_signed = refl;
      firmware_in_time = refl;
      firmware_signed = refl;
    }

-- with a byte to spare in each output
pub some_file_is_written : WrittenFile sample 512 (replicate 513 255) (replicate 1025 255) (file_of sample)
unfolding first_failing vendor_refusals firmware_refusals
some_file_is_written = written_of some_parts_are_well_formed.sized (record { size = refl; taken = record { vendor_taken = refl; firmware_taken = refl }; is = refl })
