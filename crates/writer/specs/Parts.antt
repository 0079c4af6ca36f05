-- An image's parts: what the two writers take, the file that they leave of them, and an image taken apart.
-- Assumes nothing.
use Rattle.std.specs.Prelude.{ℕ, ◌+◌, ◌-◌, ◌<◌, ◌≡◌, List, ◌++◌, false, length, get_or, take, Ok}
use Rattle.octets.specs.Read.{between}
use Rattle.header.specs.Layout.{vendor_len, vendor_expiry, signers_needed, key_count, vtrust, string_len_at, vendor_mask, firmware_expiry, firmware_mask}
use Rattle.code_header.specs.Tests.{expired, mask_wrong}
use Rattle.header.specs.Steps.{keys_impossible}
use Rattle.header.specs.declared.Inputs.{Inputs}
use Rattle.image.specs.Answer.{Answer, version_at}
use Rattle.image.specs.Chunks.{code_of}
use Rattle.image.specs.Parts.{string_of, picture_of, when_accepted}
use Rattle.writer.specs.Vendor.{vendor_answer, vendor_output}
use Rattle.writer.specs.Firmware.{firmware_answer, firmware_output}
use Rattle.writer.specs.declared.Vendor.{Vendor}
use Rattle.writer.specs.declared.Firmware.{Firmware}

-- what the two writers take
pub record Parts : Type 0 where
  pub vendor : Vendor
  pub keys : List ℕ
  pub string : List ℕ
  pub picture : List ℕ
  pub vsig : List ℕ
  pub firmware : Firmware
  pub code : List ℕ
  pub sig : List ℕ

-- the numbers have the sizes that the writers' types give them
pub record Sized (p : Parts) : Type 0 where
  pub vendor_expiry32 : p.vendor.expiry < 4294967296
  pub expiry32 : p.firmware.expiry < 4294967296
  pub vsig64 : length p.vsig ≡ 64
  pub sig64 : length p.sig ≡ 64

-- well-formed (specification, 8.3): S2, S9, S10, S18 and S19 hold of the chosen values
pub record WellFormed (p : Parts) (given : Inputs) : Type 0 where
  pub sized : Sized p
  -- S2
  pub policy : keys_impossible given.m given.n ≡ false
  -- S9
  pub vendor_in_time : expired p.vendor.expiry given.time ≡ false
  -- S10
  pub vendor_signed : mask_wrong given.m given.n p.vendor.mask ≡ false
  -- S18
  pub firmware_in_time : expired p.firmware.expiry given.time ≡ false
  -- S19
  pub firmware_signed : mask_wrong p.vendor.m p.vendor.n p.firmware.mask ≡ false

-- a file that the two writers left: both calls answer their length, and the firmware writer was given the vendor header's own v. The file is
-- the first v bytes of the one output, the first 1,024 of the other, the same code, and nothing after
pub record WrittenFile (p : Parts) (v : ℕ) (vout fout file : List ℕ) : Type 0 where
  pub vendor : vendor_answer p.vendor p.keys p.string p.picture vout ≡ Ok v
  pub firmware : firmware_answer v p.code fout ≡ Ok 1024
  pub joined : file
      ≡ take v (vendor_output p.vendor p.keys p.string p.picture p.vsig vout)
      ++ (take 1024 (firmware_output v p.firmware p.code p.sig fout)
      ++ p.code)

-- an image taken apart: the fields of both headers, and the string, the picture area and the code as the check hands them back. The whole
-- picture area goes back
unfoldable pub parts_of : Answer → List ℕ → Parts
parts_of answer b =
    record {
      vendor = record { expiry = vendor_expiry b; major = get_or b 12 0; minor = get_or b 13 0; m = signers_needed b; n = key_count b; trust = vtrust b; mask = vendor_mask b };
      keys = between 32 (string_len_at (key_count b)) b;
      string = when_accepted answer (string_of b);
      picture = when_accepted answer (picture_of b);
      vsig = between (vendor_len b - 64) (vendor_len b) b;
      firmware = record { expiry = firmware_expiry b; version = version_at b (vendor_len b + 16); fix = version_at b (vendor_len b + 20); mask = firmware_mask b };
      code = when_accepted answer (code_of b);
      sig = between (vendor_len b + 960) (vendor_len b + 1024) b;
    }
