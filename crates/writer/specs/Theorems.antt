-- The writers and the check agree (specification, 8.3).
-- Assumes nothing.
use Rattle.std.specs.Prelude.{ℕ, ◌+◌, ◌≤◌, ◌<◌, ◌≡◌, List, true, length, get_or, take, Ok}
use Rattle.std.specs.Result.{IsOk}
use Rattle.header.specs.declared.Inputs.{Inputs}
use Rattle.image.specs.Check.{check_file, check_slot}
use Rattle.image.specs.declared.Image.{Image}
use Rattle.signing.specs.Digests.{vendor_digest, firmware_digest}
use Rattle.writer.specs.Parts.{Parts, Sized, WellFormed, WrittenFile, parts_of}

-- a well-formed image that the writers left passes the file check with yes from the chip, which tells what was written
abbrev pub WrittenImagesPass : Type 0
WrittenImagesPass =
    (p : Parts) (v : ℕ) (vout fout file : List ℕ) (given : Inputs)
    → WrittenFile p v vout fout file → WellFormed p given → given.vendor ≡ true → given.firmware ≡ true
    → check_file file given ≡ Ok (record { v = v; codelen = length p.code; version = p.firmware.version; fix = p.firmware.fix })

-- parts that are well-formed, and that the writers make this file of again, in any outputs with room
pub record Rewritten (p : Parts) (given : Inputs) (v : ℕ) (file : List ℕ) : Type 0 where
  pub well_formed : WellFormed p given
  pub same : (vout fout : List ℕ) → v ≤ length vout → 1024 ≤ length fout → WrittenFile p v vout fout file

-- an accepted image, taken apart and written again, is the same bytes: a file whole, and a slot up to the image's end
pub record RewrittenImagesAreTheSame : Type 0 where
  pub file : (b : List ℕ) → ((i : ℕ) → get_or b i 0 < 256) → (given : Inputs) (i : Image) → check_file b given ≡ Ok i
      → Rewritten (parts_of (check_file b given) b) given i.v b
  pub slot : (b : List ℕ) → ((i : ℕ) → get_or b i 0 < 256) → (given : Inputs) (i : Image) → check_slot b given ≡ Ok i
      → Rewritten (parts_of (check_slot b given) b) given i.v (take (i.v + 1024 + i.codelen) b)

-- the same parts with other sigmasks and signatures
abbrev pub resigned : Parts → ℕ → List ℕ → ℕ → List ℕ → Parts
resigned p vmask vsig mask sig =
    record {
      vendor = record { expiry = p.vendor.expiry; major = p.vendor.major; minor = p.vendor.minor; m = p.vendor.m; n = p.vendor.n; trust = p.vendor.trust; mask = vmask };
      keys = p.keys;
      string = p.string;
      picture = p.picture;
      vsig = vsig;
      firmware = record { expiry = p.firmware.expiry; version = p.firmware.version; fix = p.firmware.fix; mask = mask };
      code = p.code;
      sig = sig;
    }

-- the digest questions on a file that the writers left are answered, and neither depends on the sigmasks and signatures that were written
pub record WrittenImagesAnswer : Type 0 where
  pub answered : (p : Parts) (v : ℕ) (vout fout file : List ℕ) → Sized p → WrittenFile p v vout fout file
      → IsOk (vendor_digest file) × IsOk (firmware_digest file)
  pub same : (p : Parts) (v : ℕ) (vout fout file : List ℕ) → Sized p → WrittenFile p v vout fout file
      → (vmask : ℕ) (vsig : List ℕ) (mask : ℕ) (sig : List ℕ) → length vsig ≡ 64 → length sig ≡ 64
      → (w : ℕ) (vout' fout' file' : List ℕ) → WrittenFile (resigned p vmask vsig mask sig) w vout' fout' file'
      → (vendor_digest file' ≡ vendor_digest file) × (firmware_digest file' ≡ firmware_digest file)
