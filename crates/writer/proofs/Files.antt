-- A file that the writers left: both calls succeed exactly where both writers take the parts, and the file is then the two headers and the code.
-- Assumes nothing.
use mathlib.Core.Path.{◌≡◌, refl, sym, ap, ap₂, ◌∙◌}
use mathlib.Core.List.{List, ◌++◌, append_assoc}
use Prim.Native.Nat.{ℕ, ◌+◌}
use lib.ListN.{length, take, length-append}
use Rattle.header.specs.Layout.{first_room}
use Rattle.header.specs.Table.{first_failing}
use Rattle.std.specs.Prelude.{Ok}
use Rattle.blake2s.specs.Rfc7693.{blake2s_of}
use Rattle.image.specs.Chunks.{hashes_of}
use Rattle.writer.specs.Vendor.{vendor_size, vendor_fields, vendor_refusals, vendor_output}
use Rattle.writer.specs.Firmware.{joined, firmware_fields, firmware_header, firmware_refusals, firmware_output}
use Rattle.writer.specs.Parts.{Parts, Sized, WrittenFile}
use Rattle.writer.proofs.Taken.{VendorFits, vendor_fits, FirmwareFits, firmware_fits, succeeded, left}
use Rattle.writer.proofs.Joined.{length_hashes}
use Rattle.writer.proofs.Standing.{vendor_length, firmware_length}

-- ---- the file of some parts

-- v
abbrev pub size_of : Parts → ℕ
size_of p = vendor_size p.vendor.n (length p.string) (length p.picture)

abbrev pub hashes_in : Parts → List (List ℕ)
hashes_in p = hashes_of blake2s_of 16 (first_room (size_of p)) p.code

abbrev pub vendor_in : Parts → List ℕ
vendor_in p = vendor_fields (size_of p) p.vendor p.keys p.string p.picture p.vsig

abbrev pub firmware_in : Parts → List ℕ
firmware_in p = firmware_fields p.firmware (length p.code) (hashes_in p) p.sig

unfoldable pub file_of : Parts → List ℕ
file_of p = vendor_in p ++ (firmware_in p ++ p.code)

pub file_is : (p : Parts) → file_of p ≡ vendor_in p ++ (firmware_in p ++ p.code)
unfolding file_of
file_is p = refl

-- both writers take the parts, in outputs of these lengths
pub record Taken (p : Parts) (vroom froom : ℕ) : Type 0 where
  pub vendor_taken : first_failing (vendor_refusals p.vendor (length p.keys) (length p.string) (length p.picture) vroom) ≡ Ok tt
  pub firmware_taken : first_failing (firmware_refusals (size_of p) (length p.code) froom) ≡ Ok tt

module _ {p : Parts} {vroom froom : ℕ} (t : Taken p vroom froom) where
  pub vendor_fit : VendorFits p.vendor (length p.keys) (length p.string) (length p.picture) vroom
  vendor_fit = vendor_fits refl t.vendor_taken

  pub firmware_fit : FirmwareFits (size_of p) (length p.code) froom
  firmware_fit = firmware_fits refl t.firmware_taken

-- so long are they
pub hashes_length : (p : Parts) → length (joined (hashes_in p)) ≡ 512
hashes_length p = length_hashes 16 (first_room (size_of p)) p.code

pub firmware_in_length : {p : Parts} → Sized p → length (firmware_in p) ≡ 1024
firmware_in_length {p} s = firmware_length p.firmware (length p.code) (hashes_in p) p.sig p.code (hashes_length p) s.sig64

module _ {p : Parts} (s : Sized p) {vroom froom : ℕ} (t : Taken p vroom froom) where
  pub vendor_in_length : length (vendor_in p) ≡ size_of p
  vendor_in_length = vendor_length (size_of p) p.vendor p.keys p.string p.picture p.vsig (firmware_in p) (vendor_fit t).keys (vendor_fit t).within s.vsig64

  pub headers_length : length (vendor_in p ++ firmware_in p) ≡ size_of p + 1024
  headers_length = length-append (vendor_in p) (firmware_in p) ∙ ap₂ (λ (x y : ℕ). x + y) vendor_in_length (firmware_in_length s)

  pub file_length : length (file_of p) ≡ size_of p + 1024 + length p.code
  file_length = rw (file_is p, ← append_assoc, length-append, headers_length)

-- ---- the file that two calls left

pub record IsFile (p : Parts) (v vroom froom : ℕ) (file : List ℕ) : Type 0 where
  pub size : v ≡ size_of p
  pub taken : Taken p vroom froom
  pub is : file ≡ file_of p

-- what stands in the outputs, one behind the other
module _ {p : Parts} {v : ℕ} (s : Sized p) (vout fout : List ℕ) (e : v ≡ size_of p) (t : Taken p (length vout) (length fout)) where
  outputs_are : take v (vendor_output p.vendor p.keys p.string p.picture p.vsig vout)
      ++ (take 1024 (firmware_output v p.firmware p.code p.sig fout)
      ++ p.code)
      ≡ file_of p
  unfolding file_of firmware_header
  outputs_are =
      rw e
      (ap₂ (λ (x y : List ℕ). x ++ (y ++ p.code))
      (left (vendor_in p) vout (size_of p) t.vendor_taken (vendor_in_length s t))
      (left (firmware_in p) fout 1024 t.firmware_taken (firmware_in_length s)))

pub written_is : {p : Parts} {v : ℕ} {vout fout file : List ℕ} → Sized p → WrittenFile p v vout fout file → IsFile p v (length vout) (length fout) file
written_is {p} {v} {vout} {fout} s w =
    let a = succeeded _ _ v w.vendor in
    let b : first_failing (firmware_refusals v (length p.code) (length fout)) ≡ Ok tt = (succeeded _ _ 1024 w.firmware).0 in
    let t : Taken p (length vout) (length fout) = record { vendor_taken = a.0; firmware_taken = rw a.1 at b } in
    record { size = a.1; taken = t; is = w.joined ∙ outputs_are s vout fout a.1 t }

pub written_of : {p : Parts} {v : ℕ} {vout fout file : List ℕ} → Sized p → IsFile p v (length vout) (length fout) file → WrittenFile p v vout fout file
written_of {vout = vout} {fout = fout} s f =
    record {
      vendor = rw f.taken.vendor_taken (ap Ok (sym f.size));
      firmware = rw (f.size, f.taken.firmware_taken);
      joined = f.is ∙ sym (outputs_are s vout fout f.size f.taken);
    }
