-- The digest questions on a written image: their rows pass, and what is hashed stands before the sigmasks, so it mentions neither them nor the signatures.
-- Assumes nothing.
use mathlib.Core.Path.{◌≡◌, refl, sym, ap, ◌∙◌}
use mathlib.Core.List.{List, [], ◌++◌}
use Prim.Native.Nat.{ℕ}
use lib.ListN.{length}
use Rattle.blake2s.specs.Rfc7693.{blake2s_of}
use Rattle.blake2s.specs.Parts.{zero_tailed}
use Rattle.header.specs.Steps.{vendor_magic_missing}
use Rattle.header.specs.Table.{first_failing}
use Rattle.std.specs.Prelude.{Ok, is_ok}
use Rattle.header.proofs.Rows.{passes_here, stage_passes}
use Rattle.signing.specs.Digests.{vendor_rows, firmware_rows, signed_vendor, signed_firmware, vendor_digest, firmware_digest}
use Rattle.signing.proofs.Laws.{replies_digest}
use Rattle.writer.specs.Vendor.{vendor_head, vendor_front}
use Rattle.writer.specs.Firmware.{firmware_head}
use Rattle.writer.specs.Parts.{Parts, Sized, WrittenFile}
use Rattle.writer.specs.Theorems.{resigned, WrittenImagesAnswer}
use Rattle.writer.proofs.Standing.{vendor_unsigned, vendor_before_mask, firmware_unsigned, firmware_signed_part}
use Rattle.writer.proofs.Files.{size_of, hashes_in, vendor_in, firmware_in, file_of, file_is, Taken, vendor_fit, hashes_length, vendor_in_length, written_is}
use Rattle.writer.proofs.Passes.{vendor_reads, magic_there, vendor_shape_passes, firmware_shape_passes}

abbrev unsigned_vendor : Parts → List ℕ
unsigned_vendor p = vendor_unsigned (size_of p) p.vendor p.keys p.string p.picture p.vsig []

abbrev unsigned_firmware : Parts → List ℕ
unsigned_firmware p = firmware_unsigned p.firmware (length p.code) (hashes_in p) p.sig []

module _ {p : Parts} (s : Sized p) {vroom froom : ℕ} (t : Taken p vroom froom) where
  vendor_rows_pass : first_failing (vendor_rows (vendor_magic_missing (file_of p)) (file_of p)) ≡ Ok tt
  unfolding vendor_rows
  vendor_rows_pass = sym (passes_here _ _ (magic_there s t) (sym (vendor_shape_passes s t)))

  firmware_rows_pass : first_failing (firmware_rows (vendor_magic_missing (file_of p)) (file_of p)) ≡ Ok tt
  unfolding firmware_rows
  firmware_rows_pass =
      sym (passes_here _ _ (magic_there s t) (stage_passes _ _ (sym (vendor_shape_passes s t)) refl (sym (firmware_shape_passes s t))))

  signed_vendor_is : signed_vendor (file_of p) ≡ zero_tailed (unsigned_vendor p)
  unfolding signed_vendor
  signed_vendor_is =
      rw ((vendor_reads s t).len, file_is p)
      (ap zero_tailed (vendor_before_mask (size_of p) p.vendor p.keys p.string p.picture p.vsig (firmware_in p ++ p.code) (vendor_fit t).keys (vendor_fit t).within))

  signed_firmware_is : signed_firmware (file_of p) ≡ zero_tailed (unsigned_firmware p)
  unfolding signed_firmware
  signed_firmware_is =
      rw ((vendor_reads s t).len, file_is p)
      (ap zero_tailed (firmware_signed_part p.firmware (length p.code) (hashes_in p) p.sig p.code (hashes_length p) (vendor_in p) (size_of p) (vendor_in_length s t)))

  vendor_answer : vendor_digest (file_of p) ≡ Ok (blake2s_of (zero_tailed (unsigned_vendor p)))
  unfolding vendor_digest
  vendor_answer = sym (replies_digest vendor_rows_pass (ap blake2s_of (sym signed_vendor_is)))

  firmware_answer : firmware_digest (file_of p) ≡ Ok (blake2s_of (zero_tailed (unsigned_firmware p)))
  unfolding firmware_digest
  firmware_answer = sym (replies_digest firmware_rows_pass (ap blake2s_of (sym signed_firmware_is)))

-- of a file that the writers left
module _ {p : Parts} {v : ℕ} {vout fout file : List ℕ} (s : Sized p) (w : WrittenFile p v vout fout file) where
  vendor_answered : vendor_digest file ≡ Ok (blake2s_of (zero_tailed (unsigned_vendor p)))
  vendor_answered = let f = written_is s w in ap vendor_digest f.is ∙ vendor_answer s f.taken

  firmware_answered : firmware_digest file ≡ Ok (blake2s_of (zero_tailed (unsigned_firmware p)))
  firmware_answered = let f = written_is s w in ap firmware_digest f.is ∙ firmware_answer s f.taken

-- ---- other sigmasks and signatures

module _ (p : Parts) (vmask : ℕ) (vsig : List ℕ) (mask : ℕ) (sig : List ℕ) where
  resigned_sized : length vsig ≡ 64 → length sig ≡ 64 → Sized p → Sized (resigned p vmask vsig mask sig)
  resigned_sized v f s = record { vendor_expiry32 = s.vendor_expiry32; expiry32 = s.expiry32; vsig64 = v; sig64 = f }

  same_vendor : unsigned_vendor (resigned p vmask vsig mask sig) ≡ unsigned_vendor p
  unfolding vendor_front vendor_head
  same_vendor = refl

  same_firmware : unsigned_firmware (resigned p vmask vsig mask sig) ≡ unsigned_firmware p
  unfolding firmware_head
  same_firmware = refl

pub written_images_answer : WrittenImagesAnswer
written_images_answer =
    record {
      answered = λ p v vout fout file s w. (ap is_ok (vendor_answered s w), ap is_ok (firmware_answered s w));
      same = λ p v vout fout file s w vmask vsig mask sig l m w' vout' fout' file' r.
          let s' = resigned_sized p vmask vsig mask sig l m s in (
            vendor_answered s' r
                ∙ ap (λ (l : List ℕ). Ok (blake2s_of (zero_tailed l))) (same_vendor p vmask vsig mask sig)
                ∙ sym (vendor_answered s w),
            firmware_answered s' r
                ∙ ap (λ (l : List ℕ). Ok (blake2s_of (zero_tailed l))) (same_firmware p vmask vsig mask sig)
                ∙ sym (firmware_answered s w),
          );
    }
