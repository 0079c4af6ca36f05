-- What stands in a written file, and that it passes: each field reads as it was written, so each step's test is one that the writers made or that is well-formed.
-- Assumes nothing.
use mathlib.Core.Path.{◌≡◌, refl, sym, ap, ap₂, ◌∙◌}
use mathlib.Core.List.{List, [], ◌∷◌, ◌++◌, append_assoc}
use mathlib.Core.Bool.{true, false, not}
use Prim.Native.Nat.{ℕ, ◌+◌}
use native.Mathlib.Omega.{arith}
use lib.ListN.{length, get_or, length-append}
use lib.Seq.{drop_at}
use borrow.Author.Tests.{le-ltb, ne_eqb}
use Rattle.octets.specs.Put.{zeros}
use Rattle.header.specs.Layout.{vendor_len, string_len_at, string_len, picture_start, image_len, first_room}
use Rattle.header.specs.Steps.{policy_impossible, vendor_magic_missing, shorter_than_any_header, vendor_len_impossible, vendor_header_cut, vendor_keys_impossible, string_leaves_no_room, vendor_bytes_not_zero, vendor_expired, vendor_mask_wrong, firmware_header_cut, firmware_magic_missing, firmware_len_wrong, first_chunk_has_no_room, code_len_wrong, firmware_bytes_not_zero, firmware_expired, firmware_mask_wrong}
use Rattle.header.specs.Table.{first_failing, vendor_shape, vendor_policy, firmware_shape, firmware_policy, header_rows}
use Rattle.header.specs.declared.Inputs.{Inputs}
use Rattle.std.specs.Prelude.{Ok}
use Rattle.header.proofs.Rows.{passes_here, ends, stage_passes}
use Rattle.blake2s.specs.Rfc7693.{blake2s_of}
use Rattle.image.specs.Chunks.{hashes_of, hashes_at, hash_table, code_of}
use Rattle.image.specs.Answer.{image_of}
use Rattle.image.specs.Check.{check_file}
use Rattle.image.proofs.Facts.{sound_file_accepted, code_is_rest}
use Rattle.writer.specs.Firmware.{firmware_head}
use Rattle.writer.specs.Parts.{Parts, Sized, WellFormed}
use Rattle.writer.specs.Theorems.{WrittenImagesPass}
use Rattle.writer.proofs.Joined.{hashes_stand}
use Rattle.writer.proofs.Standing.{VendorRead, vendor_read, FirmwareRead, firmware_read, firmware_head_length, at_hashes}
use Rattle.writer.proofs.Files.{size_of, hashes_in, vendor_in, firmware_in, file_of, file_is, Taken, vendor_fit, firmware_fit, hashes_length, vendor_in_length, headers_length, file_length, written_is}

module _ {p : Parts} (s : Sized p) {vroom froom : ℕ} (t : Taken p vroom froom) where
  pub vendor_reads : VendorRead (file_of p) (size_of p) p.vendor (length p.string)
  vendor_reads =
      rw (file_is p)
      (vendor_read (size_of p) p.vendor p.keys p.string p.picture p.vsig (firmware_in p ++ p.code) (vendor_fit t).keys (vendor_fit t).within (omega (arith, (firmware_fit t).size.most)) s.vendor_expiry32)

  pub firmware_reads : FirmwareRead (file_of p) (size_of p) p.firmware (length p.code)
  firmware_reads =
      rw (file_is p)
      (firmware_read p.firmware (length p.code) (hashes_in p) p.sig p.code (hashes_length p) (vendor_in p) (size_of p) (vendor_in_length s t) s.expiry32 (omega (arith, (firmware_fit t).code.most)))

  string_reads : string_len (file_of p) ≡ length p.string
  string_reads = ap (λ (n : ℕ). get_or (file_of p) (string_len_at n) 0) vendor_reads.count ∙ vendor_reads.string

  whole : length (file_of p) ≡ image_len (file_of p)
  whole = rw (vendor_reads.len, firmware_reads.code) (file_length s t)

  -- ---- the steps

  -- S1
  pub magic_there : vendor_magic_missing (file_of p) ≡ false
  unfolding vendor_magic_missing
  magic_there = rw vendor_reads.magic

  -- S3 to S8
  pub vendor_shape_passes : first_failing (vendor_shape (file_of p)) ≡ Ok tt
  unfolding vendor_shape shorter_than_any_header vendor_len_impossible vendor_header_cut vendor_keys_impossible string_leaves_no_room vendor_bytes_not_zero
  vendor_shape_passes =
      let r = vendor_reads in
      let l = file_length s t in
      sym
      (passes_here _ _ (le-ltb (length (file_of p)) 512 (omega (arith, (firmware_fit t).size.least)))
      (passes_here _ _ (rw r.len (firmware_fit t).size.test)
      (passes_here _ _ (rw r.len (le-ltb (length (file_of p)) (size_of p) (omega arith)))
      (passes_here _ _ (rw (r.signers, r.count) (vendor_fit t).policy)
      (passes_here _ _ (rw (r.len, string_reads, r.count) (le-ltb (size_of p) (picture_start p.vendor.n (length p.string) + 65) (omega (arith, (vendor_fit t).within))))
      (passes_here _ _ (rw (string_reads, r.count, r.reserved, r.padding)) ends))))))

  -- S12 to S17
  pub firmware_shape_passes : first_failing (firmware_shape (file_of p)) ≡ Ok tt
  unfolding firmware_shape firmware_header_cut firmware_magic_missing firmware_len_wrong first_chunk_has_no_room code_len_wrong firmware_bytes_not_zero
  firmware_shape_passes =
      let v = vendor_reads.len in
      let r = firmware_reads in
      let l = file_length s t in
      sym
      (passes_here _ _ (rw v (le-ltb (length (file_of p)) (size_of p + 1024) (omega arith)))
      (passes_here _ _ (rw v (ap not r.magic))
      (passes_here _ _ (rw (v, r.len))
      (passes_here _ _ (rw v (ne_eqb (first_room (size_of p)) 0 (λ e. omega (arith, (firmware_fit t).size.most))))
      (passes_here _ _ (rw (v, r.code) (firmware_fit t).code.test)
      (passes_here _ _ (rw (v, r.reserved, r.gap)) ends))))))

  -- S23
  code_there : code_of (file_of p) ≡ p.code
  code_there =
      code_is_rest (file_of p) whole
      ∙ rw (vendor_reads.len, file_is p, ← append_assoc (vendor_in p) (firmware_in p) p.code)
      (drop_at (vendor_in p ++ firmware_in p) p.code (size_of p + 1024) (headers_length s t))

  hashes_there : hash_table (file_of p) ≡ hashes_in p
  unfolding hash_table
  hashes_there =
      let w : List ℕ = vendor_in p ++ firmware_head p.firmware (length p.code) in
      let l : length w ≡ size_of p + 32 = length-append (vendor_in p) _ ∙ ap₂ (λ (x y : ℕ). x + y) (vendor_in_length s t) (firmware_head_length p.firmware (length p.code) [] [] []) in
      rw vendor_reads.len
      (ap (λ (b : List ℕ). hashes_at 16 b (size_of p + 32))
      (file_is p
      ∙ ap (λ (b : List ℕ). vendor_in p ++ b) (at_hashes p.firmware (length p.code) (hashes_in p) p.sig p.code)
      ∙ sym (append_assoc (vendor_in p) (firmware_head p.firmware (length p.code)) _))
      ∙ hashes_stand 16 (first_room (size_of p)) p.code w (zeros 415 ++ (p.firmware.mask ∷ (p.sig ++ p.code))) (size_of p + 32) l)

  hashes_right : hash_table (file_of p) ≡ hashes_of blake2s_of 16 (first_room (vendor_len (file_of p))) (code_of (file_of p))
  hashes_right = hashes_there ∙ sym (ap₂ (λ (v : ℕ) (c : List ℕ). hashes_of blake2s_of 16 (first_room v) c) vendor_reads.len code_there)

  told : image_of (file_of p) ≡ record { v = size_of p; codelen = length p.code; version = p.firmware.version; fix = p.firmware.fix }
  unfolding image_of
  told = rw (vendor_reads.len, firmware_reads.code, firmware_reads.version, firmware_reads.fix)

-- ---- a well-formed image

module _ {p : Parts} {given : Inputs} (w : WellFormed p given) {vroom froom : ℕ} (t : Taken p vroom froom) (yesVendor : given.vendor ≡ true) (yesFirmware : given.firmware ≡ true) where
  -- S9 to S11
  vendor_policy_passes : first_failing (vendor_policy (file_of p) given) ≡ Ok tt
  unfolding vendor_policy vendor_expired vendor_mask_wrong
  vendor_policy_passes =
      let r = vendor_reads w.sized t in
      sym
      (passes_here _ _ (rw r.expiry w.vendor_in_time)
      (passes_here _ _ (rw (r.len, r.mask) w.vendor_signed)
      (passes_here _ _ (ap not yesVendor) ends)))

  -- S18 to S20
  firmware_policy_passes : first_failing (firmware_policy (file_of p) given) ≡ Ok tt
  unfolding firmware_policy firmware_expired firmware_mask_wrong
  firmware_policy_passes =
      let v = vendor_reads w.sized t in
      let r = firmware_reads w.sized t in
      sym
      (passes_here _ _ (rw (v.len, r.expiry) w.firmware_in_time)
      (passes_here _ _ (rw (v.len, v.signers, v.count, r.mask) w.firmware_signed)
      (passes_here _ _ (ap not yesFirmware) ends)))

  -- S1 to S20
  headers_pass : first_failing (header_rows (vendor_magic_missing (file_of p)) (file_of p) given) ≡ Ok tt
  unfolding header_rows policy_impossible
  headers_pass =
      sym
      (passes_here _ _ (magic_there w.sized t)
      (passes_here _ _ w.policy
      (stage_passes _ _ (sym (vendor_shape_passes w.sized t)) refl
      (stage_passes _ _ (sym vendor_policy_passes) refl
      (stage_passes _ _ (sym (firmware_shape_passes w.sized t)) refl (sym firmware_policy_passes))))))

  file_passes : check_file (file_of p) given ≡ Ok (record { v = size_of p; codelen = length p.code; version = p.firmware.version; fix = p.firmware.fix })
  file_passes = let s = w.sized in sound_file_accepted (file_of p) given headers_pass (whole s t) (hashes_right s t) ∙ ap Ok (told s t)

-- the first half of the agreement
pub written_images_pass : WrittenImagesPass
written_images_pass p v vout fout file given w k yesVendor yesFirmware =
    let f = written_is k.sized w in
    rw (f.is, f.size) (file_passes k f.taken yesVendor yesFirmware)
