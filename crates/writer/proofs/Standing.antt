-- What stands in the two headers as they are written, one fact per field, with anything behind them: each field's place is the length of what is written before it.
-- Assumes nothing.
use mathlib.Core.Path.{◌≡◌, refl, ap, ap₂, ◌∙◌}
use mathlib.Core.List.{List, [], ◌∷◌, ◌++◌, append_assoc}
use mathlib.Core.Bool.{true}
use Prim.Native.Nat.{ℕ, ◌+◌, ◌-◌, ◌*◌, ◌≤◌, ◌<◌}
use native.Mathlib.Omega.{arith}
use lib.ListN.{length, get_or, length-append}
use lib.Seq.{get_or_at}
use Rattle.octets.specs.Read.{u32_at, between, all_are, starts_with}
use Rattle.octets.specs.Put.{zeros}
use Rattle.octets.proofs.Numbers.{word_of_lem}
use Rattle.octets.proofs.Splice.{length_zeros}
use Rattle.header.specs.Layout.{TRZV, TRZF, vendor_len, vendor_expiry, signers_needed, key_count, string_len_at, string_end, picture_start, mask_at}
use Rattle.image.specs.Answer.{version_at}
use Rattle.writer.specs.Vendor.{vendor_head, vendor_front, vendor_back, vendor_fields}
use Rattle.writer.specs.Firmware.{joined, firmware_head, firmware_fields}
use Rattle.writer.specs.declared.Vendor.{Vendor}
use Rattle.writer.specs.declared.Firmware.{Firmware}
use Rattle.writer.proofs.Fields.{byte_past, word_past, part_past, part_is, zeros_are_zero}
use Rattle.writer.proofs.Taken.{length_front}

-- ---- the vendor header, with q behind it

-- a vendor header of v bytes at the start of b, as the check reads it, with a string of s bytes
pub record VendorRead (b : List ℕ) (v : ℕ) (f : Vendor) (s : ℕ) : Type 0 where
  pub magic : starts_with TRZV b ≡ true
  pub len : vendor_len b ≡ v
  pub expiry : vendor_expiry b ≡ f.expiry
  pub signers : signers_needed b ≡ f.m
  pub count : key_count b ≡ f.n
  pub reserved : all_are 0 (between 18 32 b) ≡ true
  pub string : get_or b (string_len_at f.n) 0 ≡ s
  pub padding : all_are 0 (between (string_end f.n s) (picture_start f.n s) b) ≡ true
  pub mask : get_or b (mask_at v) 0 ≡ f.mask

module _ (v : ℕ) (f : Vendor) (keys string picture sig q : List ℕ) where
  abbrev whole : List ℕ
  whole = vendor_fields v f keys string picture sig ++ q

  -- up to the string's length, and up to the sigmask
  abbrev to_string : List ℕ
  to_string = vendor_head f v ++ keys

  abbrev padding : ℕ
  padding = picture_start f.n (length string) - string_end f.n (length string)

  abbrev gap : ℕ
  gap = mask_at v - (picture_start f.n (length string) + length picture)

  abbrev pub vendor_unsigned : List ℕ
  vendor_unsigned = vendor_front v f keys string ++ (picture ++ zeros gap)

  -- the fixed fields stand where they were written
  vendor_magic : starts_with TRZV whole ≡ true
  unfolding vendor_fields vendor_front vendor_head
  vendor_magic = refl

  vendor_len_lem : v < 4294967296 → vendor_len whole ≡ v
  unfolding u32_at vendor_fields vendor_front vendor_head
  vendor_len_lem h = word_of_lem v h

  vendor_expiry_lem : f.expiry < 4294967296 → vendor_expiry whole ≡ f.expiry
  unfolding u32_at vendor_fields vendor_front vendor_head
  vendor_expiry_lem h = word_of_lem f.expiry h

  vendor_signers : signers_needed whole ≡ f.m
  unfolding vendor_fields vendor_front vendor_head
  vendor_signers = refl

  vendor_count : key_count whole ≡ f.n
  unfolding vendor_fields vendor_front vendor_head
  vendor_count = refl

  vendor_reserved : all_are 0 (between 18 32 whole) ≡ true
  unfolding between vendor_fields vendor_front vendor_head
  vendor_reserved = refl

  length_head : length (vendor_head f v) ≡ 32
  unfolding vendor_head
  length_head = refl

  -- the header parted at the string's length, at the padding and at the sigmask
  at_string : whole ≡ to_string ++ (length string ∷ (string ++ (zeros padding ++ (picture ++ (zeros gap ++ (f.mask ∷ (sig ++ q)))))))
  unfolding vendor_fields vendor_front vendor_back
  at_string = simp append_assoc

  at_padding : whole ≡ (to_string ++ (length string ∷ string)) ++ (zeros padding ++ (picture ++ (zeros gap ++ (f.mask ∷ (sig ++ q)))))
  unfolding vendor_fields vendor_front vendor_back
  at_padding = simp append_assoc

  at_mask : whole ≡ vendor_unsigned ++ (f.mask ∷ (sig ++ q))
  unfolding vendor_fields vendor_back
  at_mask = simp append_assoc

  module _ (k : length keys ≡ 32 * f.n) where
    to_string_lem : length to_string ≡ string_len_at f.n
    to_string_lem = length-append (vendor_head f v) keys ∙ ap₂ (λ (x y : ℕ). x + y) length_head k

    vendor_string : get_or whole (string_len_at f.n) 0 ≡ length string
    vendor_string = rw at_string (get_or_at to_string (length string) _ 0 (string_len_at f.n) to_string_lem)

    vendor_padding : between (string_end f.n (length string)) (picture_start f.n (length string)) whole ≡ zeros padding
    vendor_padding =
        let l : length (to_string ++ (length string ∷ string)) ≡ string_end f.n (length string) = rw (length-append to_string (length string ∷ string), to_string_lem) (omega arith) in
        rw at_padding (part_is (to_string ++ (length string ∷ string)) (zeros padding) _ (string_end f.n (length string)) (picture_start f.n (length string)) l (length_zeros padding))

    module _ (room : picture_start f.n (length string) + length picture + 65 ≤ v) where
      to_mask : length vendor_unsigned ≡ mask_at v
      to_mask = simp (length-append, length_zeros, length_front v f keys string k) (omega arith)

      vendor_mask : get_or whole (mask_at v) 0 ≡ f.mask
      vendor_mask = rw at_mask (get_or_at vendor_unsigned f.mask (sig ++ q) 0 (mask_at v) to_mask)

      -- all that the check reads
      pub vendor_read : v < 4294967296 → f.expiry < 4294967296 → VendorRead whole v f (length string)
      vendor_read small time =
          record {
            magic = vendor_magic;
            len = vendor_len_lem small;
            expiry = vendor_expiry_lem time;
            signers = vendor_signers;
            count = vendor_count;
            reserved = vendor_reserved;
            string = vendor_string;
            padding = ap (all_are 0) vendor_padding ∙ zeros_are_zero padding;
            mask = vendor_mask;
          }

      -- what is signed is what stands before the sigmask
      pub vendor_before_mask : between 0 (mask_at v) whole ≡ vendor_unsigned
      vendor_before_mask =
          let z : mask_at v ≡ mask_at v - 0 = omega arith in
          rw at_mask (part_is [] vendor_unsigned (f.mask ∷ (sig ++ q)) 0 (mask_at v) refl (to_mask ∙ z))

      pub vendor_length : length sig ≡ 64 → length (vendor_fields v f keys string picture sig) ≡ v
      unfolding vendor_fields vendor_back
      vendor_length s = simp (length-append, length_zeros, length_front v f keys string k) (omega arith)

-- ---- the firmware header, with q behind it

-- a firmware header at v, as the check reads it
pub record FirmwareRead (b : List ℕ) (v : ℕ) (f : Firmware) (codelen : ℕ) : Type 0 where
  pub magic : starts_with TRZF (between v (v + 4) b) ≡ true
  pub len : u32_at b (v + 4) ≡ 1024
  pub expiry : u32_at b (v + 8) ≡ f.expiry
  pub code : u32_at b (v + 12) ≡ codelen
  pub version : version_at b (v + 16) ≡ f.version
  pub fix : version_at b (v + 20) ≡ f.fix
  pub reserved : all_are 0 (between (v + 24) (v + 32) b) ≡ true
  pub gap : all_are 0 (between (v + 544) (v + 959) b) ≡ true
  pub mask : get_or b (v + 959) 0 ≡ f.mask

version_past : (p q : List ℕ) (n k : ℕ) → length p ≡ n → version_at (p ++ q) (n + k) ≡ version_at q k
version_past p q n k e =
    let g : (j : ℕ) → get_or (p ++ q) (n + k + j) 0 ≡ get_or q (k + j) 0 = λ j. ap (λ (i : ℕ). get_or (p ++ q) i 0) (assoc n k j) ∙ byte_past p q n (k + j) e in
    cc (byte_past p q n k e, g 1, g 2, g 3)
  where
    assoc : (a b c : ℕ) → a + b + c ≡ a + (b + c)
    assoc a b c = omega arith

module _ (f : Firmware) (codelen : ℕ) (hashes : List (List ℕ)) (sig q : List ℕ) where
  abbrev fwhole : List ℕ
  fwhole = firmware_fields f codelen hashes sig ++ q

  -- up to the sigmask
  abbrev pub firmware_unsigned : List ℕ
  firmware_unsigned = firmware_head f codelen ++ (joined hashes ++ zeros 415)

  firmware_magic : starts_with TRZF (between 0 4 fwhole) ≡ true
  unfolding between firmware_fields firmware_head
  firmware_magic = refl

  firmware_len : u32_at fwhole 4 ≡ 1024
  unfolding u32_at firmware_fields firmware_head
  firmware_len = refl

  firmware_expiry : f.expiry < 4294967296 → u32_at fwhole 8 ≡ f.expiry
  unfolding u32_at firmware_fields firmware_head
  firmware_expiry h = word_of_lem f.expiry h

  firmware_code : codelen < 4294967296 → u32_at fwhole 12 ≡ codelen
  unfolding u32_at firmware_fields firmware_head
  firmware_code h = word_of_lem codelen h

  firmware_version : version_at fwhole 16 ≡ f.version
  unfolding firmware_fields firmware_head
  firmware_version = refl

  firmware_fix : version_at fwhole 20 ≡ f.fix
  unfolding firmware_fields firmware_head
  firmware_fix = refl

  firmware_reserved : all_are 0 (between 24 32 fwhole) ≡ true
  unfolding between firmware_fields firmware_head
  firmware_reserved = refl

  pub firmware_head_length : length (firmware_head f codelen) ≡ 32
  unfolding firmware_head
  firmware_head_length = refl

  -- the header parted at the hashes, behind them, and at the sigmask
  pub at_hashes : fwhole ≡ firmware_head f codelen ++ (joined hashes ++ (zeros 415 ++ (f.mask ∷ (sig ++ q))))
  unfolding firmware_fields
  at_hashes = simp append_assoc

  at_gap : fwhole ≡ (firmware_head f codelen ++ joined hashes) ++ (zeros 415 ++ (f.mask ∷ (sig ++ q)))
  unfolding firmware_fields
  at_gap = simp append_assoc

  at_fmask : fwhole ≡ firmware_unsigned ++ (f.mask ∷ (sig ++ q))
  unfolding firmware_fields
  at_fmask = simp append_assoc

  module _ (t : length (joined hashes) ≡ 512) where
    firmware_gap : between 544 959 fwhole ≡ zeros 415
    firmware_gap =
        rw at_gap
        (part_is (firmware_head f codelen ++ joined hashes) (zeros 415) (f.mask ∷ (sig ++ q)) 544 959
        (length-append (firmware_head f codelen) (joined hashes) ∙ ap₂ (λ (x y : ℕ). x + y) firmware_head_length t)
        (length_zeros 415))

    to_fmask : length firmware_unsigned ≡ 959
    to_fmask = simp (length-append, length_zeros, firmware_head_length, t)

    firmware_mask : get_or fwhole 959 0 ≡ f.mask
    firmware_mask = rw at_fmask (get_or_at firmware_unsigned f.mask (sig ++ q) 0 959 to_fmask)

    pub firmware_length : length sig ≡ 64 → length (firmware_fields f codelen hashes sig) ≡ 1024
    unfolding firmware_fields
    firmware_length s = simp (length-append, length_zeros, firmware_head_length, t, s)

    -- what is signed is what stands before the sigmask
    firmware_before_mask : between 0 959 fwhole ≡ firmware_unsigned
    firmware_before_mask = rw at_fmask (part_is [] firmware_unsigned (f.mask ∷ (sig ++ q)) 0 959 refl to_fmask)

    -- behind a vendor header w of v bytes
    module _ (w : List ℕ) (v : ℕ) (l : length w ≡ v) where
      pub firmware_read : f.expiry < 4294967296 → codelen < 4294967296 → FirmwareRead (w ++ fwhole) v f codelen
      firmware_read time small =
          let z : v + 0 ≡ v = omega arith in
          record {
            magic = ap (starts_with TRZF) ((rw z at (part_past w fwhole v 0 4 l))) ∙ firmware_magic;
            len = word_past w fwhole v 4 l ∙ firmware_len;
            expiry = word_past w fwhole v 8 l ∙ firmware_expiry time;
            code = word_past w fwhole v 12 l ∙ firmware_code small;
            version = version_past w fwhole v 16 l ∙ firmware_version;
            fix = version_past w fwhole v 20 l ∙ firmware_fix;
            reserved = ap (all_are 0) (part_past w fwhole v 24 32 l) ∙ firmware_reserved;
            gap = ap (all_are 0) (part_past w fwhole v 544 959 l ∙ firmware_gap) ∙ zeros_are_zero 415;
            mask = byte_past w fwhole v 959 l ∙ firmware_mask;
          }

      pub firmware_signed_part : between v (v + 959) (w ++ fwhole) ≡ firmware_unsigned
      firmware_signed_part = let z : v + 0 ≡ v = omega arith in (rw z at (part_past w fwhole v 0 959 l)) ∙ firmware_before_mask
