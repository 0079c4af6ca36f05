-- An accepted image, taken apart and written again, is the same bytes up to its end: field by field what stands from an offset on is the field as it is written and what stands behind it.
-- Assumes nothing.
use mathlib.Core.Path.{◌≡◌, refl, sym, ap, ap₂, subst, ◌∙◌}
use mathlib.Core.List.{List, [], ◌∷◌, ◌++◌, append_assoc}
use mathlib.Core.Bool.{Bool, true}
use Prim.Native.Nat.{ℕ, ◌+◌, ◌-◌, ◌*◌, ◌%◌, ◌≤◌, ◌<◌}
use native.Mathlib.Omega.{arith}
use lib.ListN.{length, get_or, take, drop, length-append, length-drop, drop_of_length-le}
use lib.Seq.{take_all, take_at}
use borrow.Author.Tests.{not-false, eq-eqb, le-ltb}
use Rattle.octets.specs.Read.{between, starts_with}
use Rattle.octets.specs.Put.{le16, le32, zeros}
use Rattle.octets.specs.Rounding.{round_up}
use Rattle.octets.proofs.Rounding.{stays}
use Rattle.header.specs.Layout.{TRZV, TRZF, vendor_len, vendor_expiry, signers_needed, key_count, vtrust, string_len_at, string_start, string_len, string_end, picture_start, mask_at, vendor_mask, firmware_expiry, firmware_mask, code_len, image_len, first_room}
use Rattle.header.specs.Steps.{vendor_magic_missing}
use Rattle.header.specs.declared.Inputs.{Inputs}
use Rattle.header.proofs.Rows.{passes_here, ends}
use Rattle.header.proofs.Facts.{headers_pass, vendor_allowed, firmware_allowed}
use Rattle.blake2s.specs.Rfc7693.{blake2s_of}
use Rattle.image.specs.Chunks.{hashes_of, hash_table, code_of}
use Rattle.image.specs.Answer.{version_at, image_of}
use Rattle.image.specs.Check.{check_file}
use Rattle.image.specs.Parts.{string_of, picture_of}
use Rattle.image.specs.declared.Image.{Image}
use Rattle.std.specs.Prelude.{Ok}
use Rattle.image.proofs.Facts.{RowsPass, Sound, sound, file_rows_pass, file_told, file_length, length_part, code_length}
use Rattle.image.proofs.Parts.{slot_rows_pass, slot_told, parts_stand}
use Rattle.writer.specs.Vendor.{vendor_size, vendor_head, vendor_front, vendor_back, vendor_fields, vendor_header, vendor_refusals}
use Rattle.writer.specs.Firmware.{quad, joined, firmware_head, firmware_fields, firmware_header, firmware_refusals}
use Rattle.writer.specs.Parts.{Parts, Sized, parts_of}
use Rattle.writer.specs.Theorems.{Rewritten, RewrittenImagesAreTheSame}
use Rattle.writer.specs.declared.Vendor.{Vendor}
use Rattle.writer.specs.declared.Firmware.{Firmware}
use Rattle.writer.proofs.Fields.{on, split_magic, split_part, split_byte, split_zeros, split_word, split_half, word_small}
use Rattle.writer.proofs.Joined.{joined_at}
use Rattle.writer.proofs.Files.{size_of, vendor_in, firmware_in, file_of, Taken, written_of}

-- ---- the headers as their fields in a row

-- where the picture fills its area
vendor_row : (v s : ℕ) (f : Vendor) (keys string picture sig q : List ℕ) → length string ≡ s → picture_start f.n s + length picture ≡ mask_at v
    → vendor_fields v f keys string picture sig ++ q
    ≡ vendor_head f v ++ (keys ++ (s ∷ (string ++ (zeros (picture_start f.n s - string_end f.n s) ++ (picture ++ (f.mask ∷ (sig ++ q)))))))
unfolding vendor_fields vendor_front vendor_back zeros
vendor_row v s f keys string picture sig q e h =
    let z : mask_at v - (picture_start f.n s + length picture) ≡ 0 = omega arith in
    rw (e, z) (simp append_assoc)

firmware_row : (f : Firmware) (codelen : ℕ) (hashes : List (List ℕ)) (sig q : List ℕ)
    → firmware_fields f codelen hashes sig ++ q
    ≡ TRZF ++ (le32 1024 ++ (le32 f.expiry ++ (le32 codelen ++ (quad f.version ++ (quad f.fix ++ (zeros 8 ++ (joined hashes ++ (zeros 415 ++ (f.mask ∷ (sig ++ q))))))))))
unfolding firmware_fields firmware_head zeros
firmware_row f codelen hashes sig q = simp append_assoc

split_version : (b : List ℕ) (a e : ℕ) → e ≡ a + 4 → e ≤ length b → drop a b ≡ quad (version_at b a) ++ drop e b
split_version b a e h l =
    split_byte b a (a + 1) refl (omega arith)
    ∙ on (get_or b a 0 ∷ []) (split_byte b (a + 1) (a + 2) (omega arith) (omega arith)
    ∙ on (get_or b (a + 1) 0 ∷ []) (split_byte b (a + 2) (a + 3) (omega arith) (omega arith)
    ∙ on (get_or b (a + 2) 0 ∷ []) (split_byte b (a + 3) e (omega arith) l)))

-- a picture that fills its area leaves the header as long as it was
rounded : (start v : ℕ) → start + 65 ≤ v → v % 512 ≡ 0 → round_up 512 (start + (mask_at v - start) + 65) ≡ v
rounded start v h e = let f : start + (mask_at v - start) + 65 ≡ v = omega arith in rw f (stays 512 v (omega arith) e)

-- what stands before the bytes from n on is the first n
before : (x b : List ℕ) (n : ℕ) → n ≤ length b → x ++ drop n b ≡ b → x ≡ take n b
before x b n h e =
    let l : length x ≡ n = omega (arith, simp (length-append, length-drop) at (ap length e)) in
    sym (take_at x (drop n b) n l) ∙ ap (take n) e

-- ---- the image

abbrev parts : List ℕ → Parts
parts b = parts_of (Ok (image_of b)) b

module _ (b : List ℕ) (bytes : (i : ℕ) → get_or b i 0 < 256) (magic : starts_with TRZV b ≡ true) (k : Sound b) where
  abbrev v : ℕ
  v = vendor_len b

  abbrev n : ℕ
  n = key_count b

  abbrev string : ℕ
  string = string_len b

  abbrev vendor_of : Vendor
  vendor_of = record { expiry = vendor_expiry b; major = get_or b 12 0; minor = get_or b 13 0; m = signers_needed b; n = n; trust = vtrust b; mask = vendor_mask b }

  abbrev firmware_of : Firmware
  firmware_of = record { expiry = firmware_expiry b; version = version_at b (v + 16); fix = version_at b (v + 20); mask = firmware_mask b }

  long : v + 1024 ≤ length b
  long = k.firmware.held

  -- the string and the picture area have the lengths that the image says, so the header comes out as long
  string_length : length (string_of b) ≡ string
  string_length = (parts_stand b k).string_long

  picture_length : length (picture_of b) ≡ mask_at v - picture_start n string
  unfolding image_of
  picture_length = (parts_stand b k).picture_long

  same_size : vendor_size n (length (string_of b)) (length (picture_of b)) ≡ v
  same_size = ap₂ (vendor_size n) string_length picture_length ∙ rounded (picture_start n string) v k.vendor.room k.vendor.size.whole

  -- the vendor header, field by field
  head_apart : b ≡ vendor_head vendor_of v ++ drop 32 b
  unfolding vendor_head zeros
  head_apart =
      split_magic TRZV b magic
      ∙ on TRZV (split_word b bytes 4 8 refl (omega (arith, long))
      ∙ on (le32 v) (split_word b bytes 8 12 refl (omega (arith, long))
      ∙ on (le32 (vendor_expiry b)) (split_byte b 12 13 refl (omega (arith, long))
      ∙ on (get_or b 12 0 ∷ []) (split_byte b 13 14 refl (omega (arith, long))
      ∙ on (get_or b 13 0 ∷ []) (split_byte b 14 15 refl (omega (arith, long))
      ∙ on (signers_needed b ∷ []) (split_byte b 15 16 refl (omega (arith, long))
      ∙ on (n ∷ []) (split_half b bytes 16 18 refl (omega (arith, long))
      ∙ on (le16 (vtrust b)) (split_zeros b 18 32 14 refl (omega (arith, long)) k.vendor.zeros))))))))

  body_apart : drop 32 b
      ≡ between 32 (string_len_at n) b ++ (string
      ∷ (string_of b
      ++ (zeros (picture_start n string - string_end n string)
      ++ (picture_of b
      ++ (vendor_mask b ∷ (between (v - 64) v b ++ drop v b))))))
  body_apart =
      split_part b 32 (string_len_at n) (omega arith)
      ∙ on (between 32 (string_len_at n) b) (split_byte b (string_len_at n) (string_start n) refl (omega (arith, long, k.vendor.room))
      ∙ on (string ∷ []) (split_part b (string_start n) (string_end n string) (omega arith)
      ∙ on (string_of b) (split_zeros b (string_end n string) (picture_start n string) (picture_start n string - string_end n string) (omega arith) (omega (arith, long, k.vendor.room)) k.vendor.padding
      ∙ on (zeros (picture_start n string - string_end n string)) (split_part b (picture_start n string) (mask_at v) (omega (arith, k.vendor.room))
      ∙ on (picture_of b) (split_byte b (mask_at v) (v - 64) (omega (arith, k.vendor.size.least)) (omega (arith, long))
      ∙ on (vendor_mask b ∷ []) (split_part b (v - 64) v (omega arith)))))))

  vendor_again : vendor_header vendor_of (between 32 (string_len_at n) b) (string_of b) (picture_of b) (between (v - 64) v b) ++ drop v b ≡ b
  vendor_again =
      rw same_size
      (vendor_row v string vendor_of _ (string_of b) _ _ (drop v b) string_length (omega (arith, picture_length, k.vendor.room))
      ∙ sym (head_apart ∙ on (vendor_head vendor_of v) body_apart))

  -- the firmware header, field by field
  magic_is : between v (v + 4) b ≡ TRZF
  magic_is =
      let l : length (between v (v + 4) b) ≡ 4 = length_part b v (v + 4) 4 refl (omega (arith, long)) in
      split_magic TRZF (between v (v + 4) b) k.firmware.magic
      ∙ on TRZF (drop_of_length-le (between v (v + 4) b) {i = 4} (omega arith))

  hashes_are : joined (hashes_of blake2s_of 16 (first_room v) (code_of b)) ≡ between (v + 32) (v + 544) b
  unfolding hash_table
  hashes_are =
      let e : v + 32 + 32 * 16 ≡ v + 544 = omega arith in
      ap joined (sym k.hashes)
      ∙ joined_at 16 b (v + 32) (omega (arith, long))
      ∙ ap (λ (i : ℕ). between (v + 32) i b) e

  firmware_apart : drop v b
      ≡ TRZF ++ (le32 1024 ++ (le32 (firmware_expiry b) ++ (le32 (code_len b)
      ++ (quad (version_at b (v + 16)) ++ (quad (version_at b (v + 20))
      ++ (zeros 8 ++ (between (v + 32) (v + 544) b ++ (zeros 415
      ++ (firmware_mask b ∷ (between (v + 960) (v + 1024) b ++ (code_of b ++ drop (image_len b) b)))))))))))
  firmware_apart =
      split_part b v (v + 4) (omega arith) ∙ ap (λ (l : List ℕ). l ++ drop (v + 4) b) magic_is
      ∙ on TRZF (split_word b bytes (v + 4) (v + 8) (omega arith) (omega (arith, long)) ∙ ap (λ (x : ℕ). le32 x ++ drop (v + 8) b) k.firmware.size
      ∙ on (le32 1024) (split_word b bytes (v + 8) (v + 12) (omega arith) (omega (arith, long))
      ∙ on (le32 (firmware_expiry b)) (split_word b bytes (v + 12) (v + 16) (omega arith) (omega (arith, long))
      ∙ on (le32 (code_len b)) (split_version b (v + 16) (v + 20) (omega arith) (omega (arith, long))
      ∙ on (quad (version_at b (v + 16))) (split_version b (v + 20) (v + 24) (omega arith) (omega (arith, long))
      ∙ on (quad (version_at b (v + 20))) (split_zeros b (v + 24) (v + 32) 8 (omega arith) (omega (arith, long)) k.firmware.zeros
      ∙ on (zeros 8) (split_part b (v + 32) (v + 544) (omega arith)
      ∙ on (between (v + 32) (v + 544) b) (split_zeros b (v + 544) (v + 959) 415 (omega arith) (omega (arith, long)) k.firmware.gap
      ∙ on (zeros 415) (split_byte b (v + 959) (v + 960) (omega arith) (omega (arith, long))
      ∙ on (firmware_mask b ∷ []) (split_part b (v + 960) (v + 1024) (omega arith)
      ∙ on (between (v + 960) (v + 1024) b) (split_part b (v + 1024) (image_len b) (omega arith))))))))))))

  firmware_again : firmware_header v firmware_of (code_of b) (between (v + 960) (v + 1024) b) ++ (code_of b ++ drop (image_len b) b) ≡ drop v b
  unfolding firmware_header
  firmware_again =
      rw (code_length b k.held)
      (firmware_row firmware_of (code_len b) (hashes_of blake2s_of 16 (first_room v) (code_of b)) (between (v + 960) (v + 1024) b) (code_of b ++ drop (image_len b) b)
      ∙ rw hashes_are (sym firmware_apart))

  parts_size : v ≡ size_of (parts b)
  unfolding parts_of
  parts_size = sym same_size

  file_again : take (image_len b) b ≡ file_of (parts b)
  unfolding file_of parts_of firmware_header
  file_again =
      sym
      (before (file_of (parts b)) b (image_len b) k.held
      (append_assoc (vendor_in (parts b)) (firmware_in (parts b) ++ code_of b) (drop (image_len b) b)
      ∙ on (vendor_in (parts b))
      (append_assoc (firmware_in (parts b)) (code_of b) (drop (image_len b) b)
      ∙ ap (λ (i : ℕ). firmware_header i firmware_of (code_of b) (between (v + 960) (v + 1024) b) ++ (code_of b ++ drop (image_len b) b)) same_size
      ∙ firmware_again)
      ∙ vendor_again))

  -- neither writer refuses the parts, which have the sizes of the writers' types
  parts_taken : (vroom froom : ℕ) → v ≤ vroom → 1024 ≤ froom → Taken (parts b) vroom froom
  unfolding parts_of vendor_refusals firmware_refusals
  parts_taken vroom froom h g =
      let keys : length (between 32 (string_len_at n) b) ≡ 32 * n = length_part b 32 (string_len_at n) (32 * n) refl (omega (arith, long, k.vendor.room)) in
      let short : length (string_of b) ≤ 255 = rw string_length (omega (arith, bytes (string_len_at n))) in
      record {
        vendor_taken = sym
            (passes_here _ _ k.vendor.keys.test
            (passes_here _ _ (rw (eq-eqb (length (between 32 (string_len_at n) b)) (32 * n) keys, le-ltb 255 (length (string_of b)) short))
            (passes_here _ _ (rw same_size (le-ltb 65536 v k.vendor.size.most))
            (passes_here _ _ (rw same_size (le-ltb vroom v h)) ends))));
        firmware_taken = sym
            (passes_here _ _ (rw same_size k.vendor.size.test)
            (passes_here _ _ (rw (same_size, code_length b k.held) k.firmware.code.test)
            (passes_here _ _ (le-ltb froom 1024 g) ends)));
      }

  parts_sized : Sized (parts b)
  unfolding parts_of
  parts_sized =
      record {
        vendor_expiry32 = word_small b bytes 8;
        expiry32 = word_small b bytes (v + 8);
        vsig64 = length_part b (v - 64) v 64 (omega (arith, k.vendor.size.least)) (omega (arith, long));
        sig64 = length_part b (v + 960) (v + 1024) 64 (omega arith) long;
      }

-- an accepted image, whatever is asked of the bytes behind it
module _ {tail_wrong : Bool} {given : Inputs} (b : List ℕ) (bytes : (i : ℕ) → get_or b i 0 < 256) (p : RowsPass (vendor_magic_missing b) tail_wrong b given) where
  own_again : Rewritten (parts b) given (image_of b).v (take ((image_of b).v + 1024 + (image_of b).codelen) b)
  unfolding vendor_magic_missing image_of parts_of
  own_again =
      let r = headers_pass (vendor_magic_missing b) b given p.headers in
      let m : starts_with TRZV b ≡ true = not-false _ r.magic in
      let a = vendor_allowed b given r.allowed in
      let f = firmware_allowed b given r.signed in
      let k = sound p in
      let s = parts_sized b bytes m k in
      record {
        well_formed = record { sized = s; policy = r.policy; vendor_in_time = a.timely; vendor_signed = a.signed; firmware_in_time = f.timely; firmware_signed = f.signed };
        same = λ vout fout h g. written_of s (record { size = parts_size b bytes m k; taken = parts_taken b bytes m k (length vout) (length fout) h g; is = file_again b bytes m k });
      }

  told_again : {i : Image} → image_of b ≡ i → Rewritten (parts_of (Ok i) b) given i.v (take (i.v + 1024 + i.codelen) b)
  told_again e = subst (λ (i : Image). Rewritten (parts_of (Ok i) b) given i.v (take (i.v + 1024 + i.codelen) b)) e own_again

-- an accepted file ends where its image does
file_ends : (b : List ℕ) (given : Inputs) (i : Image) → check_file b given ≡ Ok i → take (i.v + 1024 + i.codelen) b ≡ b
unfolding image_of
file_ends b given i h =
    let l = file_length (vendor_magic_missing b) b given (file_rows_pass b given i h) in
    let e : image_len b ≡ i.v + 1024 + i.codelen = ap (λ (j : Image). j.v + 1024 + j.codelen) (file_told b given i h) in
    take_all (i.v + 1024 + i.codelen) b (omega arith)

-- the second half of the agreement
pub rewritten_images_are_the_same : RewrittenImagesAreTheSame
rewritten_images_are_the_same =
    record {
      file = λ b bytes given i h. rw h (rw (file_ends b given i h) at (told_again b bytes (file_rows_pass b given i h) (file_told b given i h)));
      slot = λ b bytes given i h. rw h (told_again b bytes (slot_rows_pass b given i h) (slot_told b given i h));
    }
