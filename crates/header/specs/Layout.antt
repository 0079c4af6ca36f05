-- Where each field of an image stands (specification, 2 to 4). A byte past the end reads as 0.
-- Assumes nothing.
use Rattle.std.specs.Prelude.{ℕ, ◌+◌, ◌-◌, ◌*◌, List, [], ◌∷◌, get_or}
use Rattle.octets.specs.Read.{u16_at, u32_at}
use Rattle.octets.specs.Rounding.{round_up}
use Rattle.code_header.specs.Layout.{magic_at, hdr_len_at, expiry_at, code_len_at, sigmask_at, code_start_at, code_end_at}

-- ---- the vendor header, v bytes

-- the letters TRZV
abbrev pub TRZV : List ℕ
TRZV = 84 ∷ 82 ∷ 90 ∷ 86 ∷ []

-- hdrlen, which is v
abbrev pub vendor_len : List ℕ → ℕ
vendor_len b = u32_at b 4

abbrev pub vendor_expiry : List ℕ → ℕ
vendor_expiry b = u32_at b 8

-- vsig_m: how many of the vendor's keys must sign, no fewer and no more
abbrev pub signers_needed : List ℕ → ℕ
signers_needed b = get_or b 14 0

-- vsig_n: how many keys the vendor has
abbrev pub key_count : List ℕ → ℕ
key_count b = get_or b 15 0

abbrev pub vtrust : List ℕ → ℕ
vtrust b = u16_at b 16

-- n keys of 32 bytes stand from 32 on; the string's length comes after them
abbrev pub string_len_at : ℕ → ℕ
string_len_at n = 32 + 32 * n

abbrev pub string_len : List ℕ → ℕ
string_len b = get_or b (string_len_at (key_count b)) 0

-- then the string, of s bytes
abbrev pub string_start : ℕ → ℕ
string_start n = string_len_at n + 1

abbrev pub string_end : ℕ → ℕ → ℕ
string_end n s = string_start n + s

-- then zeros up to the next offset from the header's start that is a multiple of 4, where the picture area starts
abbrev pub picture_start : ℕ → ℕ → ℕ
picture_start n s = round_up 4 (string_end n s)

-- the picture area ends where the sigmask stands, 65 bytes before the header's end
abbrev pub mask_at : ℕ → ℕ
mask_at v = v - 65

abbrev pub vendor_mask : List ℕ → ℕ
vendor_mask b = get_or b (mask_at (vendor_len b)) 0

-- ---- the firmware header, 1,024 bytes from v on

-- the letters TRZF
abbrev pub TRZF : List ℕ
TRZF = 84 ∷ 82 ∷ 90 ∷ 70 ∷ []

abbrev pub firmware_magic : List ℕ → List ℕ
firmware_magic b = magic_at b (vendor_len b)

abbrev pub firmware_len : List ℕ → ℕ
firmware_len b = hdr_len_at b (vendor_len b)

abbrev pub firmware_expiry : List ℕ → ℕ
firmware_expiry b = expiry_at b (vendor_len b)

abbrev pub code_len : List ℕ → ℕ
code_len b = code_len_at b (vendor_len b)

abbrev pub firmware_mask : List ℕ → ℕ
firmware_mask b = sigmask_at b (vendor_len b)

-- ---- the code

abbrev pub code_start : List ℕ → ℕ
code_start b = code_start_at (vendor_len b)

-- where the code ends, and with it the image
abbrev pub image_len : List ℕ → ℕ
image_len b = code_end_at b (vendor_len b)

-- chunk 1 has room for what the two headers leave of 131,072 bytes
abbrev pub first_room : ℕ → ℕ
first_room v = 131072 - 1024 - v
