-- The steps of the check that look at the headers and at lengths (specification, 6), each as a test that is true where the step fails.
-- Assumes nothing.
use Rattle.std.specs.Prelude.{ℕ, ◌+◌, ◌-◌, List, Bool, not, ◌&&◌, ◌||◌, length, leb, ltb, eqb}
use Rattle.octets.specs.Read.{between, all_are, starts_with}
use Rattle.octets.specs.Rounding.{multiple_of}
use Rattle.code_header.specs.Tests.{expired, mask_wrong, code_len_outside, header_cut_at, magic_missing_at, hdr_len_wrong_at, bytes_not_zero_at, expired_at, mask_wrong_at, bytes_follow_at, tail_not_at}
use Rattle.header.specs.Layout.{TRZV, TRZF, vendor_len, vendor_expiry, signers_needed, key_count, string_len, string_end, picture_start, vendor_mask, code_len, first_room}

-- ---- tests that several steps, and the writers, share

-- not 1 ≤ m ≤ n ≤ 8
abbrev pub keys_impossible : ℕ → ℕ → Bool
keys_impossible m n = not (leb 1 m && leb m n && leb n 8)

-- a vendor header's length that is not a multiple of 512, below 512 or above 65,536
abbrev pub length_impossible : ℕ → Bool
length_impossible v = not (multiple_of 512 v) || ltb v 512 || ltb 65536 v

-- a code length that is 0, not a multiple of 4, or above 2,097,152 - 1,024 - v
abbrev pub code_len_impossible : ℕ → ℕ → Bool
code_len_impossible v c = code_len_outside (2097152 - 1024 - v) c

-- ---- the vendor header

-- S1: fewer than 4 bytes, or not TRZV
unfoldable pub vendor_magic_missing : List ℕ → Bool
vendor_magic_missing b = not (starts_with TRZV b)

-- S2, of the key policy m of n
unfoldable pub policy_impossible : ℕ → ℕ → Bool
policy_impossible m n = keys_impossible m n

-- S3
unfoldable pub shorter_than_any_header : List ℕ → Bool
shorter_than_any_header b = ltb (length b) 512

-- S4
unfoldable pub vendor_len_impossible : List ℕ → Bool
vendor_len_impossible b = length_impossible (vendor_len b)

-- S5
unfoldable pub vendor_header_cut : List ℕ → Bool
vendor_header_cut b = ltb (length b) (vendor_len b)

-- S6
unfoldable pub vendor_keys_impossible : List ℕ → Bool
vendor_keys_impossible b = keys_impossible (signers_needed b) (key_count b)

-- S7: picture start + 65 above v
unfoldable pub string_leaves_no_room : List ℕ → Bool
string_leaves_no_room b = ltb (vendor_len b) (picture_start (key_count b) (string_len b) + 65)

-- S8: the 14 bytes from 18 on, and those between the string and the picture area
unfoldable pub vendor_bytes_not_zero : List ℕ → Bool
vendor_bytes_not_zero b =
    not (all_are 0 (between 18 32 b)
    && all_are 0 (between (string_end (key_count b) (string_len b)) (picture_start (key_count b) (string_len b)) b))

-- S9
unfoldable pub vendor_expired : List ℕ → ℕ → Bool
vendor_expired b time = expired (vendor_expiry b) time

-- S10, by the key policy m of n
unfoldable pub vendor_mask_wrong : List ℕ → ℕ → ℕ → Bool
vendor_mask_wrong b m n = mask_wrong m n (vendor_mask b)

-- ---- the firmware header, which starts at v

-- S12
unfoldable pub firmware_header_cut : List ℕ → Bool
firmware_header_cut b = header_cut_at b (vendor_len b)

-- S13
unfoldable pub firmware_magic_missing : List ℕ → Bool
firmware_magic_missing b = magic_missing_at b (vendor_len b) TRZF

-- S14
unfoldable pub firmware_len_wrong : List ℕ → Bool
firmware_len_wrong b = hdr_len_wrong_at b (vendor_len b)

-- S15
unfoldable pub first_chunk_has_no_room : List ℕ → Bool
first_chunk_has_no_room b = eqb (first_room (vendor_len b)) 0

-- S16
unfoldable pub code_len_wrong : List ℕ → Bool
code_len_wrong b = code_len_impossible (vendor_len b) (code_len b)

-- S17: its gap is the 415 bytes before the sigmask
unfoldable pub firmware_bytes_not_zero : List ℕ → Bool
firmware_bytes_not_zero b = bytes_not_zero_at b (vendor_len b) 544 959

-- S18
unfoldable pub firmware_expired : List ℕ → ℕ → Bool
firmware_expired b time = expired_at b (vendor_len b) time

-- S19, by the vendor's own counts
unfoldable pub firmware_mask_wrong : List ℕ → Bool
firmware_mask_wrong b = mask_wrong_at b (vendor_len b) (signers_needed b) (key_count b)

-- ---- the extent

-- S22 of a file: more bytes than the image has
unfoldable pub bytes_follow : List ℕ → Bool
bytes_follow b = bytes_follow_at b (vendor_len b)

-- S22 of a slot: a later byte that is not 255
unfoldable pub tail_not_erased : List ℕ → Bool
tail_not_erased b = tail_not_at b (vendor_len b) 255
