-- The two digests to be signed (specification, 5; asking for one is its "digest question"). Such a digest is BLAKE2s over the whole header with its last 65 bytes taken as zero.
-- Assumes nothing.
use Rattle.std.specs.Prelude.{ℕ, ◌+◌, List, ◌∷◌, ◌++◌, Bool, Result, Ok, Err}
use Rattle.octets.specs.Read.{between}
use Rattle.blake2s.specs.Rfc7693.{blake2s_of}
use Rattle.blake2s.specs.Parts.{zero_tailed}
use Rattle.header.specs.Layout.{vendor_len, mask_at}
use Rattle.header.specs.Steps.{vendor_magic_missing}
use Rattle.header.specs.Table.{Row, step, first_failing, vendor_shape, firmware_shape}
use Rattle.header.specs.declared.Refusal.{Refusal}
use Rattle.header.specs.Outcome.{Outcome}

-- what must hold for the vendor header's question: S1, which fails as told, and S3 to S8
unfoldable pub vendor_rows : Bool → List ℕ → List Row
vendor_rows magic_missing b = step magic_missing 1 1 ∷ vendor_shape b

-- for the firmware header's: S12 to S17 as well
unfoldable pub firmware_rows : Bool → List ℕ → List Row
firmware_rows magic_missing b = step magic_missing 1 1 ∷ (vendor_shape b ++ firmware_shape b)

-- the v bytes of the vendor header, the last 65 as zeros
unfoldable pub signed_vendor : List ℕ → List ℕ
signed_vendor b = zero_tailed (between 0 (mask_at (vendor_len b)) b)

-- the 1,024 bytes of a header that starts at an offset, the last 65 as zeros
abbrev pub signed_at : List ℕ → ℕ → List ℕ
signed_at b at = zero_tailed (between at (at + 959) b)

-- those of the firmware header
unfoldable pub signed_firmware : List ℕ → List ℕ
signed_firmware b = signed_at b (vendor_len b)

-- a digest to be signed, or a refusal
abbrev pub Digest : Type 0
Digest = Result (List ℕ) Refusal

-- the digest where the rows pass. After a refusal there is none
abbrev pub answered : Outcome → List ℕ → Digest
answered (Ok _) digest = Ok digest
answered (Err r) digest = Err r

unfoldable pub vendor_digest : List ℕ → Digest
vendor_digest b = answered (first_failing (vendor_rows (vendor_magic_missing b) b)) (blake2s_of (signed_vendor b))

unfoldable pub firmware_digest : List ℕ → Digest
firmware_digest b = answered (first_failing (firmware_rows (vendor_magic_missing b) b)) (blake2s_of (signed_firmware b))
