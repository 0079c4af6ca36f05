-- The steps of the check as rows of a table, in the order of the specification, 6. The first failing row answers.
-- S23, which compares the hashes, has its rows in the crate image.
-- Assumes nothing.
use Rattle.std.specs.Prelude.{ℕ, List, [], ◌∷◌, ◌++◌, Bool, true, false, not, Ok, Err}
use Rattle.code_header.specs.Tests.{code_cut_at}
use Rattle.header.specs.Layout.{vendor_len}
use Rattle.header.specs.declared.Refusal.{Refusal}
use Rattle.header.specs.Outcome.{Outcome}
use Rattle.header.specs.declared.Inputs.{Inputs}
use Rattle.header.specs.Steps.{policy_impossible, shorter_than_any_header, vendor_len_impossible, vendor_header_cut, vendor_keys_impossible, string_leaves_no_room, vendor_bytes_not_zero, vendor_expired, vendor_mask_wrong, firmware_header_cut, firmware_magic_missing, firmware_len_wrong, first_chunk_has_no_room, code_len_wrong, firmware_bytes_not_zero, firmware_expired, firmware_mask_wrong}

-- a refusal's number and part. Its chunk is 0, except in S23
abbrev pub refusal : ℕ → ℕ → Refusal
refusal number part = record { number = number; part = part; chunk = 0 }

-- a row: whether the step fails, and how it then refuses
pub data Row : Type 0 where
  row : Bool → Refusal → Row

abbrev pub step : Bool → ℕ → ℕ → Row
step fails number part = row fails (refusal number part)

unfoldable pub first_failing : List Row → Outcome
first_failing [] = Ok tt
first_failing (row true r ∷ rows) = Err r
first_failing (row false r ∷ rows) = first_failing rows

-- an outcome, and where all passed the next
abbrev pub or_else : Outcome → Outcome → Outcome
or_else (Ok _) o = o
or_else (Err r) o = Err r

-- S3 to S8
unfoldable pub vendor_shape : List ℕ → List Row
vendor_shape b =
    step (shorter_than_any_header b) 2 1
    ∷ step (vendor_len_impossible b) 3 1
    ∷ step (vendor_header_cut b) 2 1
    ∷ step (vendor_keys_impossible b) 4 1
    ∷ step (string_leaves_no_room b) 5 1
    ∷ step (vendor_bytes_not_zero b) 6 1
    ∷ []

-- S9 to S11
unfoldable pub vendor_policy : List ℕ → Inputs → List Row
vendor_policy b given =
    step (vendor_expired b given.time) 7 1
    ∷ step (vendor_mask_wrong b given.m given.n) 8 1
    ∷ step (not given.vendor) 9 1
    ∷ []

-- S12 to S17
unfoldable pub firmware_shape : List ℕ → List Row
firmware_shape b =
    step (firmware_header_cut b) 2 2
    ∷ step (firmware_magic_missing b) 10 2
    ∷ step (firmware_len_wrong b) 11 2
    ∷ step (first_chunk_has_no_room b) 17 2
    ∷ step (code_len_wrong b) 12 2
    ∷ step (firmware_bytes_not_zero b) 6 2
    ∷ []

-- S18 to S20
unfoldable pub firmware_policy : List ℕ → Inputs → List Row
firmware_policy b given =
    step (firmware_expired b given.time) 7 2
    ∷ step (firmware_mask_wrong b) 8 2
    ∷ step (not given.firmware) 9 2
    ∷ []

-- S1 to S20. S1 fails where magic_missing says so
unfoldable pub header_rows : Bool → List ℕ → Inputs → List Row
header_rows magic_missing b given =
    step magic_missing 1 1
    ∷ step (policy_impossible given.m given.n) 16 0
    ∷ (vendor_shape b ++ (vendor_policy b given ++ (firmware_shape b ++ firmware_policy b given)))

-- S21 and S22, of the code behind a header that starts at an offset. S22 fails where tail_wrong says so: a file and a slot differ there alone
unfoldable pub extent_rows_at : Bool → List ℕ → ℕ → List Row
extent_rows_at tail_wrong b at = step (code_cut_at b at) 2 3 ∷ step tail_wrong 13 3 ∷ []

-- of an image
abbrev pub extent_rows : Bool → List ℕ → List Row
extent_rows tail_wrong b = extent_rows_at tail_wrong b (vendor_len b)
