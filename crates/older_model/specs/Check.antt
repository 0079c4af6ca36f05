-- The check of an image of the older model (specification, 17.2): the V2 header and code, by themselves or behind a legacy header, as a file and in a
-- slot. The first failing step answers. No image of this model has a vendor header: v is told as 0.
-- Assumes nothing.
use Rattle.std.specs.Prelude.{ℕ, List, [], ◌∷◌, ◌++◌, Bool, false}
use Rattle.code_header.specs.Tests.{header_cut_at, magic_missing_at, hdr_len_wrong_at, expired_at, bytes_follow_at, tail_not_at}
use Rattle.header.specs.Table.{Row, step, first_failing, extent_rows_at}
use Rattle.sha256.specs.Fips180.{sha256_of}
use Rattle.image.specs.Chunks.{hash_table_at, code_at, chunk_rows}
use Rattle.image.specs.Answer.{Answer, image_at, answer_of}
use Rattle.older_model.specs.declared.OlderInputs.{OlderInputs}
use Rattle.older_model.specs.Steps.{sheet_impossible, indexes_wrong_at, verdict_missing, legacy_len, legacy_indexes, legacy_magic_missing, legacy_cut, legacy_code_len_wrong, legacy_bytes_not_zero, TRZF, first_room, v2_indexes, v2_code_len_wrong, code_len_other, v2_bytes_not_zero}

-- ---- the legacy header, which answers under part 1

unfoldable pub legacy_shape : List ℕ → List Row
legacy_shape b =
    step (legacy_magic_missing b) 1 1
    ∷ step (legacy_cut b) 2 1
    ∷ step (legacy_code_len_wrong b) 12 1
    ∷ step (legacy_bytes_not_zero b) 6 1
    ∷ []

unfoldable pub legacy_policy : List ℕ → OlderInputs → List Row
legacy_policy b given =
    step (indexes_wrong_at b legacy_indexes given.keys) 8 1
    ∷ step (verdict_missing given.legacy) 9 1
    ∷ []

-- all of it
unfoldable pub legacy_rows : List ℕ → OlderInputs → List Row
legacy_rows b given = legacy_shape b ++ legacy_policy b given

-- ---- the V2 header, which answers under part 2, over the offset at which it starts

-- codelen is also wrong where other says so
unfoldable pub v2_shape : Bool → List ℕ → ℕ → List Row
v2_shape other b at =
    step (magic_missing_at b at TRZF) 10 2
    ∷ step (header_cut_at b at) 2 2
    ∷ step (hdr_len_wrong_at b at) 11 2
    ∷ step (v2_code_len_wrong other b at) 12 2
    ∷ step (v2_bytes_not_zero b at) 6 2
    ∷ []

unfoldable pub v2_policy : List ℕ → ℕ → OlderInputs → List Row
v2_policy b at given =
    step (expired_at b at given.time) 7 2
    ∷ step (indexes_wrong_at b (v2_indexes at) given.keys) 8 2
    ∷ step (verdict_missing given.v2) 9 2
    ∷ []

-- ---- the code, as S21 to S23 have it. S22 fails where tail_wrong says so

unfoldable pub code_rows : Bool → List ℕ → ℕ → List Row
code_rows tail_wrong b at = extent_rows_at tail_wrong b at ++ chunk_rows sha256_of first_room (code_at b at) (hash_table_at b at) 0 16

-- the V2 header and the code behind it
unfoldable pub v2_rows : Bool → Bool → List ℕ → ℕ → OlderInputs → List Row
v2_rows other tail_wrong b at given = v2_shape other b at ++ (v2_policy b at given ++ code_rows tail_wrong b at)

-- the V2 header alone
abbrev pub v2_headers : Bool → List ℕ → ℕ → OlderInputs → List Row
v2_headers other b at given = v2_shape other b at ++ v2_policy b at given

-- ---- the two forms. The key sheet comes before all else

-- the V2 header by itself
unfoldable pub alone_rows : Bool → List ℕ → OlderInputs → List Row
alone_rows tail_wrong b given = step (sheet_impossible given.keys) 16 0 ∷ v2_rows false tail_wrong b 0 given

-- the pair
unfoldable pub pair_rows : Bool → List ℕ → OlderInputs → List Row
pair_rows tail_wrong b given =
    step (sheet_impossible given.keys) 16 0
    ∷ (legacy_rows b given ++ v2_rows (code_len_other b) tail_wrong b legacy_len given)

-- each as a file, where nothing follows the code, and in a slot, where erased bytes may
unfoldable pub check_v2_file : List ℕ → OlderInputs → Answer
check_v2_file b given = answer_of (first_failing (alone_rows (bytes_follow_at b 0) b given)) (image_at b 0 0)

unfoldable pub check_v2_slot : List ℕ → OlderInputs → Answer
check_v2_slot b given = answer_of (first_failing (alone_rows (tail_not_at b 0 255) b given)) (image_at b 0 0)

unfoldable pub check_pair_file : List ℕ → OlderInputs → Answer
check_pair_file b given = answer_of (first_failing (pair_rows (bytes_follow_at b legacy_len) b given)) (image_at b 0 legacy_len)

unfoldable pub check_pair_slot : List ℕ → OlderInputs → Answer
check_pair_slot b given = answer_of (first_failing (pair_rows (tail_not_at b legacy_len 255) b given)) (image_at b 0 legacy_len)

-- ---- any form: by the rows that are asked in front of its V2 header, by what makes that header's codelen wrong otherwise, and by where it starts

-- the key sheet and the headers, before the code
abbrev pub form_headers : (List ℕ → OlderInputs → List Row) → (List ℕ → Bool) → ℕ → List ℕ → OlderInputs → List Row
form_headers before other at b given = step (sheet_impossible given.keys) 16 0 ∷ (before b given ++ v2_headers (other b) b at given)

-- all rows, where S22 fails as told
abbrev pub form_rows : (List ℕ → OlderInputs → List Row) → (List ℕ → Bool) → ℕ → Bool → List ℕ → OlderInputs → List Row
form_rows before other at tail_wrong b given = step (sheet_impossible given.keys) 16 0 ∷ (before b given ++ v2_rows (other b) tail_wrong b at given)

abbrev pub form_check : (List ℕ → OlderInputs → List Row) → (List ℕ → Bool) → ℕ → Bool → List ℕ → OlderInputs → Answer
form_check before other at tail_wrong b given = answer_of (first_failing (form_rows before other at tail_wrong b given)) (image_at b 0 at)

-- ---- the code that is handed back

abbrev pub v2_code : List ℕ → List ℕ
v2_code b = code_at b 0

abbrev pub pair_code : List ℕ → List ℕ
pair_code b = code_at b legacy_len
