-- The check of a loader in one area, the card or the internal area (specification, 16.1 and 16.2): the first failing step answers. A loader has no
-- vendor header. Its own header starts at 0, so v is counted as 0, and told as 0.
-- Assumes nothing.
use Rattle.std.specs.Prelude.{ℕ, List, [], ◌∷◌, ◌++◌, Bool, not}
use Rattle.blake2s.specs.Rfc7693.{blake2s_of}
use Rattle.code_header.specs.Tests.{header_cut_at, magic_missing_at, hdr_len_wrong_at, code_len_wrong_at, bytes_not_zero_at, expired_at, mask_wrong_at, tail_not_at}
use Rattle.header.specs.Steps.{policy_impossible}
use Rattle.header.specs.Table.{Row, step, first_failing, extent_rows_at}
use Rattle.image.specs.Chunks.{hash_table_at, code_at, chunk_rows}
use Rattle.image.specs.Answer.{Answer, image_at, answer_of}
use Rattle.loader.specs.declared.AreaInputs.{AreaInputs}

-- the letters TRZB
abbrev pub TRZB : List ℕ
TRZB = 84 ∷ 82 ∷ 90 ∷ 66 ∷ []

-- the most bytes that the code may have, which is the room of chunk 1: 131,072 - 1,024
abbrev pub most_code : ℕ
most_code = 130048

-- the code in an area
abbrev pub code_of : List ℕ → List ℕ
code_of b = code_at b 0

-- ---- the steps

-- S1
unfoldable pub magic_missing : List ℕ → Bool
magic_missing b = magic_missing_at b 0 TRZB

-- fewer than 1,024 bytes; S14, S16 and S17
unfoldable pub shape_rows : List ℕ → List Row
shape_rows b =
    step (header_cut_at b 0) 2 2
    ∷ step (hdr_len_wrong_at b 0) 11 2
    ∷ step (code_len_wrong_at b 0 most_code) 12 2
    ∷ step (bytes_not_zero_at b 0 544 959) 6 2
    ∷ []

-- S18 to S20, S19 by the key policy
unfoldable pub policy_rows : List ℕ → AreaInputs → Bool → List Row
policy_rows b given verdict =
    step (expired_at b 0 given.time) 7 2
    ∷ step (mask_wrong_at b 0 given.m given.n) 8 2
    ∷ step (not verdict) 9 2
    ∷ []

-- S21; and S22: a later byte that is not x
unfoldable pub extent_rows : ℕ → List ℕ → List Row
extent_rows x b = extent_rows_at (tail_not_at b 0 x) b 0

-- S23: chunk 1 holds all of the code
unfoldable pub hash_rows : List ℕ → List Row
hash_rows b = chunk_rows blake2s_of most_code (code_of b) (hash_table_at b 0) 0 16

unfoldable pub area_rows : ℕ → List ℕ → AreaInputs → Bool → List Row
area_rows x b given verdict =
    step (magic_missing b) 1 2
    ∷ step (policy_impossible given.m given.n) 16 0
    ∷ (shape_rows b ++ (policy_rows b given verdict ++ (extent_rows x b ++ hash_rows b)))

-- ---- the two areas, which differ in S22 and in the verdict

unfoldable pub check_area : ℕ → List ℕ → AreaInputs → Bool → Answer
check_area x b given verdict = answer_of (first_failing (area_rows x b given verdict)) (image_at b 0 0)

-- the later bytes of a card are 0
unfoldable pub check_card : List ℕ → AreaInputs → Answer
check_card b given = check_area 0 b given given.card

-- those of the internal area are 255
unfoldable pub check_internal : List ℕ → AreaInputs → Answer
check_internal b given = check_area 255 b given given.internal
