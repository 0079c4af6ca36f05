-- The older model's two headers (specification, 17.1): where their fields stand, and what the steps ask of them (specification, 17.2). Each test is
-- true where its step fails. A byte past the end reads as 0.
-- Assumes nothing.
use Rattle.std.specs.Prelude.{ℕ, ◌+◌, List, [], ◌∷◌, Bool, not, ◌&&◌, ◌||◌, length, get_or, leb, ltb, eqb}
use Rattle.octets.specs.Read.{u32_at, between, all_are}
use Rattle.octets.specs.Rounding.{multiple_of}
use Rattle.code_header.specs.Layout.{code_len_at}
use Rattle.code_header.specs.Tests.{magic_missing_at, code_len_wrong_at, bytes_not_zero_at}
use Rattle.older_model.specs.declared.Verdicts.{Verdicts}

-- ---- the key sheet, the indexes and the verdicts

-- the number of keys in the sheet is not 3 to 255
unfoldable pub sheet_impossible : ℕ → Bool
sheet_impossible keys = not (leb 3 keys && leb keys 255)

-- an index that names no key: the first key is number 1, and the last is number `keys`
abbrev pub no_key : ℕ → ℕ → Bool
no_key keys i = eqb i 0 || ltb keys i

-- of three indexes one names no key, or two name the same
abbrev pub indexes_wrong : ℕ → ℕ → ℕ → ℕ → Bool
indexes_wrong keys i j k = no_key keys i || no_key keys j || no_key keys k || eqb i j || eqb i k || eqb j k

-- the indexes stand side by side, from an offset on
unfoldable pub indexes_wrong_at : List ℕ → ℕ → ℕ → Bool
indexes_wrong_at b at keys = indexes_wrong keys (get_or b at 0) (get_or b (at + 1) 0) (get_or b (at + 2) 0)

-- one of the three signatures of a header is not right
abbrev pub verdict_missing : Verdicts → Bool
verdict_missing x = not (x.one && x.two && x.three)

-- ---- the legacy header: the first 256 bytes of the pair

-- the letters TRZR
abbrev pub TRZR : List ℕ
TRZR = 84 ∷ 82 ∷ 90 ∷ 82 ∷ []

abbrev pub legacy_len : ℕ
legacy_len = 256

-- codelen: the length of the V2 header and the code
abbrev pub legacy_code_len : List ℕ → ℕ
legacy_code_len b = u32_at b 4

-- where the three indexes stand
abbrev pub legacy_indexes : ℕ
legacy_indexes = 8

unfoldable pub legacy_magic_missing : List ℕ → Bool
legacy_magic_missing b = magic_missing_at b 0 TRZR

unfoldable pub legacy_cut : List ℕ → Bool
legacy_cut b = ltb (length b) legacy_len

-- a multiple of 4, from 1,028 to 2,096,896
unfoldable pub legacy_code_len_wrong : List ℕ → Bool
legacy_code_len_wrong b = not (multiple_of 4 (legacy_code_len b)) || ltb (legacy_code_len b) 1028 || ltb 2096896 (legacy_code_len b)

-- the flags byte and the 52 bytes after it
unfoldable pub legacy_bytes_not_zero : List ℕ → Bool
legacy_bytes_not_zero b = not (all_are 0 (between 11 64 b))

-- ---- the V2 header, over the offset `at` at which it starts: 0 by itself, 256 in the pair

-- the letters TRZF
abbrev pub TRZF : List ℕ
TRZF = 84 ∷ 82 ∷ 90 ∷ 70 ∷ []

-- the most bytes that the code may have
abbrev pub most_code : ℕ
most_code = 2095872

-- what chunk 1 has room for, in both forms: 131,072 - 1,024 - 256
abbrev pub first_room : ℕ
first_room = 129792

-- where the three indexes stand, behind three signatures of 64 bytes from 0x220 on
abbrev pub v2_indexes : ℕ → ℕ
v2_indexes at = at + 0x2E0

-- 0, not a multiple of 4, or above the limit; or not what a legacy header in front of it wants, which other says
unfoldable pub v2_code_len_wrong : Bool → List ℕ → ℕ → Bool
v2_code_len_wrong other b at = code_len_wrong_at b at most_code || other

-- in the pair: codelen is not exactly 1,024 less than that of the legacy header
unfoldable pub code_len_other : List ℕ → Bool
code_len_other b = not (eqb (code_len_at b legacy_len + 1024) (legacy_code_len b))

-- the 8 bytes from 24 on, and all from 0x2E3 on
unfoldable pub v2_bytes_not_zero : List ℕ → ℕ → Bool
v2_bytes_not_zero b at = bytes_not_zero_at b at 0x2E3 1024
