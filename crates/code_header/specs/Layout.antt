-- The 1,024-byte header in front of code (specification, 3): where each field stands, by the offset `at` at which the header starts. The firmware
-- header starts at v, behind the vendor header, and that of a loader at 0 (specification, 16.1). A byte past the end reads as 0.
-- Assumes nothing.
use Rattle.std.specs.Prelude.{ℕ, ◌+◌, List, get_or}
use Rattle.octets.specs.Read.{u32_at, between}

abbrev pub magic_at : List ℕ → ℕ → List ℕ
magic_at b at = between at (at + 4) b

abbrev pub hdr_len_at : List ℕ → ℕ → ℕ
hdr_len_at b at = u32_at b (at + 4)

abbrev pub expiry_at : List ℕ → ℕ → ℕ
expiry_at b at = u32_at b (at + 8)

abbrev pub code_len_at : List ℕ → ℕ → ℕ
code_len_at b at = u32_at b (at + 12)

abbrev pub sigmask_at : List ℕ → ℕ → ℕ
sigmask_at b at = get_or b (at + 959) 0

-- ---- the code behind it

abbrev pub code_start_at : ℕ → ℕ
code_start_at at = at + 1024

-- where the code ends, and with it the image
abbrev pub code_end_at : List ℕ → ℕ → ℕ
code_end_at b at = code_start_at at + code_len_at b at
