-- What the steps of a check ask of the header in front of code, and of the bytes behind it (specification, 6 and 16.2): each a test that is true where the
-- step fails, over the offset `at` at which the header starts. S9 and S10 ask two of them of the vendor header.
-- Assumes nothing.
use Rattle.std.specs.Prelude.{ℕ, ◌+◌, List, Bool, not, ◌&&◌, ◌||◌, length, drop, ltb, eqb}
use Rattle.octets.specs.Read.{between, all_are, starts_with, bit_at_or_above, ones_of}
use Rattle.octets.specs.Rounding.{multiple_of}
use Rattle.code_header.specs.Layout.{magic_at, hdr_len_at, expiry_at, code_len_at, sigmask_at, code_end_at}

-- ---- of single numbers

-- an expiry that is not 0, and a time above it
abbrev pub expired : ℕ → ℕ → Bool
expired expiry time = not (eqb expiry 0) && ltb expiry time

-- a mask with a bit at n or higher, or whose ones do not number exactly m
abbrev pub mask_wrong : ℕ → ℕ → ℕ → Bool
mask_wrong m n mask = bit_at_or_above n mask || not (eqb (ones_of mask) m)

-- a code length that is 0, not a multiple of 4, or above a limit
abbrev pub code_len_outside : ℕ → ℕ → Bool
code_len_outside most c = eqb c 0 || not (multiple_of 4 c) || ltb most c

-- ---- of the header

-- S12: fewer bytes than the header ends at
abbrev pub header_cut_at : List ℕ → ℕ → Bool
header_cut_at b at = ltb (length b) (at + 1024)

-- S13: not these letters, or fewer than 4 bytes
abbrev pub magic_missing_at : List ℕ → ℕ → List ℕ → Bool
magic_missing_at b at letters = not (starts_with letters (magic_at b at))

-- S14
abbrev pub hdr_len_wrong_at : List ℕ → ℕ → Bool
hdr_len_wrong_at b at = not (eqb (hdr_len_at b at) 1024)

-- S16, by the most bytes that the code may have
abbrev pub code_len_wrong_at : List ℕ → ℕ → ℕ → Bool
code_len_wrong_at b at most = code_len_outside most (code_len_at b at)

-- S17: the 8 bytes from 24 on, and those from a gap up to its end
abbrev pub bytes_not_zero_at : List ℕ → ℕ → ℕ → ℕ → Bool
bytes_not_zero_at b at gap end = not (all_are 0 (between (at + 24) (at + 32) b) && all_are 0 (between (at + gap) (at + end) b))

-- S18
abbrev pub expired_at : List ℕ → ℕ → ℕ → Bool
expired_at b at time = expired (expiry_at b at) time

-- S19, by m of n
abbrev pub mask_wrong_at : List ℕ → ℕ → ℕ → ℕ → Bool
mask_wrong_at b at m n = mask_wrong m n (sigmask_at b at)

-- ---- of the code's extent

-- S21: fewer bytes than the code ends at
abbrev pub code_cut_at : List ℕ → ℕ → Bool
code_cut_at b at = ltb (length b) (code_end_at b at)

-- S22 of a file: more bytes than that
abbrev pub bytes_follow_at : List ℕ → ℕ → Bool
bytes_follow_at b at = ltb (code_end_at b at) (length b)

-- S22 where bytes may follow: a later byte that is not x
abbrev pub tail_not_at : List ℕ → ℕ → ℕ → Bool
tail_not_at b at x = not (all_are x (drop (code_end_at b at) b))
