-- The firmware header as its fields one behind the other, when its writer refuses, and what the call answers and leaves (specification, 3 and 8.2).
-- Assumes nothing.
use Rattle.std.specs.Prelude.{ℕ, List, [], ◌∷◌, ◌++◌, length, ltb}
use Rattle.octets.specs.Put.{le32, zeros}
use Rattle.header.specs.Layout.{TRZF, first_room}
use Rattle.header.specs.Steps.{length_impossible, code_len_impossible}
use Rattle.header.specs.Table.{Row, step, first_failing}
use Rattle.blake2s.specs.Rfc7693.{blake2s_of}
use Rattle.image.specs.Chunks.{hashes_of}
use Rattle.image.specs.declared.Version.{Version}
use Rattle.writer.specs.Writers.{Written, answered, output}
use Rattle.writer.specs.declared.Firmware.{Firmware}

-- ---- the fields

abbrev pub quad : Version → List ℕ
quad x = x.major ∷ x.minor ∷ x.patch ∷ x.build ∷ []

-- offsets 0 to 31
unfoldable pub firmware_head : Firmware → ℕ → List ℕ
firmware_head f codelen =
    TRZF
    ++ (le32 1024
    ++ (le32 f.expiry
    ++ (le32 codelen
    ++ (quad f.version
    ++ (quad f.fix
    ++ (0 ∷ 0 ∷ 0 ∷ 0 ∷ 0 ∷ 0 ∷ 0 ∷ 0 ∷ []))))))

-- hashes one behind the other
abbrev pub joined : List (List ℕ) → List ℕ
joined [] = []
joined (x ∷ xs) = x ++ joined xs

-- the 1,024 bytes, with the hashes as a table
unfoldable pub firmware_fields : Firmware → ℕ → List (List ℕ) → List ℕ → List ℕ
firmware_fields f codelen hashes sig = firmware_head f codelen ++ (joined hashes ++ (zeros 415 ++ (f.mask ∷ sig)))

-- the firmware header, for code behind a vendor header of v bytes
unfoldable pub firmware_header : ℕ → Firmware → List ℕ → List ℕ → List ℕ
firmware_header v f code sig = firmware_fields f (length code) (hashes_of blake2s_of 16 (first_room v) code) sig

-- ---- the refusals, in order, by the lengths of the code and the output

unfoldable pub firmware_refusals : ℕ → ℕ → ℕ → List Row
firmware_refusals v codelen room =
    step (length_impossible v) 3 0
    ∷ step (code_len_impossible v codelen) 12 0
    ∷ step (ltb room 1024) 21 0
    ∷ []

-- ---- the call: what it answers and leaves, by v, the code, the signature and the output

abbrev pub firmware_answer : ℕ → List ℕ → List ℕ → Written
firmware_answer v code out = answered (first_failing (firmware_refusals v (length code) (length out))) 1024

abbrev pub firmware_output : ℕ → Firmware → List ℕ → List ℕ → List ℕ → List ℕ
firmware_output v f code sig out = output (first_failing (firmware_refusals v (length code) (length out))) (firmware_header v f code sig) out
