-- The digests to be signed of the older model (specification, 17.3), each SHA-256. No key sheet, time, index or verdict is asked.
-- Assumes nothing.
use Rattle.std.specs.Prelude.{ℕ, ◌+◌, ◌-◌, List, [], ◌∷◌, ◌++◌, Bool, false, ltb, length, replicate}
use Rattle.octets.specs.Read.{between}
use Rattle.sha256.specs.Fips180.{sha256_of}
use Rattle.header.specs.Table.{Row, step, first_failing}
use Rattle.signing.specs.Digests.{Digest, answered}
use Rattle.older_model.specs.Steps.{legacy_len, legacy_code_len, code_len_other}
use Rattle.older_model.specs.Check.{legacy_shape, v2_shape}

-- ---- the V2 header

-- its signatures and indexes are taken as zeros: 195 bytes, from 0x220 to 0x2E2
abbrev pub unsigned_from : ℕ
unsigned_from = 0x220

abbrev pub unsigned_len : ℕ
unsigned_len = 195

-- its 1,024 bytes so
unfoldable pub signed_v2 : List ℕ → ℕ → List ℕ
signed_v2 b at = between at (at + unsigned_from) b ++ (replicate unsigned_len 0 ++ between (at + 0x2E3) (at + 1024) b)

-- the same bytes of a header that has only zeros behind its indexes
abbrev pub zeroed_v2 : List ℕ → ℕ → List ℕ
zeroed_v2 b at = between at (at + unsigned_from) b ++ replicate (1024 - unsigned_from) 0

-- by itself, where its steps through the zero bytes hold
unfoldable pub v2_digest : List ℕ → Digest
v2_digest b = answered (first_failing (v2_shape false b 0)) (sha256_of (signed_v2 b 0))

-- in the pair, where those of the legacy header hold too
unfoldable pub pair_v2_digest : List ℕ → Digest
pair_v2_digest b = answered (first_failing (legacy_shape b ++ v2_shape (code_len_other b) b legacy_len)) (sha256_of (signed_v2 b legacy_len))

-- in any form: by the rows that are asked in front of the V2 header, by what makes its codelen wrong otherwise, and by where it starts
abbrev pub form_shape : (List ℕ → List Row) → (List ℕ → Bool) → ℕ → List ℕ → List Row
form_shape before other at b = before b ++ v2_shape (other b) b at

abbrev pub form_digest : (List ℕ → List Row) → (List ℕ → Bool) → ℕ → List ℕ → Digest
form_digest before other at b = answered (first_failing (form_shape before other at b)) (sha256_of (signed_v2 b at))

-- ---- the legacy header

-- the codelen bytes behind it: the V2 header, as it is, and the code
unfoldable pub signed_legacy : List ℕ → List ℕ
signed_legacy b = between legacy_len (legacy_len + legacy_code_len b) b

-- fewer bytes than these
unfoldable pub signed_legacy_cut : List ℕ → Bool
signed_legacy_cut b = ltb (length b) (legacy_len + legacy_code_len b)

-- where its steps through the zero bytes hold, and the codelen bytes are there
unfoldable pub pair_legacy_digest : List ℕ → Digest
pair_legacy_digest b = answered (first_failing (legacy_shape b ++ (step (signed_legacy_cut b) 2 3 ∷ []))) (sha256_of (signed_legacy b))
