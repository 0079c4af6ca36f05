-- The digest to be signed of a loader (specification, 16.3): the same question for both areas.
-- Assumes nothing.
use Rattle.std.specs.Prelude.{ℕ, List, ◌∷◌}
use Rattle.blake2s.specs.Rfc7693.{blake2s_of}
use Rattle.header.specs.Table.{Row, step, first_failing}
use Rattle.signing.specs.Digests.{Digest, signed_at, answered}
use Rattle.loader.specs.Check.{magic_missing, shape_rows}

-- what must hold: S1, the length, S14, S16 and S17
unfoldable pub digest_rows : List ℕ → List Row
digest_rows b = step (magic_missing b) 1 2 ∷ shape_rows b

unfoldable pub loader_digest : List ℕ → Digest
loader_digest b = answered (first_failing (digest_rows b)) (blake2s_of (signed_at b 0))
