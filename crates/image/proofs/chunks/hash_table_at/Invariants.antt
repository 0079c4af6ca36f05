-- `image::chunks::hash_table_at` meets its contract: the loop's invariant is that the first k hashes are in the table; each turn appends one.
use mathlib.Core.Path.{◌≡◌}
use lib.ListN.{length, take}
use Rattle.image.specs.Chunks.{hashes_at}
use Rattle.image.proofs.chunks.hash_table_at.Given as goal

abbrev pub invariant-loop-k : goal.invariant-loop-k
invariant-loop-k l = (length l.t ≡ 16) × (take l.k l.t ≡ hashes_at l.k l.b l.from)
