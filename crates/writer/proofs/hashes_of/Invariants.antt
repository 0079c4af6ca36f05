-- So far the first k hashes are in the table, and the next chunk starts where the rooms of k chunks end; each turn appends one.
use mathlib.Core.Path.{◌≡◌}
use lib.ListN.{length, take}
use Rattle.blake2s.specs.Rfc7693.{blake2s_of}
use Rattle.image.specs.Chunks.{chunk_start, hashes_of}
use Rattle.writer.proofs.hashes_of.Given as goal

abbrev pub invariant-loop-k : goal.invariant-loop-k
invariant-loop-k l = record { start : l.at ≡ chunk_start l.first l.k; long : length l.t ≡ 16; filled : take l.k l.t ≡ hashes_of blake2s_of l.k l.first l.code }
