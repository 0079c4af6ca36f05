-- `image::chunks::chunk_rows_at` meets its contract: the loop's invariant is that the chunks passed have the right hash, so that the answer is that of those left.
use Rattle.image.proofs.Hashes.{Reached}
use Rattle.image.proofs.chunks.chunk_rows_at.Given as goal

abbrev pub invariant-loop-k : goal.invariant-loop-k
invariant-loop-k g l = Reached g.H.HashFunction.digest_of l.first l.code l.table l.from l.k
