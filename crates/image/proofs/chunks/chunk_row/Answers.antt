-- `image::chunks::chunk_row` meets its contract: the test is the row's by what the calls promise, and so is the refusal.
use Rattle.image.specs.Chunks.{chunk_row}
use Rattle.image.proofs.Hashes.{row_failed, row_passed}
use Rattle.image.proofs.chunks.chunk_row.Goals as goal

pub returns-then-same_digest : goal.returns-then-same_digest
unfolding chunk_row
returns-then-same_digest g c = row_passed _ (rw (c.same_digest.ensures, c.hash_of-right.ensures) at c.if-same_digest.true)

pub returns : goal.returns
unfolding chunk_row
returns g c = row_failed (rw (c.same_digest.ensures, c.hash_of-right.ensures) at c.if-same_digest.false) c.wrong_hash.ensures
