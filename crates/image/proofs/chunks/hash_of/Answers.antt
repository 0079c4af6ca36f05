-- `image::chunks::hash_of` meets its contract: bytes are none, or some, whose digest `digest` promises.
use Rattle.std.proofs.Common.{length, refl, sym}
use borrow.Author.Tests.{eqb-true, eqb-false}
use Rattle.image.proofs.Hashes.{hash_empty, hash_used}
use Rattle.image.proofs.chunks.hash_of.Goals as goal

pub returns-then-is_empty : goal.returns-then-is_empty
returns-then-is_empty g c = hash_empty _ _ (eqb-true (length c.args.bytes.now) 0 (sym c.if-is_empty.ensures)) refl

pub returns : goal.returns
returns g c = hash_used _ _ (eqb-false (length c.args.bytes.now) 0 (sym c.if-is_empty.ensures)) c.digest.ensures
