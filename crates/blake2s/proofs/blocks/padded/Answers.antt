-- `blake2s::blocks::padded` meets its contract: the bytes that are there are copied over zeros.
use Rattle.blake2s.proofs.Laws.{block_copied}
use Rattle.blake2s.proofs.blocks.padded.Goals as goal

pub returns : goal.returns
returns c = block_copied c.args.s.now c.args.i c.rest-bytes.ensures c.min.ensures c.copied.ensures.0
