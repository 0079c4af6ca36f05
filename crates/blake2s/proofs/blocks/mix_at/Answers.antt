-- `blake2s::blocks::mix_at` meets its contract: by what the calls ensure.
use Rattle.blake2s.proofs.blocks.mix_at.Goals as goal

pub returns : goal.returns
returns c = rw c.block_at.ensures at c.compress.ensures
