-- `blake2s::blocks::Message::absorb_copied` meets its contract. The invariant: the state now is that after the blocks before block k.
use Rattle.std.proofs.Common.{◌≡◌, ◌-◌}
use Rattle.blake2s.specs.Rfc7693.{absorbed}
use Rattle.blake2s.specs.Parts.{block_of}
use Rattle.blake2s.specs.Words.{state}
use Rattle.blake2s.proofs.blocks.Message.absorb_copied.Given as goal

abbrev pub invariant-loop-k : goal.invariant-loop-k
invariant-loop-k l = state l.now ≡ absorbed (block_of l.self.first l.self.lent.now l.self.skip) l.self.len (state l.initial.now) l.from (l.k - l.from)
