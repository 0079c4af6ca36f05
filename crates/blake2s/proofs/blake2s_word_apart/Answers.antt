-- `blake2s::blake2s_word_apart` meets its contract: its first block is the word's and the others are the lent bytes', four places earlier.
use Rattle.std.proofs.Common.{arith}
use Rattle.blake2s.proofs.Laws.{message_hashed}
use Rattle.blake2s.proofs.blake2s_word_apart.Goals as goal

pub returns : goal.returns
returns c = message_hashed c.args.first _ _ c.after_word.ensures.1 (omega arith) (omega arith) (λ h. c.after_word.ensures.0) c.digest.ensures
