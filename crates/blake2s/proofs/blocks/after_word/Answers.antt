-- `blake2s::blocks::after_word` meets its contract: the word and the bytes are copied over zeros.
use Rattle.std.proofs.Common.{◌≡◌, length, rules}
use Rattle.blake2s.proofs.Laws.{word_block}
use Rattle.blake2s.proofs.blocks.after_word.Goals as goal

pub returns : goal.returns
returns c =
    let w = c.args.first in
    let l : length w ≡ 4 = search rules in
    (word_block w _ l c.min.ensures c.copied-word.ensures.0 c.copied.ensures.1 c.copied.ensures.0, l)
