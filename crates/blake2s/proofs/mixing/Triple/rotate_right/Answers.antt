-- `blake2s::mixing::Triple::rotate_right` meets its contract: the standard library's rotation is the definition's.
use Rattle.std.proofs.Common.{◌∙◌, arith}
use Rattle.blake2s.proofs.Halves.{rotated}
use Rattle.blake2s.proofs.mixing.Triple.rotate_right.Goals as goal

pub returns : goal.returns
returns c = (
  c.rotate_right.ensures ∙ rotated c.args.self.x c.args.n c.requires.0 c.requires.1 (omega arith),
  c.rotate_right-2.ensures ∙ rotated c.args.self.y c.args.n c.requires.0 c.requires.1 (omega arith),
  c.rotate_right-3.ensures ∙ rotated c.args.self.z c.args.n c.requires.0 c.requires.1 (omega arith),
)
