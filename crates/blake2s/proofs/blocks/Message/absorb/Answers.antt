-- `blake2s::blocks::Message::absorb` meets its contract: the blocks before the run, the run, and those behind it.
use Rattle.std.proofs.Common.{◌≡◌, ℕ, ◌+◌, ◌-◌, List, refl, ap, ◌∙◌, arith}
use Rattle.blake2s.specs.Rfc7693.{absorbed}
use Rattle.blake2s.specs.Parts.{block_of}
use Rattle.blake2s.specs.Words.{state}
use Rattle.blake2s.proofs.Laws.{absorbed_on, run_in}
use Rattle.blake2s.proofs.InPlace.{whole_fits, past_whole}
use Rattle.blake2s.proofs.blocks.Message.absorb.Goals as goal
use Rattle.blake2s.proofs.blocks.Message.absorb.Goals.{then-count-gt0, else-count-gt0}

pub overflow_sub-start : goal.overflow_sub-start
overflow_sub-start c = (whole_fits _ _ _ _ c.whole_blocks-count.ensures).2 c.if-count-gt0.true

pub absorb_run-within-requires : goal.absorb_run-within-requires
absorb_run-within-requires c =
    let f = whole_fits _ _ _ _ c.whole_blocks-count.ensures in
    (omega (arith, f.1), omega (arith, f.0))

pub overflow_add-start : goal.overflow_add-start
overflow_add-start c = omega (arith, (whole_fits _ _ _ _ c.whole_blocks-count.ensures).0)

pub absorb_copied-requires : goal.absorb_copied-requires
absorb_copied-requires c =
    let f = whole_fits _ _ _ _ c.whole_blocks-count.ensures in
    (omega (arith, f.0), omega arith, λ k g h e. past_whole _ _ _ _ k c.whole_blocks-count.ensures (omega arith) g h)

pub returns : goal.returns
returns c =
    let m = c.args.self.now in
    let start = c.clamp-start.result in
    let stop = start + c.whole_blocks-count.result in
    let f = whole_fits _ _ _ _ c.whole_blocks-count.ensures in
    let blocks : ℕ → List ℕ = block_of m.first m.lent.now m.skip in
    let within : state c.if-count-gt0.within ≡ absorbed blocks m.len (state c.args.h) c.args.from (stop - c.args.from) =
    elim c.if-count-gt0.branch [
      | then-count-gt0 w ↦
          ap state w.within-is
          ∙ absorbed_on _ blocks m.len (state c.args.h) c.args.from start c.whole_blocks-count.result (omega arith)
          (λ j g h. run_in m.first m.lent.now m.skip start (f.2 w.if-count-gt0.true) j g) c.absorb_copied-before.ensures w.absorb_run-within.ensures
      | else-count-gt0 w ↦ let none : stop ≡ start = omega arith in ap state w.within-is ∙ rw none c.absorb_copied-before.ensures
    ] in
    let all : stop + (c.args.end - stop) - c.args.from ≡ c.args.end - c.args.from = omega (arith, f.0) in
    let behind = absorbed_on blocks blocks m.len (state c.args.h) c.args.from stop (c.args.end - stop) (omega arith) (λ j g h. refl) within c.absorb_copied.ensures in
    rw all at behind
