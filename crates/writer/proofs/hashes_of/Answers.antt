-- So far the first k hashes are in the table, and the next chunk starts where the rooms of k chunks end; each turn appends one.
use native.Mathlib.Omega.{arith}
use Prim.Native.Nat.{ℕ, ◌+◌}
use mathlib.Core.Path.{◌≡◌, refl, sym, ap, ap₂, ◌∙◌}
use lib.Seq.{take_all}
use borrow.Author.Rules.{rules}
use Rattle.octets.specs.Read.{between}
use Rattle.blake2s.specs.Rfc7693.{blake2s_of}
use Rattle.image.specs.Chunks.{chunk_start, hash_of, hashes_of}
use Rattle.image.proofs.Hashes.{room_most, start_more, start_most, chunk_is, hash_of_more}
use Rattle.writer.proofs.hashes_of.Goals as goal

pub loop-k-init : goal.loop-k-init
unfolding chunk_start hashes_of
loop-k-init c = record { start = refl; long = search rules; filled = refl }

pub overflow_add-next : goal.overflow_add-next
overflow_add-next c = omega (arith, c.room_of.ensures, c.requires, room_most c.args.first c.loop-k.k, start_most c.args.first c.loop-k.k)

pub loop-k-preserved : goal.loop-k-preserved
loop-k-preserved c =
    let i = c.loop-k.invariant in
    let e : c.loop-k.at + c.room_of.result ≡ chunk_start c.args.first (c.loop-k.k + 1) = ap₂ (λ (x y : ℕ). x + y) i.start c.room_of.ensures ∙ start_more c.args.first c.loop-k.k in
    record {
      start = e;
      long = search rules;
      filled = hash_of_more blake2s_of c.loop-k.t c.args.first c.args.code.now c.loop-k.k (omega arith) i.filled
          (c.hash_of.ensures
          ∙ ap (hash_of blake2s_of) (c.part.ensures ∙ ap₂ (λ (x y : ℕ). between x y c.args.code.now) i.start e ∙ chunk_is c.args.first c.loop-k.k c.args.code.now));
    }

pub returns : goal.returns
returns c =
    let e : c.loop-k.k ≡ 16 = omega arith in
    sym (take_all 16 c.loop-k.t (omega arith)) ∙ (rw e at c.loop-k.invariant.filled)
