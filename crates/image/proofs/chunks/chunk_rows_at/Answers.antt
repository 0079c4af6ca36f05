-- `image::chunks::chunk_rows_at` meets its contract: the loop's invariant is that the chunks passed have the right hash, so that the answer is that of those left.
use native.Mathlib.Omega.{arith}
use mathlib.Core.Path.{◌≡◌, ap, ap₂, ◌∙◌}
use mathlib.Core.List.{List}
use Prim.Native.Nat.{ℕ}
use Rattle.octets.specs.Read.{span_of}
use Rattle.octets.specs.declared.Span.{Span}
use Rattle.header.specs.Table.{first_failing}
use Rattle.header.proofs.Rows.{handed_on}
use Rattle.image.specs.Chunks.{chunk_rows}
use Rattle.image.proofs.Hashes.{reached_first, next_small, reached_end, reached_next, reached_wrong}
use Rattle.image.proofs.chunks.chunk_rows_at.Goals as goal

-- the code and the table that the loop reads are those of the promise
rows_are : (digest : List ℕ → List ℕ) (first : ℕ) {code code' : List ℕ} {table table' : List (List ℕ)} → code ≡ code' → table ≡ table'
    → first_failing (chunk_rows digest first code table 0 16) ≡ first_failing (chunk_rows digest first code' table' 0 16)
rows_are digest first p q = ap₂ (λ (code : List ℕ) (table : List (List ℕ)). first_failing (chunk_rows digest first code table 0 16)) p q

pub loop-k-init : goal.loop-k-init
loop-k-init g c = reached_first _ _ _ _

pub overflow_add-next : goal.overflow_add-next
overflow_add-next g c = omega (arith, next_small c.loop-k.invariant c.room_of.ensures, c.ranges.first.fits)

pub returns-in_err-chunk_row : goal.returns-in_err-chunk_row
returns-in_err-chunk_row g c =
    handed_on c.from_residual.ensures
    ∙ reached_wrong c.loop-k.invariant (omega arith) c.room_of.ensures c.part.ensures c.chunk_row.ensures c.in_err-chunk_row.was
    ∙ rows_are g.H.HashFunction.digest_of c.args.first (c.span_of-code.ensures ∙ ap (λ (x : Span). span_of x c.args.header.bytes.now) c.code_span_at.ensures) c.hash_table_at-table.ensures

pub loop-k-preserved : goal.loop-k-preserved
loop-k-preserved g c = reached_next c.loop-k.invariant (omega arith) c.room_of.ensures c.part.ensures c.chunk_row.ensures c.in_ok-chunk_row.was

pub returns : goal.returns
returns g c =
    reached_end c.loop-k.invariant (omega arith)
    ∙ rows_are g.H.HashFunction.digest_of c.args.first (c.span_of-code.ensures ∙ ap (λ (x : Span). span_of x c.args.header.bytes.now) c.code_span_at.ensures) c.hash_table_at-table.ensures
