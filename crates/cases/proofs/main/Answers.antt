-- `cases::main` is safe: a buffer that is lent has as many bytes as it was made with.
use Rattle.std.proofs.Common.{ℕ, sym}
use Rattle.std.proofs.lemmas.List.{length-replicate}
use Rattle.cases.proofs.main.Goals as goal

pub slice_bounds-lines-end-2 : goal.slice_bounds-lines-end-2
slice_bounds-lines-end-2 c = sym (length-replicate {0} {A = ℕ} 2101248 0)

pub slice_bounds-lines-end-3 : goal.slice_bounds-lines-end-3
slice_bounds-lines-end-3 c = sym (length-replicate {0} {A = ℕ} 2101248 0)
