-- So far the loop has pasted the first i bytes of s; each turn pastes one more, and all of them pasted is the splice.
use mathlib.Core.Path.{◌≡◌}
use lib.ListN.{length}
use lib.Seq.{paste}
use Rattle.octets.proofs.put.put_bytes.Given as goal

abbrev pub invariant-loop-i : goal.invariant-loop-i
invariant-loop-i l = record {
  same_length : length l.out ≡ length l.initial.out;
  pasted : l.out ≡ paste l.initial.out l.at l.s l.i;
}
