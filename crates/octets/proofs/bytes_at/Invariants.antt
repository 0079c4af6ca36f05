-- After j turns the first j bytes of the array are the first j of the place.
use Rattle.std.proofs.Common.{◌≡◌, length, take}
use Rattle.octets.specs.Read.{bytes_at}
use Rattle.octets.proofs.bytes_at.Given as goal

abbrev pub invariant-loop-j : goal.invariant-loop-j
invariant-loop-j g l = record { long : length l.bytes ≡ g.row.N; filled : take l.j l.bytes ≡ bytes_at l.j l.s l.at }
