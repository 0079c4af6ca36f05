-- Five fields written one behind the other are one field; the zeros reach from the string's end to the picture's start.
use native.Mathlib.Omega.{arith}
use Prim.Native.Nat.{◌-◌}
use mathlib.Core.Path.{◌≡◌}
use mathlib.Core.List.{append_assoc}
use lib.ListN.{length}
use Rattle.header.specs.Layout.{string_end, picture_start}
use Rattle.writer.specs.Vendor.{vendor_front}
use Rattle.writer.proofs.Chain.{wrote_next}
use Rattle.writer.proofs.vendor_front.Goals as goal

pub returns-clause-wrote : goal.returns-clause-wrote
unfolding vendor_front
returns-clause-wrote c =
    let z : c.picture_start.result - c.bytes-2.new.self.at ≡ picture_start c.args.f.n (length c.args.string.now) - string_end c.args.f.n (length c.args.string.now) =
    omega (arith, c.requires, c.picture_start.ensures, c.bytes-2.ensures.put.place, c.byte.ensures.put.place, c.bytes.ensures.put.place, c.vendor_head.ensures.place) in
    rw z at
    (simp append_assoc at
    (wrote_next (wrote_next (wrote_next (wrote_next c.vendor_head.ensures.wrote c.bytes.ensures) c.byte.ensures) c.bytes-2.ensures) c.zeros.ensures.wrote))
