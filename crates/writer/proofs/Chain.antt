-- What a cursor writes one behind the other is one field.
-- Assumes nothing.
use mathlib.Core.Path.{◌∙◌}
use mathlib.Core.List.{List, ◌++◌}
use Prim.Native.Nat.{ℕ}
use Rattle.octets.proofs.Splice.{next}
use Rattle.writer.specs.Cursor.{Wrote}
use Rattle.writer.specs.declared.cursor.Cursor.{Cursor}

pub wrote_next : {s t : List ℕ} {a b c : Cursor} → Wrote s a b → Wrote t b c → Wrote (s ++ t) a c
wrote_next f g =
    record {
      same_reference = g.same_reference ∙ f.same_reference;
      same_length = g.same_length ∙ f.same_length;
      put = next f.put g.put;
    }
