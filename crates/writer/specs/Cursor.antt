-- What a cursor leaves: its bytes with a field written, and its place behind that field.
-- Assumes nothing.
use Rattle.std.specs.Prelude.{ℕ, ◌≡◌, List, length}
use Rattle.octets.specs.Put.{Put}
use Rattle.writer.specs.declared.cursor.Cursor.{Cursor}

-- from old to new the bytes s are written, at the place where old stands
pub record Wrote (s : List ℕ) (old new : Cursor) : Type 0 where
  pub same_reference : new.out.ghost_name ≡ old.out.ghost_name
  pub same_length : length new.out.now ≡ length old.out.now
  pub put : Put old.at s old.out.now new.at new.out.now
