-- What a sound record's numbers are bounded by: the sums and places that a call makes of them fit.
-- Assumes nothing.
use Rattle.std.proofs.Common.{◌≡◌, ℕ, ◌≤◌, List, true, length, take}
use Rattle.std.proofs.Math.Seq.{length-take-le}
use Rattle.octets.proofs.Laws.{and_left}
use Rattle.sessions.specs.Record.{sound, full}
use Rattle.sessions.specs.declared.Session.{Session}
use Rattle.sessions.proofs.Facts.{sound_facts, counted_most}

pub record Bounds (s : Session) (n : ℕ) : Type 0 where
  pub operations : s.operations ≤ 524800
  pub taken : s.taken ≤ s.file
  pub file : s.file ≤ n

pub sound_bounds : (s : Session) (n : ℕ) → sound s n ≡ true → Bounds s n
sound_bounds s n h =
    let f = sound_facts s n h in
    record { operations = counted_most s n f; taken = f.taken; file = f.lengths.file_most }

pub full_bounds : (s : Session) (n : ℕ) → full s n ≡ true → Bounds s n
full_bounds s n h = sound_bounds s n (and_left (sound s n) _ h)

-- the file of a full record lies in the slot
pub full_length : (s : Session) (slot : List ℕ) → full s (length slot) ≡ true → length (take s.file slot) ≡ s.file
full_length s slot h = length-take-le s.file slot (full_bounds s (length slot) h).file
