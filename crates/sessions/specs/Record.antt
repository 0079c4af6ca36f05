-- The session's record, and when it is consistent with a slot (specification, 10.2).
-- Assumes nothing.
use Rattle.std.specs.Prelude.{ℕ, ◌+◌, ◌-◌, ◌/◌, List, [], ◌∷◌, Bool, ◌&&◌, ◌||◌, eqb, leb}
use Rattle.octets.specs.Rounding.{multiple_of}
use Rattle.sessions.specs.declared.Session.{Session}

-- the phases of a session. Accepted: the file check has accepted the file, and word 0 is to be seen in the slot. Any other number is no phase
abbrev pub over : ℕ
over = 0

abbrev pub live : ℕ
live = 1

abbrev pub accepted : ℕ
accepted = 2

-- a slot's length that begin takes: a multiple of 4,096, from 4,096 to 2,097,152
unfoldable pub slot_len_right : ℕ → Bool
slot_len_right n = multiple_of 4096 n && (leb 4096 n && leb n 2097152)

-- a file's length that begin takes for a slot of n bytes: a multiple of 4, from 1,540 to the slot's
unfoldable pub file_len_right : ℕ → ℕ → Bool
file_len_right n f = multiple_of 4 f && (leb 1540 f && leb f n)

abbrev pub pages_of : ℕ → ℕ
pages_of n = n / 4096

-- words stored of the first t bytes of a file: word 0 is not among them
abbrev pub words_stored : ℕ → ℕ
words_stored t = t / 4 - 1

-- no operation was made since begin
abbrev pub untouched : Session → Bool
untouched s = eqb s.operations 0

-- the operations are the zero that the first Erase stores, the pages erased and the words stored; or none was made
abbrev pub counted : Session → Bool
counted s = eqb s.operations (s.pages + words_stored s.taken + 1) || (untouched s && eqb s.pages 0)

-- the record is that of an open session, and consistent with a slot of n bytes: some session reaches it
unfoldable pub sound : Session → ℕ → Bool
sound s n =
    leb s.pages (pages_of n)
    && (eqb s.phase live
    && (eqb s.slot n
    && (slot_len_right n
    && (file_len_right n s.file
    && ((eqb s.pages (pages_of n) || eqb s.taken 0)
    && (leb s.taken s.file
    && counted s))))))

-- some pages are not erased yet
abbrev pub erasing : Session → ℕ → Bool
erasing s n = sound s n && leb (s.pages + 1) (pages_of n)

-- all pages are erased
abbrev pub filling : Session → ℕ → Bool
filling s n = sound s n && eqb s.pages (pages_of n)

-- all pages are erased and all bytes taken
abbrev pub full : Session → ℕ → Bool
full s n = sound s n && (eqb s.pages (pages_of n) && eqb s.taken s.file)

-- the record is that of an accepted session, and consistent with a slot of n bytes: word 0 counts among the operations too
unfoldable pub waiting : Session → ℕ → Bool
waiting s n =
    eqb s.phase accepted
    && (eqb s.slot n
    && (slot_len_right n
    && (file_len_right n s.file
    && (eqb s.pages (pages_of n)
    && (eqb s.taken s.file
    && eqb s.operations (pages_of n + s.file / 4 + 1))))))

-- ---- records

abbrev pub no_word : List ℕ
no_word = 0 ∷ 0 ∷ 0 ∷ 0 ∷ []

-- a record with nothing done
abbrev pub new_record : ℕ → ℕ → ℕ → Session
new_record phase n f = record { phase = phase; slot = n; file = f; pages = 0; taken = 0; operations = 0; first = no_word; held = no_word }

-- zero is stored in word 0
abbrev pub with_zero : Session → Session
with_zero s =
    record { phase = s.phase; slot = s.slot; file = s.file; pages = s.pages; taken = s.taken; operations = s.operations + 1; first = s.first; held = s.held }

-- one page more is erased
abbrev pub with_page : Session → Session
with_page s =
    record { phase = s.phase; slot = s.slot; file = s.file; pages = s.pages + 1; taken = s.taken; operations = s.operations + 1; first = s.first; held = s.held }

-- k bytes more are taken, with the word in progress, the first word, and the words that were stored
abbrev pub with_bytes : Session → ℕ → List ℕ → List ℕ → ℕ → Session
with_bytes s k held first stored =
    record { phase = s.phase; slot = s.slot; file = s.file; pages = s.pages; taken = s.taken + k; operations = s.operations + stored; first = first; held = held }

-- the session is in another phase, after so many operations
abbrev pub with_phase : Session → ℕ → ℕ → Session
with_phase s phase operations =
    record { phase = phase; slot = s.slot; file = s.file; pages = s.pages; taken = s.taken; operations = operations; first = s.first; held = s.held }
