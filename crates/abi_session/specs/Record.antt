-- How a session's record stands in sixteen words, and what the exported calls of the installer leave in them.
-- Assumes nothing.
use Rattle.std.specs.Prelude.{ℕ, ◌%◌, Bool, true, false, cond, List, [], ◌∷◌, get_or, replicate}
use Rattle.octets.specs.Read.{u32_at}
use Rattle.octets.specs.Put.{le32}
use Rattle.sessions.specs.declared.Session.{Session}
use Rattle.sessions.specs.declared.Turn.{Turn}
use Rattle.sessions.specs.declared.Plan.{Plan}
use Rattle.sessions.specs.declared.Reply.{Reply}
use Rattle.sessions.specs.declared.Reply.TheVariants.{Begun, Erased, Took, Accepted, Done, Refused, Rejected}

-- the record that words hold. The two words of the file have their least byte first
unfoldable pub session_of : List ℕ → Session
session_of w =
    record {
      phase = get_or w 0 0;
      slot = get_or w 1 0;
      file = get_or w 2 0;
      pages = get_or w 3 0;
      taken = get_or w 4 0;
      operations = get_or w 5 0;
      first = le32 (get_or w 6 0);
      held = le32 (get_or w 7 0);
    }

-- a record as words, over what the words were before: the last eight are kept for later, and stay
unfoldable pub words_over : List ℕ → Session → List ℕ
words_over old s =
    s.phase
    ∷ s.slot % 4294967296
    ∷ s.file % 4294967296
    ∷ s.pages % 4294967296
    ∷ s.taken % 4294967296
    ∷ s.operations % 4294967296
    ∷ u32_at s.first 0
    ∷ u32_at s.held 0
    ∷ get_or old 8 0
    ∷ get_or old 9 0
    ∷ get_or old 10 0
    ∷ get_or old 11 0
    ∷ get_or old 12 0
    ∷ get_or old 13 0
    ∷ get_or old 14 0
    ∷ get_or old 15 0
    ∷ []

-- the words that begin leaves: all sixteen are written, those kept for later as 0
abbrev pub words_of : Session → List ℕ
words_of s = words_over (replicate 16 0) s

-- the installer's own refusal, and not one of the check
abbrev pub own_refusal : Reply → Bool
own_refusal Begun = false
own_refusal Erased = false
own_refusal (Took k) = false
own_refusal Accepted = false
own_refusal Done = false
own_refusal (Refused number) = true
own_refusal (Rejected r) = false

-- the words after any other call, by its answer and the record that it gives: after the installer's own refusal they stay as they were
abbrev pub words_after : Reply → Session → List ℕ → List ℕ
words_after reply s old = cond (own_refusal reply) old (words_over old s)

abbrev pub words_after_turn : Turn → List ℕ → List ℕ
words_after_turn t old = words_after t.reply t.session old

abbrev pub words_after_plan : Plan → List ℕ → List ℕ
words_after_plan p old = words_after p.reply p.session old
