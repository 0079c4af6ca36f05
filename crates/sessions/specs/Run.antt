-- "Done means landed" (specification, 11): a begin, any list of calls after it, and what holds wherever such a list ends.
-- A power cut is such an end, between two calls or inside the one operation that a call makes. A call that hands its operation back, and that
-- operation made, are one step of the list; a cut between the two is the point before.
-- Nobody else writes the slot, and each call gets the record and the slot that the last one left.
-- Assumes nothing.
use Rattle.std.specs.Prelude.{ℕ, ◌+◌, ◌-◌, ◌*◌, ◌/◌, ◌%◌, ◌≤◌, ◌<◌, min, max, ◌≡◌, List, [], ◌∷◌, ◌++◌, Bool, true, false, not, ◌&&◌, ◌||◌, cond, ◌⊎◌, length, take, drop, eqb, leb, ltb, Ok, Err}
use Rattle.flash.specs.Flash.{erased_bytes}
use Rattle.flash.specs.Operation.{word_of, performed, interrupted}
use Rattle.flash.specs.declared.Operation.{Operation}
use Rattle.flash.specs.declared.Operation.TheVariants.{Nothing, ErasePage, StoreWord}
use Rattle.header.specs.Table.{refusal}
use Rattle.header.specs.declared.Inputs.{Inputs}
use Rattle.image.specs.Check.{check_file, check_slot}
use Rattle.image.specs.declared.Image.{Image}
use Rattle.image.specs.Answer.{Answer}
use Rattle.signing.specs.Digests.{vendor_digest, firmware_digest}
use Rattle.signing.specs.Places.{no_signature, vendor_signature, firmware_signature}
use Rattle.sessions.specs.Record.{pages_of, words_stored, no_word}
use Rattle.sessions.specs.Calls.{begin_of, erase_plan, takes, fill_plan, erase_of, erase_slot, fill_of, fill_slot, no_digest, asked, ask_of, signatures, signatures_of, close_of, close_slot, close_plan, slot_of, confirm_of}
use Rattle.sessions.specs.declared.Session.{Session}
use Rattle.sessions.specs.declared.Asked.{Asked}
use Rattle.sessions.specs.declared.Signatures.{Signatures}
use Rattle.sessions.specs.declared.Reply.{Reply}
use Rattle.sessions.specs.declared.Reply.TheVariants.{Begun, Erased, Took, Accepted, Done, Refused, Rejected}

-- ---- the calls

-- a call after begin, with its own arguments. An Erase or a Fill that hands its operation back is the same step as one that makes it. A Close
-- that does is a step of its own, since it answers Accepted where the other answers Done; Confirm follows it
pub data Call : Type 0 where
  erase_call : Call
  fill_call : List ℕ → Call
  ask_call : Call
  close_call : Inputs → Call
  plan_close_call : Inputs → Call
  confirm_call : Call

-- what one call hands to the next
pub record State : Type 0 where
  pub session : Session
  pub slot : List ℕ

-- what the calls answer
abbrev pub erase_answer : State → Reply
erase_answer st = (erase_of st.session st.slot).reply

abbrev pub fill_answer : List ℕ → State → Reply
fill_answer piece st = (fill_of st.session piece st.slot).reply

abbrev pub ask_answer : State → Asked
ask_answer st = ask_of st.session st.slot

-- Signatures is no call of the list: like Ask it changes neither record nor slot
abbrev pub signatures_answer : State → Signatures
signatures_answer st = signatures_of st.session st.slot

abbrev pub close_answer : Inputs → State → Reply
close_answer given st = (close_of st.session given st.slot).reply

abbrev pub plan_close_answer : Inputs → State → Reply
plan_close_answer given st = (close_plan st.session given st.slot).reply

abbrev pub confirm_answer : State → Reply
confirm_answer st = (confirm_of st.session st.slot).reply

-- the record and the slot that a call leaves. Ask and Confirm change no byte of the slot, and Ask no record
abbrev pub after : Call → State → State
after erase_call st = record { session = (erase_of st.session st.slot).session; slot = erase_slot st.session st.slot }
after (fill_call piece) st = record { session = (fill_of st.session piece st.slot).session; slot = fill_slot st.session piece st.slot }
after ask_call st = st
after (close_call given) st = record { session = (close_of st.session given st.slot).session; slot = close_slot st.session given st.slot }
after (plan_close_call given) st =
    record { session = (close_plan st.session given st.slot).session; slot = slot_of (close_plan st.session given st.slot) st.slot }
after confirm_call st = record { session = (confirm_of st.session st.slot).session; slot = st.slot }

-- the operation of the flash that a call makes. Ask and Confirm make none
abbrev pub operation_of : Call → State → Operation
operation_of erase_call st = (erase_plan st.session st.slot).operation
operation_of (fill_call piece) st = (fill_plan st.session piece st.slot).operation
operation_of ask_call st = Nothing
operation_of (close_call given) st = (close_plan st.session given st.slot).operation
operation_of (plan_close_call given) st = (close_plan st.session given st.slot).operation
operation_of confirm_call st = Nothing

-- ---- the history: what has happened, told from the calls and their answers, and never from the record

pub record History : Type 0 where
  -- the session is open: begun, and not yet closed with all bytes given
  pub is_open : Bool
  -- how many Erase calls the open session has had
  pub erases : ℕ
  -- the bytes given
  pub given : List ℕ
  -- an Erase was not refused
  pub touched : Bool
  -- a Close answered Done; or one that hands its operation back answered Accepted, and the operation was made
  pub stored : Bool
  -- such a Close answered Accepted, and no Confirm has answered Done since
  pub waiting : Bool
  -- a Close or a Confirm answered Done
  pub done : Bool

abbrev pub is_begun : Reply → Bool
is_begun Begun = true
is_begun Erased = false
is_begun (Took k) = false
is_begun Accepted = false
is_begun Done = false
is_begun (Refused number) = false
is_begun (Rejected r) = false

abbrev pub is_erased : Reply → Bool
is_erased Begun = false
is_erased Erased = true
is_erased (Took k) = false
is_erased Accepted = false
is_erased Done = false
is_erased (Refused number) = false
is_erased (Rejected r) = false

abbrev pub is_accepted : Reply → Bool
is_accepted Begun = false
is_accepted Erased = false
is_accepted (Took k) = false
is_accepted Accepted = true
is_accepted Done = false
is_accepted (Refused number) = false
is_accepted (Rejected r) = false

abbrev pub is_done : Reply → Bool
is_done Begun = false
is_done Erased = false
is_done (Took k) = false
is_done Accepted = false
is_done Done = true
is_done (Refused number) = false
is_done (Rejected r) = false

-- all pages are erased once an open session has had one Erase call more than the slot of n bytes has pages
abbrev pub all_erased : ℕ → History → Bool
all_erased n h = h.is_open && ltb (pages_of n) h.erases

-- all bytes are given once they are as many as begin was told
abbrev pub all_given : ℕ → History → Bool
all_given f h = eqb (length h.given) f

-- it is the turn of Ask and Close
abbrev pub is_full : ℕ → ℕ → History → Bool
is_full n f h = all_erased n h && all_given f h

-- how many bytes of a piece the rule of Fill adds
abbrev pub adds : ℕ → History → List ℕ → ℕ
adds f h piece = takes (length h.given) f (length piece)

-- the history with one call more, which is made in this state and answered there
abbrev pub watch : ℕ → ℕ → Call → State → History → History
watch n f erase_call st h =
    record { is_open = h.is_open; erases = cond h.is_open (h.erases + 1) h.erases; given = h.given; touched = is_erased (erase_answer st) || h.touched; stored = h.stored; waiting = h.waiting; done = h.done }
watch n f (fill_call piece) st h =
    record { is_open = h.is_open; erases = h.erases; given = cond (all_erased n h) (h.given ++ take (adds f h piece) piece) h.given; touched = h.touched; stored = h.stored; waiting = h.waiting; done = h.done }
watch n f ask_call st h = h
watch n f (close_call given) st h =
    record { is_open = h.is_open && not (all_given f h); erases = h.erases; given = h.given; touched = h.touched; stored = is_done (close_answer given st) || h.stored; waiting = h.waiting; done = is_done (close_answer given st) || h.done }
watch n f (plan_close_call given) st h =
    record { is_open = h.is_open && not (all_given f h); erases = h.erases; given = h.given; touched = h.touched; stored = is_accepted (plan_close_answer given st) || h.stored; waiting = is_accepted (plan_close_answer given st) || h.waiting; done = h.done }
watch n f confirm_call st h =
    record { is_open = h.is_open; erases = h.erases; given = h.given; touched = h.touched; stored = h.stored; waiting = not (is_done (confirm_answer st)) && h.waiting; done = is_done (confirm_answer st) || h.done }

-- ---- a point in time: what has happened, and the record and the slot then

pub record Point : Type 0 where
  pub past : History
  pub now : State

-- begin on the slot found, told the file's length f
abbrev pub began : List ℕ → ℕ → Point
began found f =
    record {
      past = record { is_open = is_begun (begin_of (length found) f).reply; erases = 0; given = []; touched = false; stored = false; waiting = false; done = false };
      now = record { session = (begin_of (length found) f).session; slot = found };
    }

abbrev pub advance : ℕ → ℕ → Call → Point → Point
advance n f c p = record { past = watch n f c p.now p.past; now = after c p.now }

-- after a list of calls on a slot of n bytes
abbrev pub run : ℕ → ℕ → List Call → Point → Point
run n f [] p = p
run n f (c ∷ calls) p = run n f calls (advance n f c p)

-- the operations of the flash that the calls made: the zero and the pages erased, one for each Erase, words stored, and word 0
abbrev pub made : ℕ → History → ℕ
made n h = min h.erases (pages_of n + 1) + words_stored (length h.given) + cond h.stored 1 0

-- ---- the slot, by what was found and the history

-- zero in word 0, and the rest as found
unfoldable pub invalidated : List ℕ → List ℕ
invalidated found = no_word ++ drop 4 found

-- the first k pages erased, and the rest as found
unfoldable pub pages_erased : ℕ → List ℕ → List ℕ
pages_erased k found = erased_bytes (k * 4096) ++ drop (k * 4096) found

-- the bytes of whole words among the bytes g
abbrev pub whole_words : List ℕ → ℕ
whole_words g = length g / 4 * 4

-- word 0 erased, the other whole words of g at their places, and erased bytes up to n
unfoldable pub holding : List ℕ → ℕ → List ℕ
holding g n = erased_bytes 4 ++ (drop 4 (take (whole_words g) g) ++ erased_bytes (n - max 4 (whole_words g)))

abbrev pub slot_then : List ℕ → ℕ → History → List ℕ
slot_then found f h =
    cond h.touched
    (cond h.stored
    (h.given ++ erased_bytes (length found - f))
    (cond (ltb (pages_of (length found)) h.erases) (holding h.given (length found)) (pages_erased (h.erases - 1) (invalidated found))))
    found

-- the operation of the next Erase: the zero first, then page after page
abbrev pub erase_then : ℕ → History → Operation
erase_then n h = cond (h.is_open && leb h.erases (pages_of n)) (cond (eqb h.erases 0) (StoreWord 0 (word_of no_word)) (ErasePage (h.erases - 1))) Nothing

-- ---- the answers, by the history

-- what a Close answers where the file check answers so, and what one that hands its operation back does
abbrev pub done_by : Answer → Reply
done_by (Ok i) = Done
done_by (Err r) = Rejected r

abbrev pub accepted_by : Answer → Reply
accepted_by (Ok i) = Accepted
accepted_by (Err r) = Rejected r

-- the rule of Fill: with g bytes given of a file of f, k bytes of a piece of len are taken. They end where the word ends, where the piece ends or
-- where the file ends
pub record FillRule (g f len k : ℕ) : Type 0 where
  pub in_word : g % 4 + k ≤ 4
  pub in_piece : k ≤ len
  pub in_file : g + k ≤ f
  pub ends : (g % 4 + k ≡ 4) ⊎ ((k ≡ len) ⊎ (g + k ≡ f))

-- ---- what holds at a point: of the slot then, and of the call that comes next

-- the slot's first word is zero or erased, and the boot check refuses it with 1 for any time, key policy and verdicts
pub record Unbootable (slot : List ℕ) : Type 0 where
  pub first : (take 4 slot ≡ erased_bytes 4) ⊎ (take 4 slot ≡ no_word)
  pub refused : (given : Inputs) → check_slot slot given ≡ Err (refusal 1 1)

-- the power is cut inside the call that comes next, and leaves this. That call is not counted: the history is the one before it
pub record Cut (found : List ℕ) (f : ℕ) (p : Point) (c : Call) (left : List ℕ) : Type 0 where
  -- until the first Erase that is not refused the slot is as found; in that one zero is in word 0, or not
  pub untouched : p.past.touched ≡ false → (left ≡ found) ⊎ ((c ≡ erase_call) × (left ≡ invalidated found) × Unbootable left)
  -- from that Erase until word 0 is stored it cannot start, nor can it from begin on if what was found cannot; in the Close that stores word 0, that is
  -- stored, or not
  pub hidden : (p.past.touched ≡ true) ⊎ Unbootable found → p.past.stored ≡ false
      → Unbootable left ⊎ (((watch (length found) f c p.now p.past).stored ≡ true) × (left ≡ p.past.given ++ erased_bytes (length found - f)))
  -- from then on it holds the file
  pub landed : p.past.stored ≡ true → left ≡ p.past.given ++ erased_bytes (length found - f)
  -- its length stays, so the next begin answers as this one did
  pub long : length left ≡ length found

pub record Landed (found : List ℕ) (f : ℕ) (p : Point) : Type 0 where
  -- the slot is as found until the first Erase that is not refused
  pub untouched : p.past.touched ≡ false → p.now.slot ≡ found
  -- from that Erase until a Close answers Done, its first word is zero or erased, and the boot check refuses it; and from begin on, if what was found is
  -- such a slot
  pub hidden : (p.past.touched ≡ true) ⊎ Unbootable found → p.past.stored ≡ false → Unbootable p.now.slot
  -- from Done on it holds the file and erased bytes after it; and Done is not answered before
  pub landed : p.past.stored ≡ true → p.now.slot ≡ p.past.given ++ erased_bytes (length found - f)
  pub whole : p.past.stored ≡ true → length p.past.given ≡ f
  pub done_stored : p.past.done ≡ true → p.past.stored ≡ true
  -- at every point it is what the history says
  pub slot : p.now.slot ≡ slot_then found f p.past
  -- in an open session, one Erase call more than the slot has pages leaves every byte erased
  pub erased : p.past.is_open ≡ true → p.past.erases ≡ pages_of (length found) → (after erase_call p.now).slot ≡ erased_bytes (length found)
  -- an Erase is answered Erased exactly while the session is open and pages are missing; it makes the operation that is next, and none otherwise
  pub erase_answers : erase_answer p.now ≡ cond (p.past.is_open && leb p.past.erases (pages_of (length found))) Erased (Refused 19)
  pub erase_makes : operation_of erase_call p.now ≡ erase_then (length found) p.past
  -- a Fill is answered by its rule exactly when the session is open and all pages are erased; what it adds is a first part of the piece, and while
  -- bytes are missing at least one byte of a nonempty piece
  pub fill_answers : (piece : List ℕ) → fill_answer piece p.now ≡ cond (all_erased (length found) p.past) (Took (adds f p.past piece)) (Refused 19)
  pub fill_rule : all_erased (length found) p.past ≡ true → (piece : List ℕ) → FillRule (length p.past.given) f (length piece) (adds f p.past piece)
  pub takes_one : all_erased (length found) p.past ≡ true → length p.past.given < f → (piece : List ℕ) → 0 < length piece → 0 < adds f p.past piece
  -- an Ask is answered with both questions of the file exactly when the session is open, all pages are erased and all bytes given
  pub ask_answers : ask_answer p.now ≡ cond (is_full (length found) f p.past) (asked (vendor_digest p.past.given) (firmware_digest p.past.given)) (asked no_digest no_digest)
  -- and so are the places of its signatures told
  pub signatures_answers : signatures_answer p.now ≡ cond (is_full (length found) f p.past) (signatures (vendor_signature p.past.given) (firmware_signature p.past.given)) (signatures no_signature no_signature)
  -- a Close then answers as the file check of the file does, with this Close's inputs: Done exactly if it accepts
  pub close_answers : (given : Inputs) → close_answer given p.now ≡ cond (is_full (length found) f p.past) (done_by (check_file p.past.given given)) (Refused 19)
  -- one that hands its operation back answers Accepted in Done's place, and a Confirm after it Done
  pub plan_close_answers : (given : Inputs) → plan_close_answer given p.now ≡ cond (is_full (length found) f p.past) (accepted_by (check_file p.past.given given)) (Refused 19)
  pub confirm_answers : confirm_answer p.now ≡ cond p.past.waiting Done (Refused 19)
  -- the boot check of the slot as a Close left it that answered Done, or Accepted, accepts too with the same time, key policy and verdicts, and tells
  -- the same
  pub boots : (given : Inputs) (i : Image) → is_full (length found) f p.past ≡ true → check_file p.past.given given ≡ Ok i
      → (check_slot (after (close_call given) p.now).slot given ≡ Ok i)
      × (check_slot (after (plan_close_call given) p.now).slot given ≡ Ok i)
  -- the record counts the operations made since begin, and at Done they are slot / 4,096 + file / 4 + 1
  pub counted : p.now.session.operations ≡ made (length found) p.past
  pub counted_done : p.past.stored ≡ true → p.now.session.operations ≡ pages_of (length found) + f / 4 + 1
  -- a call leaves the slot with its operation made; and the list may also end inside that operation, whatever the flash's choice
  pub makes : (c : Call) → (after c p.now).slot ≡ performed (operation_of c p.now) p.now.slot
  pub cut : (c : Call) (choice : List Bool) → Cut found f p c (interrupted choice (operation_of c p.now) p.now.slot)

-- the one statement: any slot, a begin on it, told any file length, and any list of calls after it, ending anywhere
abbrev pub DoneMeansLanded : Type 0
DoneMeansLanded = (found : List ℕ) (f : ℕ) (calls : List Call) → Landed found f (run (length found) f calls (began found f))

-- ---- after a cut inside a call: the record is lost, and the next session starts with begin

-- a session that the power cuts: the file's length that begin is told, the calls after it, the call in whose operation the power is cut, and the
-- flash's choice. A cut between two calls is one in an Ask, which makes no operation
pub record CutSession : Type 0 where
  pub file : ℕ
  pub calls : List Call
  pub last : Call
  pub choice : List Bool

-- the point before that call, where the slot was found so
abbrev pub before_cut : CutSession → List ℕ → Point
before_cut s found = run (length found) s.file s.calls (began found s.file)

-- what such a session leaves, and what one after another leaves: that is what the next begin finds
abbrev pub left_by : CutSession → List ℕ → List ℕ
left_by s found = interrupted s.choice (operation_of s.last (before_cut s found).now) (before_cut s found).now.slot

abbrev pub left_by_all : List CutSession → List ℕ → List ℕ
left_by_all [] found = found
left_by_all (s ∷ sessions) found = left_by_all sessions (left_by s found)

-- none of them, with its last call counted, has stored word 0
abbrev pub NoneStored : List CutSession → List ℕ → Type 0
NoneStored [] found = Unit {0}
NoneStored (s ∷ sessions) found =
    ((advance (length found) s.file s.last (before_cut s found)).past.stored ≡ false) × NoneStored sessions (left_by s found)

pub record NextSession (found : List ℕ) (sessions : List CutSession) : Type 0 where
  -- the next begin answers as it would have on the slot that the first one found
  pub begins : (f : ℕ) → begin_of (length (left_by_all sessions found)) f ≡ begin_of (length found) f
  -- what is shown of its session is the same statement, with what is left for found
  pub lands : (f : ℕ) (calls : List Call)
      → Landed (left_by_all sessions found) f (run (length (left_by_all sessions found)) f calls (began (left_by_all sessions found) f))
  -- a slot that cannot start still cannot, until a session stores word 0
  pub hidden : Unbootable found → NoneStored sessions found → Unbootable (left_by_all sessions found)

abbrev pub NextSessionLands : Type 0
NextSessionLands = (found : List ℕ) (sessions : List CutSession) → NextSession found sessions
