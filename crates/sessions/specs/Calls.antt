-- What each call of the installer gives (specification, 10.3 to 10.5): the record, the answer, and the operation of the flash.
-- The slot that a call leaves is that operation performed.
-- Assumes nothing.
use Rattle.std.specs.Prelude.{ℕ, ◌+◌, ◌*◌, ◌-◌, ◌/◌, ◌%◌, min, List, ◌++◌, Bool, cond, length, take, drop, eqb, ltb, Ok, Err}
use Rattle.std.proofs.Math.Seq.{paste}
use Rattle.octets.specs.Read.{starts_with}
use Rattle.flash.specs.Flash.{starts_erased}
use Rattle.flash.specs.Operation.{word_of, performed}
use Rattle.flash.specs.declared.Operation.{Operation}
use Rattle.flash.specs.declared.Operation.TheVariants.{Nothing, ErasePage, StoreWord}
use Rattle.header.specs.Table.{refusal}
use Rattle.header.specs.declared.Inputs.{Inputs}
use Rattle.image.specs.Check.{check_file}
use Rattle.image.specs.Answer.{Answer}
use Rattle.signing.specs.Digests.{Digest, vendor_digest, firmware_digest}
use Rattle.signing.specs.Places.{no_signature, vendor_signature, firmware_signature}
use Rattle.signing.specs.declared.places.Signature.{Signature}
use Rattle.sessions.specs.Record.{over, live, accepted, slot_len_right, file_len_right, untouched, erasing, filling, full, waiting, no_word, new_record, with_zero, with_page, with_bytes, with_phase}
use Rattle.sessions.specs.declared.Session.{Session}
use Rattle.sessions.specs.declared.Asked.{Asked}
use Rattle.sessions.specs.declared.Signatures.{Signatures}
use Rattle.sessions.specs.declared.Turn.{Turn}
use Rattle.sessions.specs.declared.Plan.{Plan}
use Rattle.sessions.specs.declared.Reply.{Reply}
use Rattle.sessions.specs.declared.Reply.TheVariants as reply

-- a record and an answer
abbrev pub turn : Session → Reply → Turn
turn s r = record { session = s; reply = r }

-- a record, an answer and an operation
abbrev pub plan : Session → Reply → Operation → Plan
plan s r o = record { session = s; reply = r; operation = o }

-- a refused call: the record as it was, the number, and no operation
abbrev pub refused : Session → ℕ → Plan
refused s number = plan s (reply.Refused number) Nothing

-- ---- Begin, on a slot of n bytes, told a file's length

-- a refused begin gives a finished session with all numbers 0
unfoldable pub begin_of : ℕ → ℕ → Turn
begin_of n f =
    cond (slot_len_right n)
    (cond (file_len_right n f) (turn (new_record live n f) reply.Begun) (turn (new_record over 0 0) (reply.Refused 18)))
    (turn (new_record over 0 0) (reply.Refused 22))

-- ---- Erase: zero in word 0, whatever stands there; then page after page

abbrev pub erase_plan : Session → List ℕ → Plan
erase_plan s slot =
    cond (erasing s (length slot))
    (cond (untouched s)
    (plan (with_zero s) reply.Erased (StoreWord 0 (word_of no_word)))
    (plan (with_page s) reply.Erased (ErasePage s.pages)))
    (refused s 19)

-- ---- Fill: as many bytes as complete the current word, the piece and the file allow

abbrev pub takes : ℕ → ℕ → ℕ → ℕ
takes taken file len = min (min (4 - taken % 4) len) (file - taken)

abbrev pub taken_by : Session → List ℕ → ℕ
taken_by s piece = takes s.taken s.file (length piece)

-- the word in progress with these bytes in it
abbrev pub joined : Session → List ℕ → List ℕ
joined s piece = paste s.held (s.taken % 4) piece (taken_by s piece)

-- the offset of the word in progress
abbrev pub word_at : Session → ℕ
word_at s = s.taken / 4 * 4

-- the word in progress is word 0
abbrev pub in_first_word : Session → Bool
in_first_word s = ltb s.taken 4

-- k bytes are taken, which make the word w. By cases: the word is not complete; it is word 0, which the record keeps; its place is erased; 23
abbrev pub filled : Session → ℕ → List ℕ → List ℕ → Plan
filled s k w slot =
    cond (filling s (length slot))
    (cond (eqb (s.taken % 4 + k) 4)
    (cond (in_first_word s)
    (plan (with_bytes s k w w 0) (reply.Took k) Nothing)
    (cond (starts_erased (drop (word_at s) slot))
    (plan (with_bytes s k w s.first 1) (reply.Took k) (StoreWord (word_at s) (word_of w)))
    (refused s 23)))
    (plan (with_bytes s k w s.first 0) (reply.Took k) Nothing))
    (refused s 19)

abbrev pub fill_plan : Session → List ℕ → List ℕ → Plan
fill_plan s piece slot = filled s (taken_by s piece) (joined s piece) slot

-- ---- Ask and Close look at the slot's first bytes up to the file's length, word 0 taken from the record

abbrev pub file_in : Session → List ℕ → List ℕ
file_in s slot = s.first ++ drop 4 (take s.file slot)

-- Ask: both digest questions, or 19 to both
abbrev pub no_digest : Digest
no_digest = Err (refusal 19 0)

abbrev pub asked : Digest → Digest → Asked
asked vendor firmware = record { vendor = vendor; firmware = firmware }

abbrev pub ask_of : Session → List ℕ → Asked
ask_of s slot = cond (full s (length slot)) (asked (vendor_digest (file_in s slot)) (firmware_digest (file_in s slot))) (asked no_digest no_digest)

-- Signatures: what the chip needs beside the digests, or nothing
abbrev pub signatures : Signature → Signature → Signatures
signatures vendor firmware = record { vendor = vendor; firmware = firmware }

abbrev pub signatures_of : Session → List ℕ → Signatures
signatures_of s slot =
    cond (full s (length slot)) (signatures (vendor_signature (file_in s slot)) (firmware_signature (file_in s slot))) (signatures no_signature no_signature)

-- Close, where the file check answers so. A refusal is the answer, and the session is over. An acceptance is told, with the store of word 0
abbrev pub judged : Session → Answer → Plan
judged s (Ok i) = plan (with_phase s accepted (s.operations + 1)) reply.Accepted (StoreWord 0 (word_of s.first))
judged s (Err r) = plan (with_phase s over s.operations) (reply.Rejected r) Nothing

-- 19 before 23, 23 before the check
abbrev pub close_by : Session → Answer → List ℕ → Plan
close_by s a slot = cond (full s (length slot)) (cond (starts_erased slot) (judged s a) (refused s 23)) (refused s 19)

abbrev pub close_plan : Session → Inputs → List ℕ → Plan
close_plan s given slot = close_by s (check_file (file_in s slot) given) slot

-- ---- Confirm: Done, where word 0 stands in the slot after a close that accepted; 27 where it does not

abbrev pub confirm_of : Session → List ℕ → Turn
confirm_of s slot =
    cond (waiting s (length slot))
    (cond (starts_with s.first slot) (turn (with_phase s over s.operations) reply.Done) (turn s (reply.Refused 27)))
    (turn s (reply.Refused 19))

-- ---- the calls that make the operation themselves

-- what is left of a plan whose operation was made. Word 0 stands then, so that an acceptance is Done, and the session over
abbrev pub settled : Session → Reply → Turn
settled s reply.Begun = turn s reply.Begun
settled s reply.Erased = turn s reply.Erased
settled s (reply.Took k) = turn s (reply.Took k)
settled s reply.Accepted = turn (with_phase s over s.operations) reply.Done
settled s reply.Done = turn s reply.Done
settled s (reply.Refused number) = turn s (reply.Refused number)
settled s (reply.Rejected r) = turn s (reply.Rejected r)

abbrev pub turn_of : Plan → Turn
turn_of p = settled p.session p.reply

abbrev pub slot_of : Plan → List ℕ → List ℕ
slot_of p slot = performed p.operation slot

abbrev pub erase_of : Session → List ℕ → Turn
erase_of s slot = turn_of (erase_plan s slot)

abbrev pub erase_slot : Session → List ℕ → List ℕ
erase_slot s slot = slot_of (erase_plan s slot) slot

abbrev pub fill_of : Session → List ℕ → List ℕ → Turn
fill_of s piece slot = turn_of (fill_plan s piece slot)

abbrev pub fill_slot : Session → List ℕ → List ℕ → List ℕ
fill_slot s piece slot = slot_of (fill_plan s piece slot) slot

abbrev pub close_of : Session → Inputs → List ℕ → Turn
close_of s given slot = turn_of (close_plan s given slot)

abbrev pub close_slot : Session → Inputs → List ℕ → List ℕ
close_slot s given slot = slot_of (close_plan s given slot) slot
