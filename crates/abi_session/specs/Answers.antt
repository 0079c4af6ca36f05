-- How the exported calls of the installer tell an answer, as words: number, part and chunk; the bytes taken; the operation; both digests, and what
-- the chip needs beside them.
-- Assumes nothing.
use Rattle.std.specs.Prelude.{ℕ, ◌*◌, ◌%◌, List, [], ◌∷◌, ◌++◌, replicate}
use Rattle.octets.specs.Read.{u32_at}
use Rattle.flash.specs.Operation.{bytes_of}
use Rattle.flash.specs.declared.Operation.{Operation}
use Rattle.flash.specs.declared.Operation.TheVariants.{Nothing, ErasePage, StoreWord}
use Rattle.sessions.specs.Reply.{number_of, where_of}
use Rattle.sessions.specs.declared.Asked.{Asked}
use Rattle.sessions.specs.declared.Signatures.{Signatures}
use Rattle.sessions.specs.declared.Reply.{Reply}
use Rattle.sessions.specs.declared.Reply.TheVariants.{Begun, Erased, Took, Accepted, Done, Refused, Rejected}
use Rattle.abi.specs.Answers.{answer_words, digest_bytes}
use Rattle.abi.specs.Places.{signature_words}

abbrev pub reply_words : Reply → List ℕ
reply_words r = number_of r ∷ where_of r

-- how many bytes a Fill took; after a refusal the word stays as it was
abbrev pub taken_word : Reply → List ℕ → List ℕ
taken_word Begun old = old
taken_word Erased old = old
taken_word (Took k) old = k % 4294967296 ∷ []
taken_word Accepted old = old
taken_word Done old = old
taken_word (Refused number) old = old
taken_word (Rejected r) old = old

-- its kind, the offset in the slot of what is erased or stored, and the word, its first byte the least. The numbers are told in 32 bits, and
-- 1,048,576 pages have as many bytes as 32 bits count
abbrev pub operation_words : Operation → List ℕ
operation_words Nothing = 0 ∷ 0 ∷ 0 ∷ []
operation_words (ErasePage page) = 1 ∷ page % 1048576 * 4096 ∷ 0 ∷ []
operation_words (StoreWord at w) = 2 ∷ at % 4294967296 ∷ u32_at (bytes_of w) 0 ∷ []

-- number, part and chunk of both questions
abbrev pub asked_words : Asked → List ℕ
asked_words a = answer_words a.vendor ++ answer_words a.firmware

-- both digests, one behind the other, and zeros in place of one that is refused
abbrev pub asked_digests : Asked → List ℕ
asked_digests a = digest_bytes a.vendor (replicate 32 0) ++ digest_bytes a.firmware (replicate 32 0)

-- what the chip needs for each header, as places in n bytes
abbrev pub signatures_words : ℕ → Signatures → List ℕ
signatures_words n s = signature_words n s.vendor ++ signature_words n s.firmware
