-- The worked numbers P1 to P12 (specification, 13), as one table: what a definition gives, and what the specification says.
-- Assumes nothing.
use Rattle.std.specs.Prelude.{ℕ, ◌+◌, ◌-◌, ◌*◌, ◌≡◌, List, [], ◌∷◌, ◌++◌, true, false, length, replicate, Ok}
use Rattle.header.specs.Layout.{TRZV, picture_start, first_room}
use Rattle.header.specs.Table.{first_failing, vendor_shape, vendor_policy}
use Rattle.header.specs.Outcome.{number_of}
use Rattle.header.specs.Trust.{trust_of}
use Rattle.image.specs.Answer.{image_of}
use Rattle.image.specs.Parts.{picture_of, when_accepted}
use Rattle.sessions.specs.Run.{History, made}
use Rattle.header.specs.declared.Inputs.{Inputs}

-- a worked number: what a definition gives, and what the specification says
infixl 20 ◌gives◌
pub data Worked : Type 0 where
  ◌gives◌ : ℕ → ℕ → Worked

-- the two columns of the table
abbrev pub given : List Worked → List ℕ
given [] = []
given ((x gives y) ∷ rows) = x ∷ given rows

abbrev pub said : List Worked → List ℕ
said [] = []
said ((x gives y) ∷ rows) = y ∷ said rows

-- a vendor header of 512 bytes with n keys and a string of s zeros, which expires at a time below 256 and is signed by this mask
abbrev pub vendor : ℕ → ℕ → ℕ → ℕ → List ℕ
vendor n s expiry mask =
    TRZV
    ++ (0 ∷ 2 ∷ 0 ∷ 0 ∷ [])
    ++ (expiry ∷ 0 ∷ 0 ∷ 0 ∷ [])
    ++ (0 ∷ 0 ∷ 1 ∷ n ∷ [])
    ++ replicate (16 + 32 * n) 0
    ++ (s ∷ [])
    ++ replicate (447 - (33 + 32 * n)) 0
    ++ (mask ∷ [])
    ++ replicate 64 0

-- a policy of 2 of 3 at a time, with yes from the chip
abbrev pub at : ℕ → Inputs
at time = record { time = time; m = 2; n = 3; vendor = true; firmware = true }

-- S3 to S8 of a header with n keys and a string of s bytes
abbrev pub shape_of : ℕ → ℕ → ℕ
shape_of n s = number_of (first_failing (vendor_shape (vendor n s 0 0)))

-- S9 to S11 of a header with an expiry and a mask, at a time
abbrev pub policy_of : ℕ → ℕ → ℕ → ℕ
policy_of expiry mask time = number_of (first_failing (vendor_policy (vendor 2 4 expiry mask) (at time)))

-- a session that was closed with Done: 17 Erase calls, and a file of 1,540 bytes
abbrev pub installed : History
installed = record { is_open = false; erases = 17; given = replicate 1540 0; touched = true; stored = true; waiting = false; done = true }

abbrev pub worked_numbers : List Worked
worked_numbers =
    -- P1, P2: where the picture starts
    (picture_start 2 4 gives 104)
    ∷ (picture_start 2 3 gives 100)
    -- P3: the bytes of the picture area that is handed back
    ∷ (length (when_accepted (Ok (image_of (vendor 2 4 0 0))) (picture_of (vendor 2 4 0 0))) gives 343)
    -- P4, P5: a string that leaves room, and one that does not
    ∷ (shape_of 8 155 gives 0)
    ∷ (shape_of 8 156 gives 5)
    -- P6: the room of chunk 1
    ∷ (first_room 512 gives 129536)
    -- P7: time 100 and 101 against expiry 100
    ∷ (policy_of 100 0x03 100 gives 0)
    ∷ (policy_of 100 0x03 101 gives 7)
    -- P8: under 2 of 3 the mask 0x03, of two signers, passes, and 0x07, of three, does not
    ∷ (policy_of 0 0x03 0 gives 0)
    ∷ (policy_of 0 0x07 0 gives 8)
    -- P9: nor do 0x01, of one signer, and 0x0B, which has a bit at 3
    ∷ (policy_of 0 0x01 0 gives 8)
    ∷ (policy_of 0 0x0B 0 gives 8)
    -- P10, P11: seconds to wait
    ∷ ((trust_of 0xFFF6).seconds gives 9)
    ∷ ((trust_of 0xFFFF).seconds gives 0)
    ∷ ((trust_of 0x0000).seconds gives 15)
    -- P12: the operations of a whole install, as the calls made them
    ∷ (made 65536 installed gives 402)
    ∷ []

abbrev pub WorkedNumbersHold : Type 0
WorkedNumbersHold = given worked_numbers ≡ said worked_numbers
