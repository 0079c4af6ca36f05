-- What is shown of the checks: the two laws on which the installer rests, what the parts of an accepted image are, that it is signed, that its headers
-- settle its code, and that no signature is read.
-- Assumes nothing.
use Rattle.std.specs.Prelude.{ℕ, ◌+◌, ◌-◌, ◌*◌, ◌≡◌, List, ◌++◌, true, ◌⊎◌, length, take, drop, replicate, Ok, Err}
use Rattle.octets.specs.Read.{all_are}
use Rattle.blake2s.specs.Rfc7693.{blake2s_of}
use Rattle.header.specs.Layout.{key_count, string_len, picture_start, image_len}
use Rattle.header.specs.Table.{refusal}
use Rattle.header.specs.Alike.{DifferInSignatures}
use Rattle.header.specs.Theorems.{BothSigned}
use Rattle.header.specs.declared.Inputs.{Inputs}
use Rattle.image.specs.declared.Image.{Image}
use Rattle.image.specs.Answer.{Answer}
use Rattle.image.specs.Chunks.{code_of}
use Rattle.image.specs.Check.{check_file, check_slot}
use Rattle.image.specs.Parts.{string_of, picture_of, when_accepted}
use Rattle.image.specs.Difference.{OneCode}

-- a slot whose first word is erased, or zero, is refused with number 1, for any inputs
abbrev pub ErasedOrZeroRefused : Type 0
ErasedOrZeroRefused =
    (b : List ℕ) (given : Inputs) → (take 4 b ≡ replicate 4 255) ⊎ (take 4 b ≡ replicate 4 0) → check_slot b given ≡ Err (refusal 1 1)

-- what the file check accepts, the slot check accepts with the same inputs when erased bytes follow, and tells the same
abbrev pub AcceptedBeforeErased : Type 0
AcceptedBeforeErased =
    (file : List ℕ) (n : ℕ) (given : Inputs) (i : Image) → check_file file given ≡ Ok i → check_slot (file ++ replicate n 255) given ≡ Ok i

-- the parts that a check hands back of an accepted image: where they stand, and how long they are
pub record PartsStand (b : List ℕ) (a : Answer) (i : Image) : Type 0 where
  -- the string: s bytes behind the keys
  pub string : when_accepted a (string_of b) ≡ take (string_len b) (drop (33 + 32 * key_count b) b)
  pub string_long : length (when_accepted a (string_of b)) ≡ string_len b
  -- the picture area: from its start up to the sigmask
  pub picture : when_accepted a (picture_of b) ≡ take (i.v - 65 - picture_start (key_count b) (string_len b)) (drop (picture_start (key_count b) (string_len b)) b)
  pub picture_long : length (when_accepted a (picture_of b)) ≡ i.v - 65 - picture_start (key_count b) (string_len b)
  -- the code: codelen bytes behind both headers
  pub code : when_accepted a (code_of b) ≡ take i.codelen (drop (i.v + 1024) b)
  pub code_long : length (when_accepted a (code_of b)) ≡ i.codelen

pub record AcceptedParts : Type 0 where
  pub file : (b : List ℕ) (given : Inputs) (i : Image) → check_file b given ≡ Ok i → PartsStand b (check_file b given) i
  pub slot : (b : List ℕ) (given : Inputs) (i : Image) → check_slot b given ≡ Ok i → PartsStand b (check_slot b given) i

-- an accepted image is signed, both of its headers, and an accepted slot is erased behind it
pub record AcceptedIsSigned : Type 0 where
  pub file : (b : List ℕ) (given : Inputs) (i : Image) → check_file b given ≡ Ok i → BothSigned b given
  pub slot : (b : List ℕ) (given : Inputs) (i : Image) → check_slot b given ≡ Ok i → BothSigned b given
  pub tail : (b : List ℕ) (given : Inputs) (i : Image) → check_slot b given ≡ Ok i → all_are 255 (drop (image_len b) b) ≡ true

-- the bytes of an image in a file or a slot, its two headers, and the code behind them
abbrev pub image_bytes : List ℕ → Image → List ℕ
image_bytes b i = take (i.v + 1024 + i.codelen) b

abbrev pub header_bytes : List ℕ → Image → List ℕ
header_bytes b i = take (i.v + 1024) b

abbrev pub code_bytes : List ℕ → Image → List ℕ
code_bytes b i = take i.codelen (drop (i.v + 1024) b)

-- two images that a check accepts, each with inputs of its own. The bytes are all of a file, and in a slot those of the image
pub record AcceptedOneCode (check : List ℕ → Inputs → Answer) (bytes : List ℕ → Image → List ℕ) : Type 0 where
  -- under the same headers they are the same, or the lowest chunk in which they differ is named, with the bytes of both, and these have the same
  -- BLAKE2s digest
  pub headers : (b c : List ℕ) (given other : Inputs) (i j : Image) → check b given ≡ Ok i → check c other ≡ Ok j → header_bytes b i ≡ header_bytes c j
      → OneCode (bytes b i ≡ bytes c j) blake2s_of (i.v + 1024) (code_bytes b i) (code_bytes c j)
  -- what is signed of the headers, each without its last 65 bytes, settles the code in the same way
  pub signed : (b c : List ℕ) (given other : Inputs) (i j : Image) → check b given ≡ Ok i → check c other ≡ Ok j
      → take (i.v - 65) b ≡ take (j.v - 65) c → take 959 (drop i.v b) ≡ take 959 (drop j.v c)
      → OneCode (code_bytes b i ≡ code_bytes c j) blake2s_of (i.v + 1024) (code_bytes b i) (code_bytes c j)

-- one header, one code (specification, 18.1)
pub record OneHeaderOneCode : Type 0 where
  pub file : AcceptedOneCode check_file (λ b i. b)
  pub slot : AcceptedOneCode check_slot image_bytes

-- the same answer of both, and the same parts
pub record AnsweredAlike (b c : List ℕ) (one two : Answer) : Type 0 where
  pub answer : one ≡ two
  pub string : when_accepted one (string_of b) ≡ when_accepted two (string_of c)
  pub picture : when_accepted one (picture_of b) ≡ when_accepted two (picture_of c)
  pub code : when_accepted one (code_of b) ≡ when_accepted two (code_of c)

-- what differs inside the signatures alone is answered alike, with the same inputs (specification, 18.2)
pub record SignaturesAreNotRead : Type 0 where
  pub file : (b c : List ℕ) (given : Inputs) → DifferInSignatures b c → AnsweredAlike b c (check_file b given) (check_file c given)
  pub slot : (b c : List ℕ) (given : Inputs) → DifferInSignatures b c → AnsweredAlike b c (check_slot b given) (check_slot c given)
