-- What is shown of the words: numbers that fit their fields are read as they stand, each from its own word; a version that the check tells as a
-- word is the one that a writer reads from it; and m and n are refused exactly where S6 refuses them as they stand.
-- What a check and a choice are given, and what they tell, stands in its own word; and the place that is told for a loader, and for the code of an
-- image of the older model, holds it.
-- Assumes nothing.
use Rattle.std.specs.Prelude.{ℕ, ◌+◌, ◌≤◌, ◌<◌, ◌≡◌, true, List, [], ◌∷◌, eqb, length, get_or, take, drop, Ok, Err}
use Rattle.header.specs.Steps.{keys_impossible}
use Rattle.image.specs.declared.Version.{Version}
use Rattle.header.specs.Outcome.{number_of}
use Rattle.header.specs.declared.Refusal.{Refusal}
use Rattle.image.specs.Answer.{Answer}
use Rattle.image.specs.Chunks.{code_at}
use Rattle.image.specs.declared.Image.{Image}
use Rattle.signing.specs.Digests.{Digest}
use Rattle.loader.specs.declared.choice.Area.TheVariants.{Card, Internal}
use Rattle.loader.specs.Choice.{Choice, part_of}
use Rattle.abi.specs.Inputs.{inputs_of}
use Rattle.abi.specs.Answers.{answer_words, version_word, image_words, digest_bytes}
use Rattle.abi.specs.Headers.{vendor_fits, vendor_of, firmware_fits, version_of, firmware_of}
use Rattle.abi.specs.Loaders.{area_inputs_of, choice_words, loader_words}
use Rattle.abi.specs.Older.{older_inputs_of, code_words}

pub record NumbersAreRead : Type 0 where
  -- they fit exactly where each does
  pub vendor_fit : (w : List ℕ) → get_or w 1 0 ≤ 255 → get_or w 2 0 ≤ 255 → get_or w 5 0 ≤ 65535 → get_or w 6 0 ≤ 255 → vendor_fits w ≡ true
  pub firmware_fit : (w : List ℕ) → get_or w 4 0 ≤ 255 → firmware_fits w ≡ true
  -- the vendor header's
  pub expiry : (w : List ℕ) → (vendor_of w).expiry ≡ get_or w 0 0
  pub major : (w : List ℕ) → vendor_fits w ≡ true → (vendor_of w).major ≡ get_or w 1 0
  pub minor : (w : List ℕ) → vendor_fits w ≡ true → (vendor_of w).minor ≡ get_or w 2 0
  pub m : (w : List ℕ) → get_or w 3 0 ≤ 255 → (vendor_of w).m ≡ get_or w 3 0
  pub n : (w : List ℕ) → get_or w 4 0 ≤ 255 → (vendor_of w).n ≡ get_or w 4 0
  pub trust : (w : List ℕ) → vendor_fits w ≡ true → (vendor_of w).trust ≡ get_or w 5 0
  pub mask : (w : List ℕ) → vendor_fits w ≡ true → (vendor_of w).mask ≡ get_or w 6 0
  pub keys : (w : List ℕ) → keys_impossible (vendor_of w).m (vendor_of w).n ≡ keys_impossible (get_or w 3 0) (get_or w 4 0)
  -- the firmware header's, behind v
  pub firmware_expiry : (w : List ℕ) → (firmware_of w).expiry ≡ get_or w 1 0
  pub firmware_version : (w : List ℕ) → (firmware_of w).version ≡ version_of (get_or w 2 0)
  pub firmware_fix : (w : List ℕ) → (firmware_of w).fix ≡ version_of (get_or w 3 0)
  pub firmware_mask : (w : List ℕ) → firmware_fits w ≡ true → (firmware_of w).mask ≡ get_or w 4 0
  pub version : (x : Version) → x.major < 256 → x.minor < 256 → x.patch < 256 → x.build < 256 → version_of (version_word x) ≡ x

-- ---- what a check is given, and what it tells

pub record WordsTellTheAnswer : Type 0 where
  -- each input is read from its own word, and of a verdict 1 alone is yes
  pub time : (w : List ℕ) → (inputs_of w).time ≡ get_or w 0 0
  pub m : (w : List ℕ) → (inputs_of w).m ≡ get_or w 1 0
  pub n : (w : List ℕ) → (inputs_of w).n ≡ get_or w 2 0
  pub vendor : (w : List ℕ) → (inputs_of w).vendor ≡ eqb (get_or w 3 0) 1
  pub firmware : (w : List ℕ) → (inputs_of w).firmware ≡ eqb (get_or w 4 0) 1
  -- number, part and chunk, and the number that comes back, of a check and of a digest question
  pub accepted : (i : Image) → answer_words (Ok i) ≡ 0 ∷ 0 ∷ 0 ∷ []
  pub rejected : (r : Refusal) → answer_words {A = Image} (Err r) ≡ r.number ∷ r.part ∷ r.chunk ∷ []
  pub number : (a : Answer) → number_of a ≡ get_or (answer_words a) 0 0
  pub passed : (d : List ℕ) → answer_words (Ok d) ≡ 0 ∷ 0 ∷ 0 ∷ []
  pub refused : (r : Refusal) → answer_words {A = List ℕ} (Err r) ≡ r.number ∷ r.part ∷ r.chunk ∷ []
  pub question_number : (d : Digest) → number_of d ≡ get_or (answer_words d) 0 0
  -- a digest where the question is answered, and what a refusal leaves
  pub digest : (d old : List ℕ) → digest_bytes (Ok d) old ≡ d
  pub digest_kept : (r : Refusal) (old : List ℕ) → digest_bytes (Err r) old ≡ old
  -- what an acceptance tells, and a refusal leaves
  pub told : (i : Image) (old : List ℕ) → image_words (Ok i) old ≡ i.v ∷ i.codelen ∷ version_word i.version ∷ version_word i.fix ∷ []
  pub kept : (r : Refusal) (old : List ℕ) → image_words (Err r) old ≡ old

-- ---- the loader to run

-- the bytes of the area that is chosen
abbrev pub area_bytes : Choice → List ℕ → List ℕ → List ℕ
area_bytes (Ok Card) card internal = card
area_bytes (Ok Internal) card internal = internal
area_bytes (Err r) card internal = []

pub record WordsTellTheLoader : Type 0 where
  -- each input is read from its own word, and of a verdict 1 alone is yes
  pub time : (w : List ℕ) → (area_inputs_of w).time ≡ get_or w 0 0
  pub m : (w : List ℕ) → (area_inputs_of w).m ≡ get_or w 1 0
  pub n : (w : List ℕ) → (area_inputs_of w).n ≡ get_or w 2 0
  pub card_verdict : (w : List ℕ) → (area_inputs_of w).card ≡ eqb (get_or w 3 0) 1
  pub internal_verdict : (w : List ℕ) → (area_inputs_of w).internal ≡ eqb (get_or w 4 0) 1
  -- number, part and chunk, and the number that comes back
  pub chosen : (choice_words (Ok Card) ≡ 0 ∷ 0 ∷ 0 ∷ []) × (choice_words (Ok Internal) ≡ 0 ∷ 0 ∷ 0 ∷ [])
  pub refused : (r : Refusal) → choice_words (Err r) ≡ r.number ∷ r.part ∷ r.chunk ∷ []
  pub number : (c : Choice) → number_of c ≡ get_or (choice_words c) 0 0
  -- the area, and the place, which holds the loader and does not reach past the area
  pub card : (card internal : List ℕ) → get_or (loader_words (Ok Card) card internal) 0 0 ≡ 1
  pub internal : (card internal : List ℕ) → get_or (loader_words (Ok Internal) card internal) 0 0 ≡ 2
  pub neither : (r : Refusal) (card internal : List ℕ) → loader_words (Err r) card internal ≡ 0 ∷ 0 ∷ 0 ∷ []
  pub bytes : (c : Choice) (card internal : List ℕ)
      → take (get_or (loader_words c card internal) 2 0) (drop (get_or (loader_words c card internal) 1 0) (area_bytes c card internal)) ≡ part_of c card internal
  pub within : (c : Choice) (card internal : List ℕ) → get_or (loader_words c card internal) 1 0 + get_or (loader_words c card internal) 2 0 ≤ length (area_bytes c card internal)

-- ---- an image of the older model

pub record WordsTellTheOlderImage : Type 0 where
  -- each input is read from its own word, and of a verdict 1 alone is yes
  pub time : (w : List ℕ) → (older_inputs_of w).time ≡ get_or w 0 0
  pub keys : (w : List ℕ) → (older_inputs_of w).keys ≡ get_or w 1 0
  pub legacy_one : (w : List ℕ) → (older_inputs_of w).legacy.one ≡ eqb (get_or w 2 0) 1
  pub legacy_two : (w : List ℕ) → (older_inputs_of w).legacy.two ≡ eqb (get_or w 3 0) 1
  pub legacy_three : (w : List ℕ) → (older_inputs_of w).legacy.three ≡ eqb (get_or w 4 0) 1
  pub v2_one : (w : List ℕ) → (older_inputs_of w).v2.one ≡ eqb (get_or w 5 0) 1
  pub v2_two : (w : List ℕ) → (older_inputs_of w).v2.two ≡ eqb (get_or w 6 0) 1
  pub v2_three : (w : List ℕ) → (older_inputs_of w).v2.three ≡ eqb (get_or w 7 0) 1
  -- the place that is told holds the code, and does not reach past the bytes. After a refusal it is empty
  pub code : (at : ℕ) (b : List ℕ) → take (get_or (code_words at 0 b) 1 0) (drop (get_or (code_words at 0 b) 0 0) b) ≡ code_at b at
  pub within : (at number : ℕ) (b : List ℕ) → get_or (code_words at number b) 0 0 + get_or (code_words at number b) 1 0 ≤ length b
  pub none : (at number : ℕ) (b : List ℕ) → 1 ≤ number → code_words at number b ≡ 0 ∷ 0 ∷ []
