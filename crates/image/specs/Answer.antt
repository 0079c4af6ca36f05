-- What a check answers.
-- Assumes nothing.
use Rattle.std.specs.Prelude.{ℕ, ◌+◌, List, [], ◌∷◌, ◌++◌, get_or, Result, Ok, Err}
use Rattle.code_header.specs.Layout.{code_len_at}
use Rattle.header.specs.Layout.{vendor_len}
use Rattle.header.specs.declared.Refusal.{Refusal}
use Rattle.header.specs.Outcome.{Outcome}
use Rattle.image.specs.declared.Version.{Version}
use Rattle.image.specs.declared.Image.{Image}

-- an acceptance, or a refusal
abbrev pub Answer : Type 0
Answer = Result Image Refusal

-- a version's four numbers
abbrev pub version_numbers : Version → List ℕ
version_numbers x = x.major ∷ x.minor ∷ x.patch ∷ x.build ∷ []

-- every value: number, part and chunk; and of an acceptance v, codelen, the version and the fix version
abbrev pub told : Answer → List ℕ
told (Ok i) = 0 ∷ 0 ∷ 0 ∷ i.v ∷ i.codelen ∷ (version_numbers i.version ++ version_numbers i.fix)
told (Err r) = r.number ∷ r.part ∷ r.chunk ∷ []

-- major, minor, patch, build
abbrev pub version_at : List ℕ → ℕ → Version
version_at b at = record { major = get_or b at 0; minor = get_or b (at + 1) 0; patch = get_or b (at + 2) 0; build = get_or b (at + 3) 0 }

-- what an acceptance tells: v; and codelen and the two versions of the header that starts at an offset
abbrev pub image_at : List ℕ → ℕ → ℕ → Image
image_at b v at = record { v = v; codelen = code_len_at b at; version = version_at b (at + 16); fix = version_at b (at + 20) }

-- of an image with a vendor header
unfoldable pub image_of : List ℕ → Image
image_of b = image_at b (vendor_len b) (vendor_len b)

-- an outcome of all steps as the answer
abbrev pub answer_of : Outcome → Image → Answer
answer_of (Ok _) i = Ok i
answer_of (Err r) i = Err r
