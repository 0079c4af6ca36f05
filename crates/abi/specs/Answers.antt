-- How the exported calls tell an answer: as the three words number, part and chunk. And what they tell beside it, which a refusal leaves as it was.
-- Assumes nothing.
use Rattle.std.specs.Prelude.{ℕ, ◌+◌, ◌*◌, Bool, cond, List, [], ◌∷◌, Result, Ok, Err}
use Rattle.header.specs.Outcome.{number_of, where_of}
use Rattle.header.specs.declared.Refusal.{Refusal}
use Rattle.header.specs.declared.trust.Trust.{Trust}
use Rattle.image.specs.Answer.{Answer}
use Rattle.image.specs.declared.Version.{Version}
use Rattle.image.specs.declared.Image.{Image}
use Rattle.signing.specs.Digests.{Digest}

-- ---- any answer that is a refusal or something else

abbrev pub answer_words : {A : Type 0} → Result A Refusal → List ℕ
answer_words a = number_of a ∷ where_of a

-- ---- a check's answer

-- a version as a word, the major number in its least byte
abbrev pub version_word : Version → ℕ
version_word x = x.major + 256 * x.minor + 65536 * x.patch + 16777216 * x.build

-- what an acceptance tells: v, codelen and both versions
unfoldable pub told_words : Image → List ℕ
told_words i = i.v ∷ i.codelen ∷ version_word i.version ∷ version_word i.fix ∷ []

abbrev pub image_words : Answer → List ℕ → List ℕ
image_words (Ok i) old = told_words i
image_words (Err r) old = old

-- ---- a digest question's answer

abbrev pub digest_bytes : Digest → List ℕ → List ℕ
digest_bytes (Ok digest) old = digest
digest_bytes (Err r) old = old

-- ---- the vendor's trust

abbrev pub flag : Bool → ℕ
flag x = cond x 1 0

-- the seconds, and 1 for each feature that is active
abbrev pub trust_words : Trust → List ℕ
trust_words t = t.seconds ∷ flag t.red ∷ flag t.click ∷ flag t.string ∷ flag t.secret ∷ []
