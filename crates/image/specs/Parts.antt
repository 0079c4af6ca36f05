-- The parts of an image that a check hands back: the string, the picture area and the code, as parts of the lent bytes.
-- Assumes nothing.
use Rattle.std.specs.Prelude.{List, [], ℕ, Ok, Err}
use Rattle.octets.specs.Read.{span_of}
use Rattle.image.specs.Areas.{string_span, picture_span}
use Rattle.image.specs.Answer.{Answer}

abbrev pub string_of : List ℕ → List ℕ
string_of b = span_of (string_span b) b

abbrev pub picture_of : List ℕ → List ℕ
picture_of b = span_of (picture_span b) b

-- a part where the answer is an acceptance, and nothing after a refusal
abbrev pub when_accepted : Answer → List ℕ → List ℕ
when_accepted (Ok i) part = part
when_accepted (Err r) part = []
