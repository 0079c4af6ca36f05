-- Where the parts of an image and its signatures stand in the caller's bytes: start and length of each.
-- Assumes nothing.
use Rattle.std.specs.Prelude.{ℕ, ◌-◌, min, cond, List, [], ◌∷◌, ◌++◌, eqb, length, replicate}
use Rattle.octets.specs.declared.Span.{Span}
use Rattle.image.specs.Areas.{string_span, picture_span, code_span}
use Rattle.signing.specs.declared.places.Signature.{Signature}

-- where a span stands in n bytes: its start and its length, neither past the bytes
abbrev pub placed : ℕ → Span → List ℕ
placed n s = min s.from n ∷ (min s.to n - min s.from n) ∷ []

-- the string, the picture area and the code, where a check's number is 0; else zeros
unfoldable pub part_words : ℕ → List ℕ → List ℕ
part_words number b =
    cond (eqb number 0)
    (placed (length b) (string_span b) ++ (placed (length b) (picture_span b) ++ placed (length b) (code_span b)))
    (replicate 6 0)

-- of a signature in n bytes: the sigmask, the signature, the keys, and m of n
unfoldable pub signature_words : ℕ → Signature → List ℕ
signature_words n s = placed n s.mask ++ (placed n s.sig ++ (placed n s.keys ++ (s.m ∷ s.n ∷ [])))
