-- What the exported checks of the older model are given, as eight words, and where the code of an image stands (specification, 17.4).
-- Assumes nothing.
use Rattle.std.specs.Prelude.{ℕ, cond, List, eqb, length, get_or, replicate}
use Rattle.image.specs.Areas.{code_span_at}
use Rattle.older_model.specs.declared.Verdicts.{Verdicts}
use Rattle.older_model.specs.declared.OlderInputs.{OlderInputs}
use Rattle.abi.specs.Places.{placed}

-- three verdicts, each yes where its word is 1
abbrev pub verdicts_of : ℕ → ℕ → ℕ → Verdicts
verdicts_of one two three = record { one = eqb one 1; two = eqb two 1; three = eqb three 1 }

-- the time, the number of keys in the key sheet, the verdicts on the legacy header, and those on the V2 header
unfoldable pub older_inputs_of : List ℕ → OlderInputs
older_inputs_of w =
    record {
      time = get_or w 0 0;
      keys = get_or w 1 0;
      legacy = verdicts_of (get_or w 2 0) (get_or w 3 0) (get_or w 4 0);
      v2 = verdicts_of (get_or w 5 0) (get_or w 6 0) (get_or w 7 0);
    }

-- the code behind a V2 header that starts at an offset, where a check's number is 0; else zeros
unfoldable pub code_words : ℕ → ℕ → List ℕ → List ℕ
code_words at number b = cond (eqb number 0) (placed (length b) (code_span_at b at)) (replicate 2 0)
