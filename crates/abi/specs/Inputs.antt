-- What a check is given besides the bytes, as five words: the time, m and n of the key policy, and the verdicts on the vendor header and on the
-- firmware header. A verdict is yes where its word is 1, and no for any other word.
-- Assumes nothing.
use Rattle.std.specs.Prelude.{ℕ, List, eqb, get_or}
use Rattle.header.specs.declared.Inputs.{Inputs}

unfoldable pub inputs_of : List ℕ → Inputs
inputs_of w =
    record { time = get_or w 0 0; m = get_or w 1 0; n = get_or w 2 0; vendor = eqb (get_or w 3 0) 1; firmware = eqb (get_or w 4 0) 1 }
