-- The vendor trust reading (specification, 7): a feature is active where its bit is unset. Bits 8 to 15 have no reading.
-- Assumes nothing.
use Rattle.std.specs.Prelude.{ℕ, ◌+◌, ◌^◌, cond}
use Rattle.octets.specs.Read.{bit_unset}
use Rattle.header.specs.declared.trust.Trust.{Trust}

-- the seconds that bit k adds
abbrev pub seconds_of : ℕ → ℕ → ℕ
seconds_of k x = cond (bit_unset k x) (2 ^ k) 0

unfoldable pub trust_of : ℕ → Trust
trust_of x =
    record {
      seconds = seconds_of 0 x + seconds_of 1 x + seconds_of 2 x + seconds_of 3 x;
      red = bit_unset 4 x;
      click = bit_unset 5 x;
      string = bit_unset 6 x;
      secret = bit_unset 7 x;
    }
