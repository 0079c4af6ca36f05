-- Who signed a header, told from its sigmask, and what is shown of the test that S10 and S19 make of it.
-- Assumes nothing.
use Rattle.std.specs.Prelude.{ℕ, ◌^◌, ◌<◌, ◌≡◌, false}
use Rattle.std.specs.Int.Count.{ones}
use Rattle.code_header.specs.Tests.{mask_wrong}

-- a sigmask that names exactly m signers among n keys: it has no bit at n or higher, and its ones number m
pub record Signers (m n mask : ℕ) : Type 0 where
  pub within : mask < 2 ^ n
  pub count : ones mask ≡ m

-- the test passes exactly such sigmasks
pub record MasksPassBySigners : Type 0 where
  pub signed : (m n mask : ℕ) → mask_wrong m n mask ≡ false → Signers m n mask
  pub passes : (m n mask : ℕ) → Signers m n mask → mask_wrong m n mask ≡ false
