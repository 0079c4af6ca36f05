-- What is shown of the header's rows.
-- Assumes nothing.
use Rattle.std.specs.Prelude.{ℕ, ◌≤◌, ◌≡◌, Bool, true, List, Ok}
use Rattle.code_header.specs.Signers.{Signers}
use Rattle.header.specs.declared.Inputs.{Inputs}
use Rattle.header.specs.Layout.{vendor_mask, signers_needed, key_count, firmware_mask}
use Rattle.header.specs.Table.{first_failing, header_rows}
use Rattle.header.specs.Alike.{Alike, ReadByHeaders}

-- lists that agree on what the headers' steps read get the same answer of S1 to S20, where S1 is answered the same
abbrev pub AlikeHeadersPassAlike : Type 0
AlikeHeadersPassAlike =
    (R N : ℕ → Bool) (b c : List ℕ) → Alike R N b c → ReadByHeaders R N c → (magic_missing : Bool) (given : Inputs)
    → first_failing (header_rows magic_missing b given) ≡ first_failing (header_rows magic_missing c given)

-- both headers are signed: the vendor header by the key policy, the firmware header by the vendor's own m of n, and each with the chip's yes.
-- Someone must sign, and there are at most eight keys
pub record BothSigned (b : List ℕ) (given : Inputs) : Type 0 where
  pub vendor_least : 1 ≤ given.m
  pub vendor_keys : given.n ≤ 8
  pub vendor_signers : Signers given.m given.n (vendor_mask b)
  pub vendor_verdict : given.vendor ≡ true
  pub firmware_least : 1 ≤ signers_needed b
  pub firmware_keys : key_count b ≤ 8
  pub firmware_signers : Signers (signers_needed b) (key_count b) (firmware_mask b)
  pub firmware_verdict : given.firmware ≡ true

-- headers that pass S1 to S20 are signed
abbrev pub PassingHeadersAreSigned : Type 0
PassingHeadersAreSigned =
    (magic_missing : Bool) (b : List ℕ) (given : Inputs) → first_failing (header_rows magic_missing b given) ≡ Ok tt → BothSigned b given
