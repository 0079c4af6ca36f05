-- Headers that differ inside their signatures alone get the same answers of the digest questions: what is signed of them agrees.
-- Assumes nothing.
use Prim.Native.Nat.{ℕ}
use mathlib.Core.Path.{◌≡◌, refl, ap, ◌∙◌}
use mathlib.Core.List.{List}
use native.Mathlib.Omega.{arith}
use Rattle.octets.specs.Read.{between}
use Rattle.blake2s.specs.Rfc7693.{blake2s_of}
use Rattle.blake2s.specs.Parts.{zero_tailed}
use Rattle.header.specs.Layout.{vendor_len, mask_at}
use Rattle.header.specs.Steps.{vendor_magic_missing}
use Rattle.header.specs.Table.{first_failing}
use Rattle.header.specs.Alike.{DifferInSignatures}
use Rattle.header.proofs.Rows.{same_row, same_stage}
use Rattle.header.proofs.Alike.{between_alike, vendor_shape_alike, firmware_shape_alike}
use Rattle.header.proofs.Signatures.{in_vendor, in_firmware, signed_alike, same_len, long_enough, same_magic, read_outside}
use Rattle.signing.specs.Digests.{vendor_rows, firmware_rows, signed_vendor, signed_at, signed_firmware, vendor_digest, firmware_digest}
use Rattle.signing.specs.Theorems.{SignaturesAreNotSigned}
use Rattle.signing.proofs.Laws.{answered_same}

module _ {b c : List ℕ} (d : DifferInSignatures b c) where
  vendor_rows_same : first_failing (vendor_rows (vendor_magic_missing b) b) ≡ first_failing (vendor_rows (vendor_magic_missing c) c)
  unfolding vendor_rows
  vendor_rows_same = same_row _ _ _ (same_magic d) (λ h. vendor_shape_alike (signed_alike d) (read_outside d))

  firmware_rows_same : first_failing (firmware_rows (vendor_magic_missing b) b) ≡ first_failing (firmware_rows (vendor_magic_missing c) c)
  unfolding firmware_rows
  firmware_rows_same =
      same_row _ _ _ (same_magic d) (λ h.
      same_stage _ _ _ _ (vendor_shape_alike (signed_alike d) (read_outside d)) (λ p. firmware_shape_alike (signed_alike d) (read_outside d) (long_enough d)))

  signed_vendor_same : signed_vendor b ≡ signed_vendor c
  unfolding signed_vendor
  signed_vendor_same =
      let e = same_len d in
      let l = d.least in
      ap
      zero_tailed
      (ap (λ (v : ℕ). between 0 (mask_at v) b) e ∙ between_alike (signed_alike d) 0 (mask_at (vendor_len c)) refl (λ i g h. in_vendor (vendor_len b) i (omega arith)))

  signed_firmware_same : signed_firmware b ≡ signed_firmware c
  unfolding signed_firmware
  signed_firmware_same =
      let e = same_len d in
      ap (signed_at b) e ∙ ap zero_tailed (between_alike (signed_alike d) (vendor_len c) _ refl (λ i g h. in_firmware (vendor_len b) i (omega arith) (omega arith)))

  vendor_same : vendor_digest b ≡ vendor_digest c
  unfolding vendor_digest
  vendor_same = answered_same _ _ _ _ vendor_rows_same (λ p. ap blake2s_of signed_vendor_same)

  firmware_same : firmware_digest b ≡ firmware_digest c
  unfolding firmware_digest
  firmware_same = answered_same _ _ _ _ firmware_rows_same (λ p. ap blake2s_of signed_firmware_same)

pub signatures_are_not_signed : SignaturesAreNotSigned
signatures_are_not_signed = record { vendor = λ b c d. vendor_same d; firmware = λ b c d. firmware_same d }
