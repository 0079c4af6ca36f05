-- What is shown of the places of signatures: where a digest question is answered they stand in the bytes, and hold what the check and the digest
-- take for sigmask, signature and keys. After a refusal there are none. And no signature is signed.
-- Assumes nothing.
use Rattle.std.specs.Prelude.{ℕ, ◌+◌, ◌-◌, ◌*◌, ◌≤◌, ◌≡◌, List, [], ◌∷◌, length, take, drop, Err}
use Rattle.std.specs.Result.{IsOk}
use Rattle.octets.specs.Read.{span_of}
use Rattle.header.specs.Layout.{vendor_len, vendor_mask, firmware_mask, signers_needed, key_count}
use Rattle.header.specs.Alike.{DifferInSignatures}
use Rattle.header.specs.declared.Refusal.{Refusal}
use Rattle.signing.specs.Digests.{vendor_digest, firmware_digest}
use Rattle.signing.specs.Places.{vendor_signature, firmware_signature}
use Rattle.signing.specs.declared.places.Signature.{Signature}

-- of the vendor header: the sigmask that S10 reads, and the 64 bytes behind it, which end the header. No keys
pub record VendorStands (b : List ℕ) (s : Signature) : Type 0 where
  pub mask : span_of s.mask b ≡ vendor_mask b ∷ []
  pub sig : span_of s.sig b ≡ take 64 (drop (vendor_len b - 64) b)
  pub sig_long : length (span_of s.sig b) ≡ 64
  pub keys : span_of s.keys b ≡ []
  pub none : (s.m ≡ 0) × (s.n ≡ 0)

-- of the firmware header: the sigmask that S19 reads, the 64 bytes behind it, which end the header, and the keys with m of n as S6 has them
pub record FirmwareStands (b : List ℕ) (s : Signature) : Type 0 where
  pub mask : span_of s.mask b ≡ firmware_mask b ∷ []
  pub sig : span_of s.sig b ≡ take 64 (drop (vendor_len b + 1024 - 64) b)
  pub sig_long : length (span_of s.sig b) ≡ 64
  pub keys : span_of s.keys b ≡ take (32 * s.n) (drop 32 b)
  pub keys_long : length (span_of s.keys b) ≡ 32 * s.n
  pub needed : s.m ≡ signers_needed b
  pub held : s.n ≡ key_count b
  pub some : 1 ≤ s.m
  pub within : s.m ≤ s.n
  pub most : s.n ≤ 8

-- no place, and no keys: a value written out here, and not the definition's
abbrev pub nothing : Signature
nothing = record { mask = record { from = 0; to = 0 }; sig = record { from = 0; to = 0 }; keys = record { from = 0; to = 0 }; m = 0; n = 0 }

pub record SignaturesStand : Type 0 where
  pub vendor : (b : List ℕ) → IsOk (vendor_digest b) → VendorStands b (vendor_signature b)
  pub vendor_none : (b : List ℕ) (r : Refusal) → vendor_digest b ≡ Err r → vendor_signature b ≡ nothing
  pub firmware : (b : List ℕ) → IsOk (firmware_digest b) → FirmwareStands b (firmware_signature b)
  pub firmware_none : (b : List ℕ) (r : Refusal) → firmware_digest b ≡ Err r → firmware_signature b ≡ nothing

-- what differs inside the signatures alone has the same digests to be signed, and the same refusals of the two questions (specification, 18.2)
pub record SignaturesAreNotSigned : Type 0 where
  pub vendor : (b c : List ℕ) → DifferInSignatures b c → vendor_digest b ≡ vendor_digest c
  pub firmware : (b c : List ℕ) → DifferInSignatures b c → firmware_digest b ≡ firmware_digest c
