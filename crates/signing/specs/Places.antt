-- What a signature chip needs of the bytes beside a digest to be signed (specification, 5.1): where the sigmask and the signature stand; and for the
-- firmware header where the vendor's keys stand, and that exactly m of these n must sign. The vendor header's own keys and policy are the caller's.
-- Assumes nothing.
use Rattle.std.specs.Prelude.{ℕ, ◌+◌, List, Ok, Err}
use Rattle.octets.specs.declared.Span.{Span}
use Rattle.header.specs.Layout.{vendor_len, mask_at, signers_needed, key_count, string_len_at}
use Rattle.header.specs.Steps.{vendor_magic_missing}
use Rattle.header.specs.Table.{first_failing}
use Rattle.header.specs.Outcome.{Outcome}
use Rattle.signing.specs.Digests.{vendor_rows, firmware_rows}
use Rattle.signing.specs.declared.places.Signature.{Signature}

-- n bytes from an offset on
abbrev pub span_at : ℕ → ℕ → Span
span_at at n = record { from = at; to = at + n }

-- no bytes, and no keys
abbrev pub no_signature : Signature
no_signature = record { mask = span_at 0 0; sig = span_at 0 0; keys = span_at 0 0; m = 0; n = 0 }

-- of the vendor header: its last 65 bytes
unfoldable pub vendor_places : List ℕ → Signature
vendor_places b = record { mask = span_at (mask_at (vendor_len b)) 1; sig = span_at (mask_at (vendor_len b) + 1) 64; keys = span_at 0 0; m = 0; n = 0 }

-- of the firmware header: its last 65 bytes; and m of n, and the n keys of 32 bytes, of the vendor header
unfoldable pub firmware_places : List ℕ → Signature
firmware_places b =
    record {
      mask = span_at (vendor_len b + 959) 1;
      sig = span_at (vendor_len b + 960) 64;
      keys = record { from = 32; to = string_len_at (key_count b) };
      m = signers_needed b;
      n = key_count b;
    }

-- places where the digest question is answered, and none after a refusal
abbrev pub when_answered : Outcome → Signature → Signature
when_answered (Ok _) places = places
when_answered (Err r) places = no_signature

unfoldable pub vendor_signature : List ℕ → Signature
vendor_signature b = when_answered (first_failing (vendor_rows (vendor_magic_missing b) b)) (vendor_places b)

unfoldable pub firmware_signature : List ℕ → Signature
firmware_signature b = when_answered (first_failing (firmware_rows (vendor_magic_missing b) b)) (firmware_places b)
