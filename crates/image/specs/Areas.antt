-- Where the areas of an image stand (specification, 2 and 3): each from an offset up to another, by the numbers of its headers.
-- Assumes nothing.
use Rattle.std.specs.Prelude.{ℕ, List}
use Rattle.octets.specs.declared.Span.{Span}
use Rattle.code_header.specs.Layout.{code_start_at, code_end_at}
use Rattle.header.specs.Layout.{vendor_len, key_count, string_len, string_start, string_end, picture_start, mask_at}

abbrev pub string_span : List ℕ → Span
string_span b = record { from = string_start (key_count b); to = string_end (key_count b) (string_len b) }

-- padding counted in
abbrev pub picture_span : List ℕ → Span
picture_span b = record { from = picture_start (key_count b) (string_len b); to = mask_at (vendor_len b) }

-- the code behind a header that starts at an offset
abbrev pub code_span_at : List ℕ → ℕ → Span
code_span_at b at = record { from = code_start_at at; to = code_end_at b at }

abbrev pub code_span : List ℕ → Span
code_span b = code_span_at b (vendor_len b)
