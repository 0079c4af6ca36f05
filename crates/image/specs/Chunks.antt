-- The code in chunks, and S23 (specification, 4 and 6): hash k is the digest of chunk k, or all zero if chunk k holds nothing.
-- All of it is over the room that chunk 1 has and over the digest, in which one family of images differs from another.
-- Chunks count from 1 in an answer; here k counts from 0, so that chunk k + 1 stands at k.
-- Assumes nothing.
use Rattle.std.specs.Prelude.{ℕ, zero, suc, ◌+◌, ◌*◌, List, [], ◌∷◌, ◌++◌, not, get_or, replicate}
use Rattle.octets.specs.Read.{between, span_of, bytes_at, same}
use Rattle.blake2s.specs.Rfc7693.{blake2s_of}
use Rattle.header.specs.Layout.{vendor_len, first_room}
use Rattle.header.specs.Table.{Row, row}
use Rattle.header.specs.declared.Refusal.{Refusal}
use Rattle.image.specs.Areas.{code_span_at}

-- ---- chunks of the code, by the room that chunk 1 has

-- chunk 1 has what is left for it, chunks 2 to 16 have 131,072 bytes each
abbrev pub room_of : ℕ → ℕ → ℕ
room_of first zero = first
room_of first (suc k) = 131072

-- code fills them in order: where each starts in the code
unfoldable pub chunk_start : ℕ → ℕ → ℕ
chunk_start first zero = 0
chunk_start first (suc k) = chunk_start first k + room_of first k

-- the last used may be partial, and those behind it hold nothing
unfoldable pub chunk : ℕ → ℕ → List ℕ → List ℕ
chunk first k code = between (chunk_start first k) (chunk_start first (suc k)) code

-- ---- hashes

-- the hash of a chunk that holds these bytes
unfoldable pub hash_of : (List ℕ → List ℕ) → List ℕ → List ℕ
hash_of digest [] = replicate 32 0
hash_of digest (x ∷ xs) = digest (x ∷ xs)

-- the hashes of the first n chunks
unfoldable pub hashes_of : (List ℕ → List ℕ) → ℕ → ℕ → List ℕ → List (List ℕ)
hashes_of digest zero first code = []
hashes_of digest (suc n) first code = hashes_of digest n first code ++ (hash_of digest (chunk first n code) ∷ [])

-- the first n hashes that stand in a table at an offset
unfoldable pub hashes_at : ℕ → List ℕ → ℕ → List (List ℕ)
hashes_at zero b at = []
hashes_at (suc n) b at = hashes_at n b at ++ (bytes_at 32 b (at + 32 * n) ∷ [])

-- the sixteen hashes of a header that starts at an offset
abbrev pub hash_table_at : List ℕ → ℕ → List (List ℕ)
hash_table_at b at = hashes_at 16 b (at + 32)

-- those of the firmware header
unfoldable pub hash_table : List ℕ → List (List ℕ)
hash_table b = hash_table_at b (vendor_len b)

-- ---- S23

-- the code behind a header that starts at an offset
abbrev pub code_at : List ℕ → ℕ → List ℕ
code_at b at = span_of (code_span_at b at) b

-- that of an image
abbrev pub code_of : List ℕ → List ℕ
code_of b = code_at b (vendor_len b)

-- 14 if the chunk is used, 15 if it holds nothing; part 3, and the chunk
abbrev pub wrong_hash : List ℕ → ℕ → Refusal
wrong_hash [] k = record { number = 15; part = 3; chunk = k }
wrong_hash (x ∷ xs) k = record { number = 14; part = 3; chunk = k }

-- chunk number k with these bytes and this hash
unfoldable pub chunk_row : (List ℕ → List ℕ) → ℕ → List ℕ → List ℕ → Row
chunk_row digest k bytes hash = row (not (same (hash_of digest bytes) hash)) (wrong_hash bytes k)

-- a row for each of the n chunks from k on, by the digest, the first chunk's room, the code and the table
unfoldable pub chunk_rows : (List ℕ → List ℕ) → ℕ → List ℕ → List (List ℕ) → ℕ → ℕ → List Row
chunk_rows digest first code table k zero = []
chunk_rows digest first code table k (suc n) = chunk_row digest (suc k) (chunk first k code) (get_or table k []) ∷ chunk_rows digest first code table (suc k) n

-- S23 of an image, whose hashes are BLAKE2s digests: the lowest chunk whose hash is wrong
unfoldable pub hash_rows : List ℕ → List Row
hash_rows b = chunk_rows blake2s_of (first_room (vendor_len b)) (code_of b) (hash_table b) 0 16
