-- Two lists of bytes that agree on the positions which a check reads.
-- The first word given apart, the erased bytes behind a file, and the two signatures are all such agreements.
-- Assumes nothing.
use Rattle.std.specs.Prelude.{ℕ, ◌+◌, ◌-◌, ◌*◌, ◌/◌, ◌≤◌, ◌<◌, min, ◌≡◌, List, Bool, true, length, get_or}
use Rattle.header.specs.Layout.{vendor_len, key_count, string_len}

-- b and c agree at the positions R, and their lengths agree as far as the ends N
pub record Alike (R N : ℕ → Bool) (b c : List ℕ) : Type 0 where
  pub at : (i : ℕ) → R i ≡ true → get_or b i 0 ≡ get_or c i 0
  pub len : (n : ℕ) → N n ≡ true → min n (length b) ≡ min n (length c)

-- R holds what S3 to S20 read of the headers of c, and N every length up to their end. Positions are written as numbers. None of them lies in a
-- signature, the keys, the string or the picture area, nor in vtrust or a version
pub record ReadByHeaders (R N : ℕ → Bool) (c : List ℕ) : Type 0 where
  -- hdrlen, which is read before v is known to be good
  pub hdrlen : (i : ℕ) → 4 ≤ i → i < 8 → R i ≡ true
  -- of the vendor header: the expiry, m and n, and the zeros before the keys
  pub expiry : 512 ≤ vendor_len c → (i : ℕ) → 8 ≤ i → i < 12 → R i ≡ true
  pub counts : 512 ≤ vendor_len c → (i : ℕ) → 14 ≤ i → i < 16 → R i ≡ true
  pub zeros : 512 ≤ vendor_len c → (i : ℕ) → 18 ≤ i → i < 32 → R i ≡ true
  -- the string's length behind at most 8 keys, and the bytes between the string and a picture area that leaves 65 bytes
  pub string : 512 ≤ vendor_len c → key_count c ≤ 8 → R (32 + 32 * key_count c) ≡ true
  pub padding : 512 ≤ vendor_len c → key_count c ≤ 8 → (33 + 32 * key_count c + string_len c + 3) / 4 * 4 + 65 ≤ vendor_len c
      → (i : ℕ) → 33 + 32 * key_count c + string_len c ≤ i → i < (33 + 32 * key_count c + string_len c + 3) / 4 * 4 → R i ≡ true
  -- the sigmask, 65 bytes before the end
  pub mask : 512 ≤ vendor_len c → R (vendor_len c - 65) ≡ true
  -- of the firmware header: magic, hdrlen, expiry and codelen; the zeros behind the versions; the zeros behind the hashes, and the sigmask
  pub start : 512 ≤ vendor_len c → (i : ℕ) → vendor_len c ≤ i → i < vendor_len c + 16 → R i ≡ true
  pub gap : 512 ≤ vendor_len c → (i : ℕ) → vendor_len c + 24 ≤ i → i < vendor_len c + 32 → R i ≡ true
  pub end : 512 ≤ vendor_len c → (i : ℕ) → vendor_len c + 544 ≤ i → i < vendor_len c + 960 → R i ≡ true
  pub ends : (n : ℕ) → n ≤ vendor_len c + 1024 → N n ≡ true

-- b and c differ at most inside the two signatures (specification, 18.2): the last 64 bytes of the vendor header, which is v bytes long, and those of
-- the firmware header, whose 1,024 bytes start at v. b and c may be too short to hold them
pub record DifferInSignatures (b c : List ℕ) : Type 0 where
  -- of what S4 asks of v, this is all that is needed
  pub least : 512 ≤ vendor_len b
  pub lengths : length b ≡ length c
  pub vendor : (i : ℕ) → i + 64 < vendor_len b → get_or b i 0 ≡ get_or c i 0
  pub firmware : (i : ℕ) → vendor_len b ≤ i → i < vendor_len b + 960 → get_or b i 0 ≡ get_or c i 0
  pub code : (i : ℕ) → vendor_len b + 1024 ≤ i → get_or b i 0 ≡ get_or c i 0
