-- What is shown of the older model: what an accepted image is, said of its bytes; in which order the first steps refuse; that headers settle the code;
-- and what is signed.
-- Assumes nothing.
use Rattle.std.specs.Prelude.{ℕ, ◌+◌, ◌-◌, ◌*◌, ◌%◌, ◌≤◌, ◌<◌, ◌≡◌, true, List, [], ◌∷◌, ◌++◌, length, get_or, take, drop, replicate, Ok, Err}
use Rattle.octets.specs.Read.{u32_at, bytes_at, all_are}
use Rattle.sha256.specs.Fips180.{sha256_of}
use Rattle.header.specs.declared.Refusal.{Refusal}
use Rattle.std.specs.Result.{IsOk}
use Rattle.image.specs.Parts.{when_accepted}
use Rattle.image.specs.Difference.{chunk_of, OneCode}
use Rattle.image.specs.declared.Image.{Image}
use Rattle.image.specs.Answer.{Answer}
use Rattle.signing.specs.Digests.{Digest}
use Rattle.older_model.specs.declared.Verdicts.{Verdicts}
use Rattle.older_model.specs.declared.OlderInputs.{OlderInputs}
use Rattle.older_model.specs.Check.{check_v2_file, check_v2_slot, check_pair_file, check_pair_slot, v2_code, pair_code}
use Rattle.older_model.specs.Digest.{v2_digest, pair_v2_digest, pair_legacy_digest}

-- ---- the two headers

-- a V2 header of 1,024 bytes at an offset, with its magic, its length and its zeros, for code of 4 to 2,095,872 bytes, a multiple of 4
pub record V2Header (b : List ℕ) (at : ℕ) : Type 0 where
  pub magic : take 4 (drop at b) ≡ 84 ∷ 82 ∷ 90 ∷ 70 ∷ []
  pub long : at + 1024 ≤ length b
  pub size : u32_at b (at + 4) ≡ 1024
  pub some : 4 ≤ u32_at b (at + 12)
  pub most : u32_at b (at + 12) ≤ 2095872
  pub whole : u32_at b (at + 12) % 4 ≡ 0
  pub zeros : all_are 0 (take 8 (drop (at + 24) b)) ≡ true
  pub gap : all_are 0 (take 285 (drop (at + 0x2E3) b)) ≡ true

-- a legacy header of 256 bytes, with its magic and its zeros, for 1,028 to 2,096,896 bytes behind it, a multiple of 4
pub record LegacyHeader (b : List ℕ) : Type 0 where
  pub magic : take 4 b ≡ 84 ∷ 82 ∷ 90 ∷ 82 ∷ []
  pub long : 256 ≤ length b
  pub some : 1028 ≤ u32_at b 4
  pub most : u32_at b 4 ≤ 2096896
  pub whole : u32_at b 4 % 4 ≡ 0
  pub zeros : all_are 0 (take 53 (drop 11 b)) ≡ true

-- a key sheet has 3 to 255 keys
pub record KeySheet (keys : ℕ) : Type 0 where
  pub least : 3 ≤ keys
  pub most : keys ≤ 255

-- three keys of the sheet, all different. Their numbers count from 1, and stand in three bytes
pub record ThreeKeys (keys : ℕ) (b : List ℕ) (at : ℕ) : Type 0 where
  pub first : (1 ≤ get_or b at 0) × (get_or b at 0 ≤ keys)
  pub second : (1 ≤ get_or b (at + 1) 0) × (get_or b (at + 1) 0 ≤ keys)
  pub third : (1 ≤ get_or b (at + 2) 0) × (get_or b (at + 2) 0 ≤ keys)
  pub first_second : get_or b at 0 ≡ get_or b (at + 1) 0 → ⊥
  pub first_third : get_or b at 0 ≡ get_or b (at + 2) 0 → ⊥
  pub second_third : get_or b (at + 1) 0 ≡ get_or b (at + 2) 0 → ⊥

-- the chip's yes to each of three signatures
pub record AllYes (verdicts : Verdicts) : Type 0 where
  pub one : verdicts.one ≡ true
  pub two : verdicts.two ≡ true
  pub three : verdicts.three ≡ true

-- signed by three keys
pub record SignedByThree (keys : ℕ) (b : List ℕ) (at : ℕ) (verdicts : Verdicts) : Type 0 where
  pub signers : ThreeKeys keys b at
  pub agreed : AllYes verdicts

-- ---- what is accepted

-- how many bytes of code stand before chunk k: chunk 1 has 129,792 bytes, and each later one 131,072
abbrev pub chunk_from : ℕ → ℕ
chunk_from k = 131072 * (k - 1) - 1280

-- the time is not above an expiry, which 0 leaves out
abbrev pub Timely : List ℕ → ℕ → OlderInputs → Type 0
Timely b at given = (u32_at b (at + 8) ≡ 0 → ⊥) → given.time ≤ u32_at b (at + 8)

-- a V2 header at an offset, and the code behind it, of an image i, with these inputs
pub record IsV2 (b : List ℕ) (at : ℕ) (given : OlderInputs) (i : Image) : Type 0 where
  pub sheet : KeySheet given.keys
  pub header : V2Header b at
  -- the expiry, and who signed
  pub timely : Timely b at given
  pub signed : SignedByThree given.keys b (at + 0x2E0) given.v2
  -- all of the code is there. Hash k is the digest of what chunk k holds of it, or zeros where it holds nothing
  pub held : at + 1024 + i.codelen ≤ length b
  pub used : (k : ℕ) → 1 ≤ k → k ≤ 16 → chunk_from k < i.codelen
      → bytes_at 32 b (at + 32 * k) ≡ sha256_of (chunk_of 1280 k (take i.codelen (drop (at + 1024) b)))
  pub unused : (k : ℕ) → 1 ≤ k → k ≤ 16 → i.codelen ≤ chunk_from k → bytes_at 32 b (at + 32 * k) ≡ replicate 32 0
  -- what is told: v is 0, and codelen that of the V2 header
  pub v : i.v ≡ 0
  pub codelen : i.codelen ≡ u32_at b (at + 12)
  pub version : i.version ≡ record { major = get_or b (at + 16) 0; minor = get_or b (at + 16 + 1) 0; patch = get_or b (at + 16 + 2) 0; build = get_or b (at + 16 + 3) 0 }
  pub fix : i.fix ≡ record { major = get_or b (at + 20) 0; minor = get_or b (at + 20 + 1) 0; patch = get_or b (at + 20 + 2) 0; build = get_or b (at + 20 + 3) 0 }

-- the official pair: a legacy header, signed too, whose codelen is exactly 1,024 more than that of the V2 header behind it
pub record IsPair (b : List ℕ) (given : OlderInputs) (i : Image) : Type 0 where
  pub legacy : LegacyHeader b
  pub legacy_signed : SignedByThree given.keys b 8 given.legacy
  pub linked : u32_at b 4 ≡ u32_at b 268 + 1024
  pub v2 : IsV2 b 256 given i

-- nothing follows the code of a file, and nothing but erased bytes in a slot
abbrev pub EndsAt : List ℕ → ℕ → Type 0
EndsAt b n = length b ≡ n

abbrev pub ErasedFrom : List ℕ → ℕ → Type 0
ErasedFrom b n = all_are 255 (drop n b) ≡ true

-- a refusal that names no chunk
abbrev pub refused : ℕ → ℕ → Answer
refused number part = Err (record { number = number; part = part; chunk = 0 })

-- the checks of one form accept exactly such images; they hand back their code, and none after a refusal; and a refusal has a number, so that 0 says
-- accepted. A wrong key sheet is refused before all else, whatever the bytes are
pub record Accepts (file slot : List ℕ → OlderInputs → Answer) (code : List ℕ → List ℕ) (Is : List ℕ → OlderInputs → Image → Type 0) (at : ℕ) : Type 0 where
  pub file_is : (b : List ℕ) (given : OlderInputs) (i : Image) → file b given ≡ Ok i → Is b given i × EndsAt b (at + 1024 + i.codelen)
  pub is_file : (b : List ℕ) (given : OlderInputs) (i : Image) → Is b given i → EndsAt b (at + 1024 + i.codelen) → file b given ≡ Ok i
  pub slot_is : (b : List ℕ) (given : OlderInputs) (i : Image) → slot b given ≡ Ok i → Is b given i × ErasedFrom b (at + 1024 + i.codelen)
  pub is_slot : (b : List ℕ) (given : OlderInputs) (i : Image) → Is b given i → ErasedFrom b (at + 1024 + i.codelen) → slot b given ≡ Ok i
  pub file_code : (b : List ℕ) (given : OlderInputs) (i : Image) → file b given ≡ Ok i → when_accepted (file b given) (code b) ≡ take i.codelen (drop (at + 1024) b)
  pub slot_code : (b : List ℕ) (given : OlderInputs) (i : Image) → slot b given ≡ Ok i → when_accepted (slot b given) (code b) ≡ take i.codelen (drop (at + 1024) b)
  pub file_no_code : (b : List ℕ) (given : OlderInputs) (r : Refusal) → file b given ≡ Err r → when_accepted (file b given) (code b) ≡ []
  pub slot_no_code : (b : List ℕ) (given : OlderInputs) (r : Refusal) → slot b given ≡ Err r → when_accepted (slot b given) (code b) ≡ []
  pub file_number : (b : List ℕ) (given : OlderInputs) (r : Refusal) → file b given ≡ Err r → 1 ≤ r.number
  pub slot_number : (b : List ℕ) (given : OlderInputs) (r : Refusal) → slot b given ≡ Err r → 1 ≤ r.number
  pub file_sheet : (b : List ℕ) (given : OlderInputs) → (KeySheet given.keys → ⊥) → file b given ≡ refused 16 0
  pub slot_sheet : (b : List ℕ) (given : OlderInputs) → (KeySheet given.keys → ⊥) → slot b given ≡ refused 16 0

-- ---- what is refused first, and how

-- the steps of a V2 header at an offset and of the code behind it, in a check. Before says that every step before them holds
pub record RefusesV2 (check : List ℕ → OlderInputs → Answer) (Before : List ℕ → OlderInputs → Type 0) (at : ℕ) : Type 0 where
  pub magic : (b : List ℕ) (given : OlderInputs) → Before b given → (take 4 (drop at b) ≡ 84 ∷ 82 ∷ 90 ∷ 70 ∷ [] → ⊥) → check b given ≡ refused 10 2
  pub indexes : (b : List ℕ) (given : OlderInputs) → Before b given → V2Header b at → Timely b at given → (ThreeKeys given.keys b (at + 0x2E0) → ⊥) → check b given ≡ refused 8 2
  pub verdicts : (b : List ℕ) (given : OlderInputs) → Before b given → V2Header b at → Timely b at given → ThreeKeys given.keys b (at + 0x2E0) → (AllYes given.v2 → ⊥) → check b given ≡ refused 9 2
  pub cut : (b : List ℕ) (given : OlderInputs) → Before b given → V2Header b at → Timely b at given → SignedByThree given.keys b (at + 0x2E0) given.v2
      → length b < at + 1024 + u32_at b (at + 12) → check b given ≡ refused 2 3

-- the steps of a legacy header, in a check of the pair
pub record RefusesLegacy (check : List ℕ → OlderInputs → Answer) : Type 0 where
  pub magic : (b : List ℕ) (given : OlderInputs) → KeySheet given.keys → (take 4 b ≡ 84 ∷ 82 ∷ 90 ∷ 82 ∷ [] → ⊥) → check b given ≡ refused 1 1
  pub indexes : (b : List ℕ) (given : OlderInputs) → KeySheet given.keys → LegacyHeader b → (ThreeKeys given.keys b 8 → ⊥) → check b given ≡ refused 8 1
  pub verdicts : (b : List ℕ) (given : OlderInputs) → KeySheet given.keys → LegacyHeader b → ThreeKeys given.keys b 8 → (AllYes given.legacy → ⊥) → check b given ≡ refused 9 1
  -- no V2 header behind it, and one whose codelen is not 1,024 less
  pub behind : (b : List ℕ) (given : OlderInputs) → KeySheet given.keys → LegacyHeader b → SignedByThree given.keys b 8 given.legacy
      → (take 4 (drop 256 b) ≡ 84 ∷ 82 ∷ 90 ∷ 70 ∷ [] → ⊥) → check b given ≡ refused 10 2
  pub unlinked : (b : List ℕ) (given : OlderInputs) → KeySheet given.keys → LegacyHeader b → SignedByThree given.keys b 8 given.legacy → V2Header b 256
      → (u32_at b 4 ≡ u32_at b 268 + 1024 → ⊥) → check b given ≡ refused 12 2

-- before the V2 header of the pair: the key sheet, the legacy header and who signed it, and the codelens that fit
pub record LegacyBefore (b : List ℕ) (given : OlderInputs) : Type 0 where
  pub sheet : KeySheet given.keys
  pub legacy : LegacyHeader b
  pub signed : SignedByThree given.keys b 8 given.legacy
  pub linked : u32_at b 4 ≡ u32_at b 268 + 1024

-- the same inputs but for the verdicts on a legacy header
abbrev pub legacy_verdicts : Verdicts → OlderInputs → OlderInputs
legacy_verdicts x given = record { time = given.time; keys = given.keys; legacy = x; v2 = given.v2 }

pub record OlderImagesAreAccepted : Type 0 where
  pub alone : Accepts check_v2_file check_v2_slot v2_code (λ b given i. IsV2 b 0 given i) 0
  pub pair : Accepts check_pair_file check_pair_slot pair_code IsPair 256
  pub alone_file : RefusesV2 check_v2_file (λ b given. KeySheet given.keys) 0
  pub alone_slot : RefusesV2 check_v2_slot (λ b given. KeySheet given.keys) 0
  pub pair_file : RefusesLegacy check_pair_file
  pub pair_slot : RefusesLegacy check_pair_slot
  pub pair_file_v2 : RefusesV2 check_pair_file LegacyBefore 256
  pub pair_slot_v2 : RefusesV2 check_pair_slot LegacyBefore 256
  -- a V2 header by itself is not asked for verdicts on a legacy header
  pub own_file : (b : List ℕ) (given : OlderInputs) (x : Verdicts) → check_v2_file b (legacy_verdicts x given) ≡ check_v2_file b given
  pub own_slot : (b : List ℕ) (given : OlderInputs) (x : Verdicts) → check_v2_slot b (legacy_verdicts x given) ≡ check_v2_slot b given

-- ---- one header, one code

-- two images that a check of one form accepts, each with inputs of its own, under the same headers. They are the same, or the lowest chunk in which they
-- differ is named, with the bytes of both, and these have the same SHA-256 digest. The bytes are all of a file, and in a slot those of the image
abbrev pub FormOneCode : (List ℕ → OlderInputs → Answer) → ℕ → (List ℕ → Image → List ℕ) → Type 0
FormOneCode check at bytes =
    (b c : List ℕ) (given other : OlderInputs) (i j : Image) → check b given ≡ Ok i → check c other ≡ Ok j → take (at + 1024) b ≡ take (at + 1024) c
    → OneCode (bytes b i ≡ bytes c j) sha256_of 1280 (take i.codelen (drop (at + 1024) b)) (take j.codelen (drop (at + 1024) c))

-- one header, one code (specification, 18.1)
pub record OlderHeadersOneCode : Type 0 where
  pub v2_file : FormOneCode check_v2_file 0 (λ b i. b)
  pub v2_slot : FormOneCode check_v2_slot 0 (λ b i. take (1024 + i.codelen) b)
  pub pair_file : FormOneCode check_pair_file 256 (λ b i. b)
  pub pair_slot : FormOneCode check_pair_slot 256 (λ b i. take (1280 + i.codelen) b)

-- ---- what is signed

-- the V2 header at an offset, with bytes 0x220 to 0x2E2, the signatures and indexes, as zeros
abbrev pub v2_signed : List ℕ → ℕ → List ℕ
v2_signed b at = take 0x220 (drop at b) ++ (replicate 195 0 ++ take 285 (drop (at + 0x2E3) b))

-- the digest where a question is answered
abbrev pub digest_of : List ℕ → Digest
digest_of signed = Ok (sha256_of signed)

-- each question is answered exactly for such headers, by the digest of what is signed; else there is no digest
pub record OlderHeadersAnswer : Type 0 where
  pub v2 : (b : List ℕ) → V2Header b 0 → v2_digest b ≡ digest_of (v2_signed b 0)
  pub v2_only : (b : List ℕ) → IsOk (v2_digest b) → V2Header b 0
  pub v2_magic : (b : List ℕ) → (take 4 b ≡ 84 ∷ 82 ∷ 90 ∷ 70 ∷ [] → ⊥) → v2_digest b ≡ Err (record { number = 10; part = 2; chunk = 0 })
  pub pair_v2 : (b : List ℕ) → LegacyHeader b → V2Header b 256 → u32_at b 4 ≡ u32_at b 268 + 1024 → pair_v2_digest b ≡ digest_of (v2_signed b 256)
  pub pair_v2_only : (b : List ℕ) → IsOk (pair_v2_digest b) → LegacyHeader b × (V2Header b 256 × (u32_at b 4 ≡ u32_at b 268 + 1024))
  pub pair_v2_magic : (b : List ℕ) → (take 4 b ≡ 84 ∷ 82 ∷ 90 ∷ 82 ∷ [] → ⊥) → pair_v2_digest b ≡ Err (record { number = 1; part = 1; chunk = 0 })
  pub pair_v2_behind : (b : List ℕ) → LegacyHeader b → (take 4 (drop 256 b) ≡ 84 ∷ 82 ∷ 90 ∷ 70 ∷ [] → ⊥) → pair_v2_digest b ≡ Err (record { number = 10; part = 2; chunk = 0 })
  pub pair_v2_unlinked : (b : List ℕ) → LegacyHeader b → V2Header b 256 → (u32_at b 4 ≡ u32_at b 268 + 1024 → ⊥) → pair_v2_digest b ≡ Err (record { number = 12; part = 2; chunk = 0 })
  -- the legacy header signs the codelen bytes behind it as they are. They must be there, and no more is asked of them
  pub legacy : (b : List ℕ) → LegacyHeader b → 256 + u32_at b 4 ≤ length b → pair_legacy_digest b ≡ digest_of (take (u32_at b 4) (drop 256 b))
  pub legacy_only : (b : List ℕ) → IsOk (pair_legacy_digest b) → LegacyHeader b × (256 + u32_at b 4 ≤ length b)
  pub legacy_cut : (b : List ℕ) → LegacyHeader b → length b < 256 + u32_at b 4 → pair_legacy_digest b ≡ Err (record { number = 2; part = 3; chunk = 0 })
  pub legacy_magic : (b : List ℕ) → (take 4 b ≡ 84 ∷ 82 ∷ 90 ∷ 82 ∷ [] → ⊥) → pair_legacy_digest b ≡ Err (record { number = 1; part = 1; chunk = 0 })
