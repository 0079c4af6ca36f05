-- What is shown of loaders: what an accepted one is, said of its bytes; that its header settles its code; and which one is handed back.
-- Assumes nothing.
use Rattle.std.specs.Prelude.{ℕ, ◌+◌, ◌*◌, ◌%◌, ◌≤◌, ◌≡◌, Bool, true, ◌⊎◌, List, [], ◌∷◌, ◌++◌, length, get_or, take, drop, replicate, Ok, Err}
use Rattle.std.specs.Result.{IsOk}
use Rattle.octets.specs.Read.{u32_at, bytes_at, all_are}
use Rattle.blake2s.specs.Rfc7693.{blake2s_of}
use Rattle.code_header.specs.Signers.{Signers}
use Rattle.header.specs.declared.Refusal.{Refusal}
use Rattle.image.specs.Parts.{when_accepted}
use Rattle.image.specs.Difference.{OneCode}
use Rattle.image.specs.declared.Image.{Image}
use Rattle.loader.specs.declared.AreaInputs.{AreaInputs}
use Rattle.loader.specs.declared.choice.Area.TheVariants.{Card, Internal}
use Rattle.loader.specs.Check.{code_of, check_card, check_internal}
use Rattle.loader.specs.Digest.{loader_digest}
use Rattle.loader.specs.Choice.{choose, part_of}

-- ---- what is accepted

-- a header of 1,024 bytes with its magic, its length and its zeros, for code of 4 to 130,048 bytes, a multiple of 4
pub record LoaderHeader (b : List ℕ) : Type 0 where
  pub magic : take 4 b ≡ 84 ∷ 82 ∷ 90 ∷ 66 ∷ []
  pub long : 1024 ≤ length b
  pub size : u32_at b 4 ≡ 1024
  pub some : 4 ≤ u32_at b 12
  pub most : u32_at b 12 ≤ 130048
  pub whole : u32_at b 12 % 4 ≡ 0
  pub zeros : all_are 0 (take 8 (drop 24 b)) ≡ true
  pub gap : all_are 0 (take 415 (drop 544 b)) ≡ true

-- a loader in an area whose later bytes are x, of an image i, with these inputs and this verdict
pub record IsLoader (x : ℕ) (b : List ℕ) (given : AreaInputs) (verdict : Bool) (i : Image) : Type 0 where
  pub header : LoaderHeader b
  -- all of the code is there. Hash 1 is that of the code, and hashes 2 to 16 are zero
  pub held : 1024 + i.codelen ≤ length b
  pub hash : bytes_at 32 b 32 ≡ blake2s_of (take i.codelen (drop 1024 b))
  pub unused : (k : ℕ) → 2 ≤ k → k ≤ 16 → bytes_at 32 b (32 * k) ≡ replicate 32 0
  -- the later bytes
  pub tail : all_are x (drop (1024 + i.codelen) b) ≡ true
  -- the policy; the expiry, which 0 leaves out; the signers; and the chip's yes
  pub least : 1 ≤ given.m
  pub within : given.m ≤ given.n
  pub keys : given.n ≤ 8
  pub timely : (u32_at b 8 ≡ 0 → ⊥) → given.time ≤ u32_at b 8
  pub signers : Signers given.m given.n (get_or b 959 0)
  pub agreed : verdict ≡ true
  -- what is told: v is 0
  pub v : i.v ≡ 0
  pub codelen : i.codelen ≡ u32_at b 12
  pub version : i.version ≡ record { major = get_or b 16 0; minor = get_or b 17 0; patch = get_or b 18 0; build = get_or b 19 0 }
  pub fix : i.fix ≡ record { major = get_or b 20 0; minor = get_or b 21 0; patch = get_or b 22 0; build = get_or b 23 0 }

-- a check accepts exactly such loaders, each area with its own tail and its own verdict
pub record LoadersAreAccepted : Type 0 where
  pub card : (b : List ℕ) (given : AreaInputs) (i : Image) → check_card b given ≡ Ok i → IsLoader 0 b given given.card i
  pub card_too : (b : List ℕ) (given : AreaInputs) (i : Image) → IsLoader 0 b given given.card i → check_card b given ≡ Ok i
  pub internal : (b : List ℕ) (given : AreaInputs) (i : Image) → check_internal b given ≡ Ok i → IsLoader 255 b given given.internal i
  pub internal_too : (b : List ℕ) (given : AreaInputs) (i : Image) → IsLoader 255 b given given.internal i → check_internal b given ≡ Ok i
  -- the code that is handed back of an accepted loader: codelen bytes behind its header
  pub card_code : (b : List ℕ) (given : AreaInputs) (i : Image) → check_card b given ≡ Ok i → when_accepted (check_card b given) (code_of b) ≡ take i.codelen (drop 1024 b)
  pub internal_code : (b : List ℕ) (given : AreaInputs) (i : Image) → check_internal b given ≡ Ok i → when_accepted (check_internal b given) (code_of b) ≡ take i.codelen (drop 1024 b)
  -- and none after a refusal
  pub card_no_code : (b : List ℕ) (given : AreaInputs) (r : Refusal) → check_card b given ≡ Err r → when_accepted (check_card b given) (code_of b) ≡ []
  pub internal_no_code : (b : List ℕ) (given : AreaInputs) (r : Refusal) → check_internal b given ≡ Err r → when_accepted (check_internal b given) (code_of b) ≡ []
  -- a refusal has a number, so that 0 says accepted
  pub card_number : (b : List ℕ) (given : AreaInputs) (r : Refusal) → check_card b given ≡ Err r → 1 ≤ r.number
  pub internal_number : (b : List ℕ) (given : AreaInputs) (r : Refusal) → check_internal b given ≡ Err r → 1 ≤ r.number
  -- bytes that do not start with the magic, such as an empty card or an erased area, are refused with 1 under part 2, whatever the inputs
  pub card_none : (b : List ℕ) (given : AreaInputs) → (take 4 b ≡ 84 ∷ 82 ∷ 90 ∷ 66 ∷ [] → ⊥) → check_card b given ≡ Err (record { number = 1; part = 2; chunk = 0 })
  pub internal_none : (b : List ℕ) (given : AreaInputs) → (take 4 b ≡ 84 ∷ 82 ∷ 90 ∷ 66 ∷ [] → ⊥) → check_internal b given ≡ Err (record { number = 1; part = 2; chunk = 0 })

-- ---- one header, one code

-- accepted in one of the areas
abbrev pub AcceptedLoader : List ℕ → AreaInputs → Image → Type 0
AcceptedLoader b given i = (check_card b given ≡ Ok i) ⊎ (check_internal b given ≡ Ok i)

-- loaders that are accepted under the same header, in any area and each with inputs of its own, are the same, or the lowest chunk in which they differ,
-- which is chunk 1, has the same BLAKE2s digest in both (specification, 18.1)
abbrev pub OneLoaderHeaderOneCode : Type 0
OneLoaderHeaderOneCode =
    (b c : List ℕ) (given other : AreaInputs) (i j : Image) → AcceptedLoader b given i → AcceptedLoader c other j → take 1024 b ≡ take 1024 c
    → OneCode (take (1024 + i.codelen) b ≡ take (1024 + j.codelen) c) blake2s_of 1024 (take i.codelen (drop 1024 b)) (take j.codelen (drop 1024 c))

-- ---- what is signed

-- the digest question is answered exactly for such a header, by it with its last 65 bytes as zeros; else there is no digest
pub record LoaderHeadersAnswer : Type 0 where
  pub answered : (b : List ℕ) → LoaderHeader b → loader_digest b ≡ Ok (blake2s_of (take 959 b ++ replicate 65 0))
  pub only : (b : List ℕ) → IsOk (loader_digest b) → LoaderHeader b
  pub none : (b : List ℕ) → (take 4 b ≡ 84 ∷ 82 ∷ 90 ∷ 66 ∷ [] → ⊥) → loader_digest b ≡ Err (record { number = 1; part = 2; chunk = 0 })

-- ---- what is chosen

-- a part is, in its area, exactly the header and the code of the image i
pub record HandedBack (part area : List ℕ) (i : Image) : Type 0 where
  pub bytes : part ≡ take (1024 + i.codelen) area
  pub long : length part ≡ 1024 + i.codelen

-- the same inputs but for the verdict on the card, or on the internal area
abbrev pub card_verdict : Bool → AreaInputs → AreaInputs
card_verdict x given = record { time = given.time; m = given.m; n = given.n; card = x; internal = given.internal }

abbrev pub internal_verdict : Bool → AreaInputs → AreaInputs
internal_verdict x given = record { time = given.time; m = given.m; n = given.n; card = given.card; internal = x }

pub record AcceptedLoaderRuns : Type 0 where
  -- the card's, if it is accepted
  pub card : (card internal : List ℕ) (given : AreaInputs) (i : Image) → check_card card given ≡ Ok i
      → (choose card internal given ≡ Ok Card) × HandedBack (part_of (choose card internal given) card internal) card i
  -- otherwise the internal one, if it is accepted
  pub internal : (card internal : List ℕ) (given : AreaInputs) (r : Refusal) (i : Image) → check_card card given ≡ Err r → check_internal internal given ≡ Ok i
      → (choose card internal given ≡ Ok Internal) × HandedBack (part_of (choose card internal given) card internal) internal i
  -- otherwise none, and the internal refusal
  pub neither : (card internal : List ℕ) (given : AreaInputs) (r s : Refusal) → check_card card given ≡ Err r → check_internal internal given ≡ Err s
      → (choose card internal given ≡ Err s) × (part_of (choose card internal given) card internal ≡ [])
  -- and that refusal has a number, so that 0 says that a loader is handed back
  pub number : (card internal : List ℕ) (given : AreaInputs) (s : Refusal) → choose card internal given ≡ Err s → 1 ≤ s.number
  -- what a card holds that is refused, and why, changes nothing
  pub refused_card : (card other internal : List ℕ) (given : AreaInputs) (x : Bool) (r s : Refusal) → check_card card given ≡ Err r → check_card other (card_verdict x given) ≡ Err s
      → (choose card internal given ≡ choose other internal (card_verdict x given))
      × (part_of (choose card internal given) card internal ≡ part_of (choose other internal (card_verdict x given)) other internal)
  -- with a card that is accepted, neither the internal area nor the verdict on it matters
  pub accepted_card : (card internal other : List ℕ) (given : AreaInputs) (x : Bool) (i : Image) → check_card card given ≡ Ok i
      → (choose card internal given ≡ choose card other (internal_verdict x given))
      × (part_of (choose card internal given) card internal ≡ part_of (choose card other (internal_verdict x given)) card other)
