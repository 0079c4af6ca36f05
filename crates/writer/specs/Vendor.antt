-- The vendor header as its fields one behind the other, when its writer refuses, and what the call answers and leaves (specification, 2 and 8.1).
-- Assumes nothing.
use Rattle.std.specs.Prelude.{ℕ, ◌+◌, ◌-◌, ◌*◌, List, [], ◌∷◌, ◌++◌, not, ◌||◌, length, ltb, eqb}
use Rattle.octets.specs.Put.{le16, le32, zeros}
use Rattle.octets.specs.Rounding.{round_up}
use Rattle.header.specs.Layout.{TRZV, string_end, picture_start, mask_at}
use Rattle.header.specs.Steps.{keys_impossible}
use Rattle.header.specs.Table.{Row, step, first_failing}
use Rattle.writer.specs.Writers.{Written, answered, output}
use Rattle.writer.specs.declared.Vendor.{Vendor}

-- v: the least multiple of 512 that holds a string of s bytes behind n keys, and a picture of p bytes
abbrev pub vendor_size : ℕ → ℕ → ℕ → ℕ
vendor_size n s p = round_up 512 (picture_start n s + p + 65)

-- ---- the fields

-- offsets 0 to 31 of a header of v bytes
unfoldable pub vendor_head : Vendor → ℕ → List ℕ
vendor_head f v =
    TRZV
    ++ (le32 v
    ++ (le32 f.expiry
    ++ (f.major ∷ f.minor ∷ f.m ∷ f.n
    ∷ (le16 f.trust
    ++ (0 ∷ 0 ∷ 0 ∷ 0 ∷ 0 ∷ 0 ∷ 0 ∷ 0 ∷ 0 ∷ 0 ∷ 0 ∷ 0 ∷ 0 ∷ 0 ∷ [])))))

-- up to the picture: the keys, the string behind its length, and zeros
unfoldable pub vendor_front : ℕ → Vendor → List ℕ → List ℕ → List ℕ
vendor_front v f keys string =
    vendor_head f v
    ++ (keys
    ++ (length string
    ∷ (string
    ++ zeros (picture_start f.n (length string) - string_end f.n (length string)))))

-- from the picture on, which starts at an offset: zeros up to the sigmask, the sigmask and the signature
unfoldable pub vendor_back : ℕ → ℕ → List ℕ → ℕ → List ℕ → List ℕ
vendor_back v start picture mask sig = picture ++ (zeros (mask_at v - (start + length picture)) ++ (mask ∷ sig))

-- a header of v bytes
unfoldable pub vendor_fields : ℕ → Vendor → List ℕ → List ℕ → List ℕ → List ℕ → List ℕ
vendor_fields v f keys string picture sig =
    vendor_front v f keys string ++ vendor_back v (picture_start f.n (length string)) picture f.mask sig

-- the vendor header
abbrev pub vendor_header : Vendor → List ℕ → List ℕ → List ℕ → List ℕ → List ℕ
vendor_header f keys string picture sig = vendor_fields (vendor_size f.n (length string) (length picture)) f keys string picture sig

-- ---- the refusals, in order, by the lengths of the keys, the string, the picture and the output

unfoldable pub vendor_refusals : Vendor → ℕ → ℕ → ℕ → ℕ → List Row
vendor_refusals f k s p room =
    step (keys_impossible f.m f.n) 4 0
    ∷ step (not (eqb k (32 * f.n)) || ltb 255 s) 20 0
    ∷ step (ltb 65536 (vendor_size f.n s p)) 3 0
    ∷ step (ltb room (vendor_size f.n s p)) 21 0
    ∷ []

-- ---- the call: what it answers and leaves, by the keys, the string, the picture, the signature and the output

abbrev pub vendor_answer : Vendor → List ℕ → List ℕ → List ℕ → List ℕ → Written
vendor_answer f keys string picture out =
    answered
    (first_failing (vendor_refusals f (length keys) (length string) (length picture) (length out)))
    (vendor_size f.n (length string) (length picture))

abbrev pub vendor_output : Vendor → List ℕ → List ℕ → List ℕ → List ℕ → List ℕ → List ℕ
vendor_output f keys string picture sig out =
    output
    (first_failing (vendor_refusals f (length keys) (length string) (length picture) (length out)))
    (vendor_header f keys string picture sig)
    out
