-- Two accepted images with the same headers: their tables of hashes are the same, and so the hashes of their chunks are.
-- Assumes nothing.
use Prim.Native.Nat.{ℕ, suc, ◌+◌, ◌-◌, ◌*◌, ◌≤◌, ◌<◌, min}
use mathlib.Core.Path.{◌≡◌, refl, sym, subst, ap, ap₂, ◌∙◌}
use mathlib.Core.List.{List, [], ◌∷◌}
use mathlib.Core.Bool.{Bool, true, ◌&&◌}
use native.Mathlib.Omega.{arith}
use lib.ListN.{length, get_or, take, drop, length-take, length-drop}
use lib.Seq.{get_or-take, take_all}
use lib.Dec.{leb, ltb}
use borrow.Author.Tests.{le-leb, lt-ltb, ltb-true}
use Rattle.std.specs.Prelude.{Ok}
use Rattle.octets.specs.Read.{u32_at, between}
use Rattle.octets.proofs.Laws.{and_right}
use Rattle.blake2s.specs.Rfc7693.{blake2s_of}
use Rattle.header.specs.Layout.{vendor_len, code_len, code_start, image_len, first_room}
use Rattle.header.specs.Steps.{vendor_magic_missing}
use Rattle.header.specs.Alike.{Alike}
use Rattle.header.specs.declared.Inputs.{Inputs}
use Rattle.header.proofs.Alike.{no_end, same_start_alike, same_part_alike, u32_alike}
use Rattle.image.specs.Chunks.{chunk_start, chunk, hash_of, hashes_at, hash_table, code_of}
use Rattle.image.specs.Answer.{image_of}
use Rattle.image.specs.Difference.{chunk_of, OneCode}
use Rattle.image.specs.Theorems.{image_bytes, header_bytes, code_bytes, AcceptedOneCode, OneHeaderOneCode}
use Rattle.image.specs.Check.{check_file, check_slot}
use Rattle.image.specs.declared.Image.{Image}
use Rattle.image.specs.Answer.{Answer}
use Rattle.image.proofs.Hashes.{start_at, hash_of_lem}
use Rattle.image.proofs.Facts.{Sound, sound, file_rows_pass, file_told, file_length}
use Rattle.image.proofs.Alike.{hashes_at_alike}
use Rattle.image.proofs.Parts.{part_taken, slot_rows_pass, slot_told}
use Rattle.image.proofs.Difference.{one_code, image_joined, code_long}

-- ---- chunks by the room of the first one, and by what the headers leave of it

pub chunk_at : (first h : ℕ) → first + h ≡ 131072 → (k : ℕ) (code : List ℕ) → 1 ≤ k → chunk_of h k code ≡ chunk first (k - 1) code
unfolding chunk
chunk_at first h room k code l =
    let e = start_at first h (suc (k - 1)) room in
    let f : chunk_start first (suc (k - 1)) ≡ 131072 * k - h = omega arith in
    ap₂ (λ (x y : ℕ). between x y code) (sym (start_at first h (k - 1) room)) (sym f)

-- hashes of as many bytes are digests, or both are of none
digests_agree : (digest : List ℕ → List ℕ) (x y : List ℕ) → length x ≡ length y → hash_of digest x ≡ hash_of digest y → digest x ≡ digest y
unfolding hash_of
digests_agree digest [] [] l e = refl
digests_agree digest [] (y ∷ ys) l e = absurd (omega arith)
digests_agree digest (x ∷ xs) [] l e = absurd (omega arith)
digests_agree digest (x ∷ xs) (y ∷ ys) l e = e

between_long : (a e : ℕ) (s t : List ℕ) → length s ≡ length t → length (between a e s) ≡ length (between a e t)
unfolding between
between_long a e s t h = simp (length-take, length-drop) (ap (λ (n : ℕ). min (e - a) (n - a)) h)

-- ---- the code, as the statement has it

code_is : (s : List ℕ) → code_of s ≡ code_bytes s (image_of s)
unfolding image_of
code_is s = part_taken s (vendor_len s + 1024) (code_len s) (code_start s) (image_len s) refl refl

long_is : (s : List ℕ) → Sound s → length (code_bytes s (image_of s)) ≡ code_len s
unfolding image_of
long_is s k = code_long (vendor_len s + 1024) (code_len s) s k.held

-- ---- two sound images with the same v, whose firmware headers agree up to their sigmasks

abbrev in_firmware : ℕ → ℕ → Bool
in_firmware v i = leb v i && ltb i (v + 959)

inside : (v i : ℕ) → v ≤ i → i < v + 959 → in_firmware v i ≡ true
inside v i g h = rw (le-leb v i g, lt-ltb i (v + 959) h)

module _ (b c : List ℕ) (p : Sound b) (q : Sound c) (len : vendor_len b ≡ vendor_len c) (w : Alike (in_firmware (vendor_len c)) no_end b c) where
  code_len_same : code_len b ≡ code_len c
  code_len_same = ap (λ (v : ℕ). u32_at b (v + 12)) len ∙ u32_alike w (vendor_len c + 12) (λ i g h. inside (vendor_len c) i (omega arith) (omega arith))

  table_same : hash_table b ≡ hash_table c
  unfolding hash_table
  table_same = ap (λ (v : ℕ). hashes_at 16 b (v + 32)) len ∙ hashes_at_alike w 16 (vendor_len c + 32) (λ i g h. inside (vendor_len c) i (omega arith) (omega arith))

  hash_same : (k : ℕ) → k < 16
      → hash_of blake2s_of (chunk (first_room (vendor_len b)) k (code_bytes b (image_of b))) ≡ hash_of blake2s_of (chunk (first_room (vendor_len b)) k (code_bytes c (image_of c)))
  hash_same k h =
      ap (λ (s : List ℕ). hash_of blake2s_of (chunk (first_room (vendor_len b)) k s)) (sym (code_is b))
      ∙ sym (hash_of_lem blake2s_of 16 (first_room (vendor_len b)) (code_of b) k h)
      ∙ ap (λ (t : List (List ℕ)). get_or t k []) (sym p.hashes ∙ table_same ∙ q.hashes)
      ∙ hash_of_lem blake2s_of 16 (first_room (vendor_len c)) (code_of c) k h
      ∙ ap₂ (λ (v : ℕ) (s : List ℕ). hash_of blake2s_of (chunk (first_room v) k s)) (sym len) (code_is c)

  codes_same : (Same : Type 0) → (code_bytes b (image_of b) ≡ code_bytes c (image_of c) → Same)
      → OneCode Same blake2s_of (vendor_len b + 1024) (code_bytes b (image_of b)) (code_bytes c (image_of c))
  codes_same Same give =
      let h = p.vendor.size.most in
      let m = p.firmware.code.most in
      let l = long_is b p in
      let long : length (code_bytes b (image_of b)) ≡ length (code_bytes c (image_of c)) = l ∙ code_len_same ∙ sym (long_is c q) in
      let room : first_room (vendor_len b) + (vendor_len b + 1024) ≡ 131072 = omega arith in
      one_code blake2s_of (vendor_len b + 1024) (code_bytes b (image_of b)) (code_bytes c (image_of c)) long (omega arith)
      (λ k g f u.
      digests_agree blake2s_of _ _ (between_long _ _ _ _ long)
      (ap (hash_of blake2s_of) (chunk_at (first_room (vendor_len b)) (vendor_len b + 1024) room k (code_bytes b (image_of b)) g)
      ∙ hash_same (k - 1) (omega arith)
      ∙ sym (ap (hash_of blake2s_of) (chunk_at (first_room (vendor_len b)) (vendor_len b + 1024) room k (code_bytes c (image_of c)) g))))
      Same give

-- ---- such images by what the statement has of their headers

-- v stands in the first eight bytes
same_len : (b c : List ℕ) (n m : ℕ) → 8 ≤ n → 8 ≤ m → take n b ≡ take m c → vendor_len b ≡ vendor_len c
unfolding u32_at
same_len b c n m g h e = rw (near 4 (omega arith), near 5 (omega arith), near 6 (omega arith), near 7 (omega arith))
  where
    near : (i : ℕ) → i < 8 → get_or b i 0 ≡ get_or c i 0
    near i l = sym (get_or-take n b i 0 (omega arith)) ∙ ap (λ (s : List ℕ). get_or s i 0) e ∙ get_or-take m c i 0 (omega arith)

module _ (b c : List ℕ) (p : Sound b) (q : Sound c) where
  by_headers : (Same : Type 0) → (image_bytes b (image_of b) ≡ image_bytes c (image_of c) → Same) → header_bytes b (image_of b) ≡ header_bytes c (image_of c)
      → OneCode Same blake2s_of (vendor_len b + 1024) (code_bytes b (image_of b)) (code_bytes c (image_of c))
  unfolding image_of
  by_headers Same give e =
      let len = same_len b c (vendor_len b + 1024) (vendor_len c + 1024) (omega arith) (omega arith) e in
      let w = same_start_alike (vendor_len c + 1024) b c (ap (λ (v : ℕ). take (v + 1024) b) (sym len) ∙ e) in
      codes_same b c p q len
      (record {
        at = λ i r. let h = ltb-true i (vendor_len c + 959) (and_right (leb (vendor_len c) i) _ r) in w.at i (lt-ltb i (vendor_len c + 1024) (omega arith));
        len = λ k r. cc;
      })
      Same
      (λ f. give (image_joined (vendor_len b + 1024) (vendor_len c + 1024) (code_len b) (code_len c) b c e f))

  by_signed : take (vendor_len b - 65) b ≡ take (vendor_len c - 65) c → take 959 (drop (vendor_len b) b) ≡ take 959 (drop (vendor_len c) c)
      → OneCode (code_bytes b (image_of b) ≡ code_bytes c (image_of c)) blake2s_of (vendor_len b + 1024) (code_bytes b (image_of b)) (code_bytes c (image_of c))
  by_signed e f =
      let g = p.vendor.size.least in
      let h = q.vendor.size.least in
      let len = same_len b c (vendor_len b - 65) (vendor_len c - 65) (omega arith) (omega arith) e in
      codes_same b c p q len (same_part_alike (vendor_len c) 959 b c (ap (λ (v : ℕ). take 959 (drop v b)) (sym len) ∙ f)) _ (λ x. x)

-- ---- what a check tells

-- of the images that are told
pub record ToldOneCode (b c : List ℕ) (i j : Image) (Same : Type 0) : Type 0 where
  pub headers : (image_bytes b i ≡ image_bytes c j → Same) → header_bytes b i ≡ header_bytes c j → OneCode Same blake2s_of (i.v + 1024) (code_bytes b i) (code_bytes c j)
  pub signed : take (i.v - 65) b ≡ take (j.v - 65) c → take 959 (drop i.v b) ≡ take 959 (drop j.v c)
      → OneCode (code_bytes b i ≡ code_bytes c j) blake2s_of (i.v + 1024) (code_bytes b i) (code_bytes c j)

told_one_code : (b c : List ℕ) (i j : Image) (Same : Type 0) → Sound b → Sound c → image_of b ≡ i → image_of c ≡ j → ToldOneCode b c i j Same
unfolding image_of
told_one_code b c i j Same p q e f =
    subst
    (λ (x : Image). ToldOneCode b c x j Same)
    e
    (subst (λ (y : Image). ToldOneCode b c (image_of b) y Same) f (record { headers = by_headers b c p q Same; signed = by_signed b c p q }))

-- what an acceptance says: the image is sound, it is told, and its bytes are these
pub record Known (bytes : List ℕ → Image → List ℕ) (b : List ℕ) (i : Image) : Type 0 where
  pub holds : Sound b
  pub told : image_of b ≡ i
  pub whole : image_bytes b i ≡ bytes b i

one_code_of : (check : List ℕ → Inputs → Answer) (bytes : List ℕ → Image → List ℕ) → ((b : List ℕ) (given : Inputs) (i : Image) → check b given ≡ Ok i → Known bytes b i)
    → AcceptedOneCode check bytes
one_code_of check bytes known =
    record {
      headers = λ b c given other i j h g.
          let x = known b given i h in
          let y = known c other j g in
          (told_one_code b c i j (bytes b i ≡ bytes c j) x.holds y.holds x.told y.told).headers (λ e. sym x.whole ∙ e ∙ y.whole);
      signed = λ b c given other i j h g.
          let x = known b given i h in
          let y = known c other j g in
          (told_one_code b c i j (b ≡ c) x.holds y.holds x.told y.told).signed;
    }

file_whole : (b : List ℕ) (given : Inputs) (i : Image) → check_file b given ≡ Ok i → image_bytes b i ≡ b
unfolding image_of
file_whole b given i h =
    ap (image_bytes b) (sym (file_told b given i h))
    ∙ take_all (image_len b) b (let l = file_length (vendor_magic_missing b) b given (file_rows_pass b given i h) in omega arith)

pub one_header_one_code : OneHeaderOneCode
one_header_one_code =
    record {
      file = one_code_of check_file _ (λ b given i h. record { holds = sound (file_rows_pass b given i h); told = file_told b given i h; whole = file_whole b given i h });
      slot = one_code_of check_slot image_bytes (λ b given i h. record { holds = sound (slot_rows_pass b given i h); told = slot_told b given i h; whole = refl });
    }
