-- Lists of bytes that agree where R holds, and whose lengths agree where N holds: a field, a part, a step, a group of rows is the same of both where R and N hold what it reads.
-- Assumes nothing.
use Prim.Native.Nat.{ℕ, zero, suc, ◌+◌, ◌-◌, ◌≤◌, ◌<◌, min}
use mathlib.Core.Path.{◌≡◌, refl, sym, ap, ap₂, ◌∙◌}
use mathlib.Core.Logic.{⊎_elim}
use mathlib.Core.List.{List, [], ◌∷◌, ◌++◌}
use mathlib.Core.Bool.{Bool, true, false, not, ◌&&◌}
use native.Mathlib.Omega.{arith}
use lib.ListN.{length, get_or, take, drop, length-take, length-drop}
use lib.Seq.{ext_get_or, get_or-take, get_or-drop}
use lib.Dec.{leb, ltb, eqb}
use borrow.Author.Tests.{leb-true, lt-ltb, le-ltb, ltb-true, ltb-false}
use Rattle.octets.specs.Read.{u32_at, between, bytes_at, all_are, starts_with}
use Rattle.octets.proofs.Laws.{split, and_left, and_right}
use Rattle.code_header.specs.Tests.{expired, mask_wrong, code_cut_at}
use Rattle.header.specs.Layout.{TRZV, TRZF, vendor_len, signers_needed, key_count, string_len, string_len_at, string_end, picture_start, mask_at, code_len, image_len, first_room}
use Rattle.header.specs.Steps.{vendor_magic_missing, keys_impossible, length_impossible, code_len_impossible, shorter_than_any_header, vendor_len_impossible, vendor_header_cut, vendor_keys_impossible, string_leaves_no_room, vendor_bytes_not_zero, vendor_expired, vendor_mask_wrong, firmware_header_cut, firmware_magic_missing, firmware_len_wrong, first_chunk_has_no_room, code_len_wrong, firmware_bytes_not_zero, firmware_expired, firmware_mask_wrong}
use Rattle.header.specs.Table.{first_failing, vendor_shape, vendor_policy, firmware_shape, firmware_policy, header_rows}
use Rattle.header.specs.Alike.{Alike, ReadByHeaders}
use Rattle.header.specs.declared.Inputs.{Inputs}
use Rattle.header.proofs.Rows.{same_row, same_stage}
use Rattle.header.proofs.Facts.{keys_possible, length_possible, vendor_shaped}

cut : (a e x : ℕ) → min (e - a) (x - a) ≡ min e x - a
cut a e x = omega arith

-- a magic is looked for in as many bytes as it has
start_taken : (m s : List ℕ) → starts_with m s ≡ starts_with m (take (length m) s)
start_taken [] s = refl
start_taken (x ∷ m) [] = refl
start_taken (x ∷ m) (y ∷ s) = ap (λ (t : Bool). eqb y x && t) (start_taken m s)

-- byte i of n bytes at an offset
byte_part : (a n : ℕ) (s : List ℕ) (i : ℕ) → i < n → get_or (take n (drop a s)) i 0 ≡ get_or s (a + i) 0
byte_part a n s i h = get_or-take n (drop a s) i 0 h ∙ get_or-drop a s i 0

-- lists with the same first n bytes agree on these
abbrev pub no_end : ℕ → Bool
no_end n = false

pub same_start_alike : (n : ℕ) (b c : List ℕ) → take n b ≡ take n c → Alike (λ i. ltb i n) no_end b c
same_start_alike n b c e =
    record {
      at = λ i r. let h = ltb-true i n r in sym (get_or-take n b i 0 h) ∙ ap (λ (l : List ℕ). get_or l i 0) e ∙ get_or-take n c i 0 h;
      len = λ k r. cc;
    }

-- and lists with the same n bytes at an offset on those
pub same_part_alike : (a n : ℕ) (b c : List ℕ) → take n (drop a b) ≡ take n (drop a c) → Alike (λ i. leb a i && ltb i (a + n)) no_end b c
same_part_alike a n b c e =
    record {
      at = λ i r.
          let g = leb-true a i (and_left _ _ r) in
          let h = ltb-true i (a + n) (and_right (leb a i) _ r) in
          let f : a + (i - a) ≡ i = omega arith in
          ap (λ (k : ℕ). get_or b k 0) (sym f) ∙ sym (byte_part a n b (i - a) (omega arith)) ∙ ap (λ (l : List ℕ). get_or l (i - a) 0) e ∙ byte_part a n c (i - a) (omega arith)
          ∙ ap (λ (k : ℕ). get_or c k 0) f;
      len = λ k r. cc;
    }

-- ---- numbers, lengths and parts

module _ {R N : ℕ → Bool} {b c : List ℕ} (w : Alike R N b c) where
  pub u32_alike : (at : ℕ) → ((i : ℕ) → at ≤ i → i < at + 4 → R i ≡ true) → u32_at b at ≡ u32_at c at
  unfolding u32_at
  u32_alike at h =
      rw (
        w.at at (h at (omega arith) (omega arith)),
        w.at (at + 1) (h (at + 1) (omega arith) (omega arith)),
        w.at (at + 2) (h (at + 2) (omega arith) (omega arith)),
        w.at (at + 3) (h (at + 3) (omega arith) (omega arith)),
      )

  -- fewer than n bytes
  pub shorter_alike : (n : ℕ) → N n ≡ true → ltb (length b) n ≡ ltb (length c) n
  shorter_alike n h =
      let e = w.len n h in
      ⊎_elim
      (λ (g : length b < n). let k : length c < n = omega arith in lt-ltb (length b) n g ∙ sym (lt-ltb (length c) n k))
      (λ (g : n ≤ length b). let k : n ≤ length c = omega arith in le-ltb (length b) n g ∙ sym (le-ltb (length c) n k))
      (split (length b) n)

  pub between_alike : (a e : ℕ) → N e ≡ true → ((i : ℕ) → a ≤ i → i < e → R i ≡ true) → between a e b ≡ between a e c
  unfolding between
  between_alike a e n h =
      ext_get_or
      0
      (take (e - a) (drop a b))
      (take (e - a) (drop a c))
      (simp (length-take, length-drop) (cut a e (length b) ∙ ap (λ (k : ℕ). k - a) (w.len e n) ∙ sym (cut a e (length c))))
      point
    where
      point : (i : ℕ) → i < length (take (e - a) (drop a b)) → get_or (take (e - a) (drop a b)) i 0 ≡ get_or (take (e - a) (drop a c)) i 0
      point i g =
          let k : i < min (e - a) (length b - a) = simp (length-take, length-drop) at g in
          let l : i < e - a = omega arith in
          rw (get_or-take (e - a) (drop a b) i 0 l, get_or-take (e - a) (drop a c) i 0 l, get_or-drop a b i 0, get_or-drop a c i 0)
          (w.at (a + i) (h (a + i) (omega arith) (omega arith)))

  -- all bytes from an offset on
  pub rest_alike : (a : ℕ) → length b ≡ length c → ((i : ℕ) → a ≤ i → R i ≡ true) → drop a b ≡ drop a c
  rest_alike a e h =
      ext_get_or 0 (drop a b) (drop a c) (simp (length-drop) (ap (λ (n : ℕ). n - a) e)) (λ i g. rw (get_or-drop a b i 0, get_or-drop a c i 0) (w.at (a + i) (h (a + i) (omega arith))))

  -- S1
  pub magic_alike : N 4 ≡ true → ((i : ℕ) → i < 4 → R i ≡ true) → vendor_magic_missing b ≡ vendor_magic_missing c
  unfolding vendor_magic_missing between
  magic_alike n h =
      ap not (start_taken TRZV b ∙ ap (starts_with TRZV) (between_alike 0 4 n (λ i g k. h i k)) ∙ sym (start_taken TRZV c))

  -- n bytes at an offset, with zeros past the end
  pub bytes_alike : (n at : ℕ) → ((i : ℕ) → at ≤ i → i < at + n → R i ≡ true) → bytes_at n b at ≡ bytes_at n c at
  unfolding bytes_at
  bytes_alike zero at h = refl
  bytes_alike (suc n) at h =
      ap₂
      (λ (x : List ℕ) (y : ℕ). x ++ (y ∷ []))
      (bytes_alike n at (λ i g k. h i g (omega arith)))
      (w.at (at + n) (h (at + n) (omega arith) (omega arith)))

-- ---- fields and groups of rows

module _ {R N : ℕ → Bool} {b c : List ℕ} (w : Alike R N b c) (read : ReadByHeaders R N c) where
  pub vendor_len_alike : vendor_len b ≡ vendor_len c
  vendor_len_alike = u32_alike w 4 read.hdrlen

  -- where v can be a header's length
  module _ (least : 512 ≤ vendor_len c) where
    pub signers_needed_alike : signers_needed b ≡ signers_needed c
    signers_needed_alike = w.at 14 (read.counts least 14 (omega arith) (omega arith))

    pub key_count_alike : key_count b ≡ key_count c
    key_count_alike = w.at 15 (read.counts least 15 (omega arith) (omega arith))

    -- where the keys are at most 8
    pub string_len_alike : key_count c ≤ 8 → string_len b ≡ string_len c
    string_len_alike most =
        ap (λ (n : ℕ). get_or b (string_len_at n) 0) key_count_alike
        ∙ w.at (string_len_at (key_count c)) (read.string least most)

  -- S3 to S8
  pub vendor_shape_alike : first_failing (vendor_shape b) ≡ first_failing (vendor_shape c)
  unfolding vendor_shape shorter_than_any_header vendor_len_impossible vendor_header_cut vendor_keys_impossible string_leaves_no_room vendor_bytes_not_zero
  vendor_shape_alike =
      let ev = vendor_len_alike in
      same_row _ _ _ (shorter_alike w 512 (read.ends 512 (omega arith))) (λ h3.
      same_row _ _ _ (ap length_impossible ev) (λ h4.
      let least = (length_possible (vendor_len c) h4).least in
      let en = key_count_alike least in
      same_row _ _ _ (ap (ltb (length b)) ev ∙ shorter_alike w (vendor_len c) (read.ends (vendor_len c) (omega arith))) (λ h5.
      same_row _ _ _ (ap₂ keys_impossible (signers_needed_alike least) en) (λ h6.
      let most = (keys_possible (signers_needed c) (key_count c) h6).most in
      let es = string_len_alike least most in
      same_row _ _ _ (ap₂ (λ (v p : ℕ). ltb v (p + 65)) ev (ap₂ picture_start en es)) (λ h7.
      let p : picture_start (key_count c) (string_len c) + 65 ≤ vendor_len c = ltb-false _ _ h7 in
      same_row _ _ _
      (ap₂
      (λ (x y : List ℕ). not (all_are 0 x && all_are 0 y))
      (between_alike w 18 32 (read.ends 32 (omega arith)) (read.zeros least))
      (ap₂ (λ (n s : ℕ). between (string_end n s) (picture_start n s) b) en es
      ∙ between_alike w (string_end (key_count c) (string_len c)) (picture_start (key_count c) (string_len c)) (read.ends _ (omega arith)) (λ i g h. read.padding least most (omega arith) i (omega arith) (omega arith))))
      (λ h8. refl))))))

  -- ---- where v can be a header's length
  module _ (least : 512 ≤ vendor_len c) where
    -- the numbers at the start of the firmware header, and its parts
    pub firmware_u32_alike : (k : ℕ) → k + 4 ≤ 16 → u32_at b (vendor_len b + k) ≡ u32_at c (vendor_len c + k)
    firmware_u32_alike k l =
        ap (λ (v : ℕ). u32_at b (v + k)) vendor_len_alike
        ∙ u32_alike w (vendor_len c + k) (λ i g h. read.start least i (omega arith) (omega arith))

    firmware_part_alike : (a e : ℕ) → e ≤ 1024 → ((i : ℕ) → vendor_len c + a ≤ i → i < vendor_len c + e → R i ≡ true)
        → between (vendor_len b + a) (vendor_len b + e) b ≡ between (vendor_len c + a) (vendor_len c + e) c
    firmware_part_alike a e l h =
        ap (λ (v : ℕ). between (v + a) (v + e) b) vendor_len_alike
        ∙ between_alike w (vendor_len c + a) (vendor_len c + e) (read.ends _ (omega arith)) h

    pub code_len_alike : code_len b ≡ code_len c
    code_len_alike = firmware_u32_alike 12 (omega arith)

    pub image_len_alike : image_len b ≡ image_len c
    image_len_alike = ap₂ (λ (v l : ℕ). v + 1024 + l) vendor_len_alike code_len_alike

    -- S9 to S11
    pub vendor_policy_alike : (given : Inputs) → first_failing (vendor_policy b given) ≡ first_failing (vendor_policy c given)
    unfolding vendor_policy vendor_expired vendor_mask_wrong
    vendor_policy_alike given =
        same_row _ _ _ (ap (λ (e : ℕ). expired e given.time) (u32_alike w 8 (read.expiry least))) (λ h9.
        same_row _ _ _
        (ap
        (mask_wrong given.m given.n)
        (ap (λ (v : ℕ). get_or b (mask_at v) 0) vendor_len_alike
        ∙ w.at (mask_at (vendor_len c)) (read.mask least)))
        (λ h10. refl))

    -- S12 to S17
    pub firmware_shape_alike : first_failing (firmware_shape b) ≡ first_failing (firmware_shape c)
    unfolding firmware_shape firmware_header_cut firmware_magic_missing firmware_len_wrong first_chunk_has_no_room code_len_wrong firmware_bytes_not_zero
    firmware_shape_alike =
        let ev = vendor_len_alike in
        same_row _ _ _ (ap (λ (v : ℕ). ltb (length b) (v + 1024)) ev ∙ shorter_alike w (vendor_len c + 1024) (read.ends (vendor_len c + 1024) (omega arith))) (λ h12.
        same_row _ _ _
        (ap
        (λ (x : List ℕ). not (starts_with TRZF x))
        (ap (λ (v : ℕ). between v (v + 4) b) ev
        ∙ between_alike w (vendor_len c) (vendor_len c + 4) (read.ends _ (omega arith)) (λ i g h. read.start least i g (omega arith))))
        (λ h13.
        same_row _ _ _ (ap (λ (x : ℕ). not (eqb x 1024)) (firmware_u32_alike 4 (omega arith))) (λ h14.
        same_row _ _ _ (ap (λ (v : ℕ). eqb (first_room v) 0) ev) (λ h15.
        same_row _ _ _ (ap₂ code_len_impossible ev code_len_alike) (λ h16.
        same_row _ _ _
        (ap₂ (λ (x y : List ℕ). not (all_are 0 x && all_are 0 y)) (firmware_part_alike 24 32 (omega arith) (read.gap least)) (firmware_part_alike 544 959 (omega arith) (λ i g h. read.end least i g (omega arith))))
        (λ h17. refl))))))

    -- S18 to S20
    pub firmware_policy_alike : (given : Inputs) → first_failing (firmware_policy b given) ≡ first_failing (firmware_policy c given)
    unfolding firmware_policy firmware_expired firmware_mask_wrong
    firmware_policy_alike given =
        same_row _ _ _ (ap (λ (e : ℕ). expired e given.time) (firmware_u32_alike 8 (omega arith))) (λ h18.
        same_row _ _ _
        (ap₂ (λ (f : ℕ → Bool) (x : ℕ). f x) (ap₂ mask_wrong (signers_needed_alike least) (key_count_alike least)) (ap (λ (v : ℕ). get_or b (v + 959) 0) vendor_len_alike ∙ w.at (vendor_len c + 959) (read.end least (vendor_len c + 959) (omega arith) (omega arith))))
        (λ h19. refl))

    -- S21
    pub code_cut_alike : N (image_len c) ≡ true → code_cut_at b (vendor_len b) ≡ code_cut_at c (vendor_len c)
    code_cut_alike n = ap (ltb (length b)) image_len_alike ∙ shorter_alike w (image_len c) n

  -- S1 to S20
  pub headers_alike : (magic_missing : Bool) (given : Inputs) → first_failing (header_rows magic_missing b given) ≡ first_failing (header_rows magic_missing c given)
  unfolding header_rows
  headers_alike magic_missing given =
      same_row _ _ _ refl (λ h1.
      same_row _ _ _ refl (λ h2.
      same_stage _ _ _ _ vendor_shape_alike (λ p.
      let least = (vendor_shaped c p).size.least in
      same_stage _ _ _ _ (vendor_policy_alike least given) (λ q.
      same_stage _ _ _ _ (firmware_shape_alike least) (λ r. firmware_policy_alike least given)))))
