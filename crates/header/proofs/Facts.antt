-- What a passing test, and a passing group of rows, says of numbers and bytes.
-- Assumes nothing.
use Prim.Native.Nat.{ℕ, ◌+◌, ◌-◌, ◌%◌, ◌≤◌, ◌<◌}
use mathlib.Core.Path.{◌≡◌, sym}
use mathlib.Core.List.{List}
use mathlib.Core.Bool.{Bool, true, false, not, ◌&&◌, ◌||◌}
use native.Mathlib.Omega.{arith}
use lib.ListN.{length}
use lib.Dec.{leb, ltb}
use borrow.Author.Tests.{ltb-false, le-ltb, leb-true, eqb-true, eqb-false, not-false, lt-ltb}
use Rattle.octets.specs.Read.{between, all_are, starts_with}
use Rattle.octets.specs.Rounding.{multiple_of}
use Rattle.octets.proofs.Laws.{and_left, and_right, or_left, or_right}
use Rattle.code_header.proofs.Facts.{CodeLenInside, code_len_inside, mask_signed}
use Rattle.code_header.specs.Layout.{code_end_at}
use Rattle.code_header.specs.Tests.{expired, mask_wrong, code_cut_at}
use Rattle.header.specs.Layout.{TRZF, vendor_len, vendor_expiry, signers_needed, key_count, string_len, string_end, picture_start, vendor_mask, firmware_magic, firmware_len, firmware_expiry, code_len, firmware_mask, first_room}
use Rattle.header.specs.Steps.{keys_impossible, length_impossible, code_len_impossible, policy_impossible, shorter_than_any_header, vendor_len_impossible, vendor_header_cut, vendor_keys_impossible, string_leaves_no_room, vendor_bytes_not_zero, vendor_expired, vendor_mask_wrong, firmware_header_cut, firmware_magic_missing, firmware_len_wrong, first_chunk_has_no_room, code_len_wrong, firmware_bytes_not_zero, firmware_expired, firmware_mask_wrong}
use Rattle.header.specs.Table.{refusal, first_failing, vendor_shape, vendor_policy, firmware_shape, firmware_policy, header_rows, extent_rows_at}
use Rattle.header.specs.Theorems.{BothSigned}
use Rattle.header.specs.declared.Inputs.{Inputs}
use Rattle.std.specs.Prelude.{Ok, Err}
use Rattle.header.proofs.Rows.{passes_here, ends, pass_head, pass_tail, stage_first, stage_then}

-- ---- the tests that several steps share

-- m of n keys
pub record KeysPossible (m n : ℕ) : Type 0 where
  pub test : keys_impossible m n ≡ false
  pub some : 1 ≤ m
  pub held : m ≤ n
  pub most : n ≤ 8

pub keys_possible : (m n : ℕ) → keys_impossible m n ≡ false → KeysPossible m n
keys_possible m n h =
    let t : (leb 1 m && leb m n && leb n 8) ≡ true = not-false _ h in
    let l : (leb 1 m && leb m n) ≡ true = and_left _ (leb n 8) t in
    record {
      test = h;
      some = leb-true 1 m (and_left _ (leb m n) l);
      held = leb-true m n (and_right (leb 1 m) _ l);
      most = leb-true n 8 (and_right (leb 1 m && leb m n) _ t);
    }

-- a vendor header's length
pub record LengthPossible (v : ℕ) : Type 0 where
  pub test : length_impossible v ≡ false
  pub whole : v % 512 ≡ 0
  pub least : 512 ≤ v
  pub most : v ≤ 65536

pub length_possible : (v : ℕ) → length_impossible v ≡ false → LengthPossible v
length_possible v h =
    let l : (not (multiple_of 512 v) || ltb v 512) ≡ false = or_left _ (ltb 65536 v) h in
    record {
      test = h;
      whole = eqb-true (v % 512) 0 (not-false _ (or_left _ (ltb v 512) l));
      least = ltb-false v 512 (or_right (not (multiple_of 512 v)) _ l);
      most = ltb-false 65536 v (or_right (not (multiple_of 512 v) || ltb v 512) _ h);
    }

-- a length of code behind a vendor header of v bytes
abbrev pub CodeLenPossible : ℕ → ℕ → Type 0
CodeLenPossible v c = CodeLenInside (2097152 - 1024 - v) c

pub code_len_possible : (v c : ℕ) → code_len_impossible v c ≡ false → CodeLenPossible v c
code_len_possible v c h = code_len_inside (2097152 - 1024 - v) c h

-- ---- the groups of rows

-- S3 to S8
pub record VendorShaped (b : List ℕ) : Type 0 where
  pub long : 512 ≤ length b
  pub size : LengthPossible (vendor_len b)
  pub held : vendor_len b ≤ length b
  pub keys : KeysPossible (signers_needed b) (key_count b)
  pub room : picture_start (key_count b) (string_len b) + 65 ≤ vendor_len b
  pub zeros : all_are 0 (between 18 32 b) ≡ true
  pub padding : all_are 0 (between (string_end (key_count b) (string_len b)) (picture_start (key_count b) (string_len b)) b) ≡ true

pub vendor_shaped : (b : List ℕ) → first_failing (vendor_shape b) ≡ Ok tt → VendorShaped b
unfolding vendor_shape shorter_than_any_header vendor_len_impossible vendor_header_cut vendor_keys_impossible string_leaves_no_room vendor_bytes_not_zero
vendor_shaped b h3 =
    let h4 = pass_tail _ _ _ h3 in
    let h5 = pass_tail _ _ _ h4 in
    let h6 = pass_tail _ _ _ h5 in
    let h7 = pass_tail _ _ _ h6 in
    let h8 = pass_tail _ _ _ h7 in
    let z = not-false _ (pass_head _ _ _ h8) in
    record {
      long = ltb-false (length b) 512 (pass_head _ _ _ h3);
      size = length_possible (vendor_len b) (pass_head _ _ _ h4);
      held = ltb-false (length b) (vendor_len b) (pass_head _ _ _ h5);
      keys = keys_possible (signers_needed b) (key_count b) (pass_head _ _ _ h6);
      room = ltb-false (vendor_len b) (picture_start (key_count b) (string_len b) + 65) (pass_head _ _ _ h7);
      zeros = and_left _ _ z;
      padding = and_right (all_are 0 (between 18 32 b)) _ z;
    }

-- fewer than 512 bytes
pub short_refused : (b : List ℕ) → length b < 512 → first_failing (vendor_shape b) ≡ Err (refusal 2 1)
unfolding vendor_shape shorter_than_any_header first_failing
short_refused b h = rw (lt-ltb (length b) 512 h)

-- S9 to S11
pub record VendorAllowed (b : List ℕ) (given : Inputs) : Type 0 where
  pub timely : expired (vendor_expiry b) given.time ≡ false
  pub signed : mask_wrong given.m given.n (vendor_mask b) ≡ false
  pub verdict : given.vendor ≡ true

pub vendor_allowed : (b : List ℕ) (given : Inputs) → first_failing (vendor_policy b given) ≡ Ok tt → VendorAllowed b given
unfolding vendor_policy vendor_expired vendor_mask_wrong
vendor_allowed b given h9 =
    let h10 = pass_tail _ _ _ h9 in
    let h11 = pass_tail _ _ _ h10 in
    record { timely = pass_head _ _ _ h9; signed = pass_head _ _ _ h10; verdict = not-false _ (pass_head _ _ _ h11) }

-- S12 to S17
pub record FirmwareShaped (b : List ℕ) : Type 0 where
  pub held : vendor_len b + 1024 ≤ length b
  pub magic : starts_with TRZF (firmware_magic b) ≡ true
  pub size : firmware_len b ≡ 1024
  pub room : 1 ≤ first_room (vendor_len b)
  pub code : CodeLenPossible (vendor_len b) (code_len b)
  pub zeros : all_are 0 (between (vendor_len b + 24) (vendor_len b + 32) b) ≡ true
  pub gap : all_are 0 (between (vendor_len b + 544) (vendor_len b + 959) b) ≡ true

pub firmware_shaped : (b : List ℕ) → first_failing (firmware_shape b) ≡ Ok tt → FirmwareShaped b
unfolding firmware_shape firmware_header_cut firmware_magic_missing firmware_len_wrong first_chunk_has_no_room code_len_wrong firmware_bytes_not_zero
firmware_shaped b h12 =
    let h13 = pass_tail _ _ _ h12 in
    let h14 = pass_tail _ _ _ h13 in
    let h15 = pass_tail _ _ _ h14 in
    let h16 = pass_tail _ _ _ h15 in
    let h17 = pass_tail _ _ _ h16 in
    let none = eqb-false (first_room (vendor_len b)) 0 (pass_head _ _ _ h15) in
    let room : 1 ≤ first_room (vendor_len b) = omega arith in
    let z = not-false _ (pass_head _ _ _ h17) in
    record {
      held = ltb-false (length b) (vendor_len b + 1024) (pass_head _ _ _ h12);
      magic = not-false _ (pass_head _ _ _ h13);
      size = eqb-true (firmware_len b) 1024 (not-false _ (pass_head _ _ _ h14));
      room = room;
      code = code_len_possible (vendor_len b) (code_len b) (pass_head _ _ _ h16);
      zeros = and_left _ _ z;
      gap = and_right (all_are 0 (between (vendor_len b + 24) (vendor_len b + 32) b)) _ z;
    }

-- S18 to S20
pub record FirmwareAllowed (b : List ℕ) (given : Inputs) : Type 0 where
  pub timely : expired (firmware_expiry b) given.time ≡ false
  pub signed : mask_wrong (signers_needed b) (key_count b) (firmware_mask b) ≡ false
  pub verdict : given.firmware ≡ true

pub firmware_allowed : (b : List ℕ) (given : Inputs) → first_failing (firmware_policy b given) ≡ Ok tt → FirmwareAllowed b given
unfolding firmware_policy firmware_expired firmware_mask_wrong
firmware_allowed b given h18 =
    let h19 = pass_tail _ _ _ h18 in
    let h20 = pass_tail _ _ _ h19 in
    record { timely = pass_head _ _ _ h18; signed = pass_head _ _ _ h19; verdict = not-false _ (pass_head _ _ _ h20) }

-- S1 to S20: each group passes
pub record HeadersPass (magic_missing : Bool) (b : List ℕ) (given : Inputs) : Type 0 where
  pub magic : magic_missing ≡ false
  pub policy : keys_impossible given.m given.n ≡ false
  pub vendor : first_failing (vendor_shape b) ≡ Ok tt
  pub allowed : first_failing (vendor_policy b given) ≡ Ok tt
  pub firmware : first_failing (firmware_shape b) ≡ Ok tt
  pub signed : first_failing (firmware_policy b given) ≡ Ok tt

pub headers_pass : (magic_missing : Bool) (b : List ℕ) (given : Inputs) → first_failing (header_rows magic_missing b given) ≡ Ok tt → HeadersPass magic_missing b given
unfolding header_rows policy_impossible
headers_pass magic_missing b given h1 =
    let h2 = pass_tail _ _ _ h1 in
    let h3 = pass_tail _ _ _ h2 in
    let h9 = stage_then (vendor_shape b) _ h3 in
    let h12 = stage_then (vendor_policy b given) _ h9 in
    record {
      magic = pass_head _ _ _ h1;
      policy = pass_head _ _ _ h2;
      vendor = stage_first _ _ h3;
      allowed = stage_first _ _ h9;
      firmware = stage_first _ _ h12;
      signed = stage_then (firmware_shape b) _ h12;
    }

-- so both headers are signed
pub both_signed : (magic_missing : Bool) (b : List ℕ) (given : Inputs) → first_failing (header_rows magic_missing b given) ≡ Ok tt → BothSigned b given
both_signed magic_missing b given h =
    let p = headers_pass magic_missing b given h in
    let k = keys_possible given.m given.n p.policy in
    let v = vendor_allowed b given p.allowed in
    let l = (vendor_shaped b p.vendor).keys in
    let f = firmware_allowed b given p.signed in
    record {
      vendor_least = k.some;
      vendor_keys = k.most;
      vendor_signers = mask_signed given.m given.n (vendor_mask b) v.signed;
      vendor_verdict = v.verdict;
      firmware_least = l.some;
      firmware_keys = l.most;
      firmware_signers = mask_signed (signers_needed b) (key_count b) (firmware_mask b) f.signed;
      firmware_verdict = f.verdict;
    }

-- S21 and S22, of the code behind a header that starts at an offset
pub record ExtentPasses (tail_wrong : Bool) (b : List ℕ) (at : ℕ) : Type 0 where
  pub held : code_end_at b at ≤ length b
  pub tail : tail_wrong ≡ false

pub extent_passes : (tail_wrong : Bool) (b : List ℕ) (at : ℕ) → first_failing (extent_rows_at tail_wrong b at) ≡ Ok tt → ExtentPasses tail_wrong b at
unfolding extent_rows_at
extent_passes tail_wrong b at h21 =
    record {
      held = ltb-false (length b) (code_end_at b at) (pass_head _ _ _ h21);
      tail = pass_head _ _ _ (pass_tail (code_cut_at b at) _ _ h21);
    }

pub passing_extent : {tail_wrong : Bool} {b : List ℕ} {at : ℕ} → ExtentPasses tail_wrong b at → first_failing (extent_rows_at tail_wrong b at) ≡ Ok tt
unfolding extent_rows_at
passing_extent {b = b} {at} e = sym (passes_here _ _ (le-ltb (length b) (code_end_at b at) e.held) (passes_here _ _ e.tail ends))
