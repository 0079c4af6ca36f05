-- The rows of a loader's check: all pass exactly where each group does, and what a group that passes says of the bytes.
-- Assumes nothing.
use Prim.Native.Nat.{ℕ, ◌+◌, ◌%◌, ◌≤◌}
use mathlib.Core.Path.{◌≡◌, refl, sym, ap}
use mathlib.Core.Bool.{Bool, true, false, not}
use mathlib.Core.List.{List}
use lib.ListN.{length, get_or, take, drop}
use lib.Dec.{eqb}
use borrow.Author.Tests.{ltb-false, le-ltb, le-leb, eqb-true, not-false}
use Rattle.std.specs.Prelude.{Ok}
use Rattle.octets.specs.Read.{u32_at, between, all_are}
use Rattle.octets.proofs.Laws.{and_left, and_right}
use Rattle.code_header.specs.Tests.{expired, mask_wrong}
use Rattle.code_header.proofs.Facts.{code_len_inside, inside_code_len}
use Rattle.header.specs.Steps.{keys_impossible, policy_impossible}
use Rattle.header.specs.Table.{first_failing}
use Rattle.header.proofs.Facts.{passing_extent}
use Rattle.header.proofs.Facts as facts
use Rattle.header.proofs.Rows.{passes_here, stage_passes, ends, pass_head, pass_tail, stage_first, stage_then}
use Rattle.loader.specs.declared.AreaInputs.{AreaInputs}
use Rattle.loader.specs.Check.{most_code, magic_missing, shape_rows, policy_rows, extent_rows, hash_rows, area_rows}

-- ---- all rows

pub record RowsPass (x : ℕ) (b : List ℕ) (given : AreaInputs) (verdict : Bool) : Type 0 where
  pub magic : magic_missing b ≡ false
  pub policy : keys_impossible given.m given.n ≡ false
  pub shape : first_failing (shape_rows b) ≡ Ok tt
  pub allowed : first_failing (policy_rows b given verdict) ≡ Ok tt
  pub extent : first_failing (extent_rows x b) ≡ Ok tt
  pub hashes : first_failing (hash_rows b) ≡ Ok tt

pub each_group_passes : (x : ℕ) (b : List ℕ) (given : AreaInputs) (verdict : Bool) → first_failing (area_rows x b given verdict) ≡ Ok tt → RowsPass x b given verdict
unfolding area_rows policy_impossible
each_group_passes x b given verdict h =
    let p = pass_tail _ _ _ h in
    let q = pass_tail _ _ _ p in
    let r = stage_then (shape_rows b) _ q in
    let s = stage_then (policy_rows b given verdict) _ r in
    record {
      magic = pass_head _ _ _ h;
      policy = pass_head _ _ _ p;
      shape = stage_first _ _ q;
      allowed = stage_first _ _ r;
      extent = stage_first _ _ s;
      hashes = stage_then (extent_rows x b) _ s;
    }

pub all_groups_pass : (x : ℕ) (b : List ℕ) (given : AreaInputs) (verdict : Bool) → RowsPass x b given verdict → first_failing (area_rows x b given verdict) ≡ Ok tt
unfolding area_rows policy_impossible
all_groups_pass x b given verdict p =
    sym
    (passes_here _ _ p.magic
    (passes_here _ _ p.policy
    (stage_passes _ _ (sym p.shape) refl
    (stage_passes _ _ (sym p.allowed) refl
    (stage_passes _ _ (sym p.extent) refl (sym p.hashes))))))

-- ---- the length, S14, S16 and S17

pub record Shaped (b : List ℕ) : Type 0 where
  pub long : 1024 ≤ length b
  pub size : u32_at b 4 ≡ 1024
  pub some : 1 ≤ u32_at b 12
  pub whole : u32_at b 12 % 4 ≡ 0
  pub most : u32_at b 12 ≤ 130048
  pub zeros : all_are 0 (take 8 (drop 24 b)) ≡ true
  pub gap : all_are 0 (take 415 (drop 544 b)) ≡ true

pub shaped : (b : List ℕ) → first_failing (shape_rows b) ≡ Ok tt → Shaped b
unfolding shape_rows between
shaped b h =
    let h14 = pass_tail _ _ _ h in
    let h16 = pass_tail _ _ _ h14 in
    let h17 = pass_tail _ _ _ h16 in
    let c = code_len_inside most_code (u32_at b 12) (pass_head _ _ _ h16) in
    let z = not-false _ (pass_head _ _ _ h17) in
    record {
      long = ltb-false (length b) 1024 (pass_head _ _ _ h);
      size = eqb-true (u32_at b 4) 1024 (not-false _ (pass_head _ _ _ h14));
      some = c.some;
      whole = c.whole;
      most = c.most;
      zeros = and_left _ _ z;
      gap = and_right (all_are 0 (take 8 (drop 24 b))) _ z;
    }

pub shape_passes : (b : List ℕ) → Shaped b → first_failing (shape_rows b) ≡ Ok tt
unfolding shape_rows between
shape_passes b s =
    sym
    (passes_here _ _ (le-ltb (length b) 1024 s.long)
    (passes_here _ _ (ap (λ (n : ℕ). not (eqb n 1024)) s.size)
    (passes_here _ _ (inside_code_len most_code (u32_at b 12) s.some s.whole s.most)
    (passes_here _ _ (rw (s.zeros, s.gap)) ends))))

-- ---- S2 and S18 to S20

pub keys_pass : (m n : ℕ) → 1 ≤ m → m ≤ n → n ≤ 8 → keys_impossible m n ≡ false
keys_pass m n h g l = rw (le-leb 1 m h, le-leb m n g, le-leb n 8 l)

pub record Allowed (b : List ℕ) (given : AreaInputs) (verdict : Bool) : Type 0 where
  pub timely : expired (u32_at b 8) given.time ≡ false
  pub signed : mask_wrong given.m given.n (get_or b 959 0) ≡ false
  pub agreed : verdict ≡ true

pub allowed : (b : List ℕ) (given : AreaInputs) (verdict : Bool) → first_failing (policy_rows b given verdict) ≡ Ok tt → Allowed b given verdict
unfolding policy_rows
allowed b given verdict h =
    let h19 = pass_tail _ _ _ h in
    let h20 = pass_tail _ _ _ h19 in
    record { timely = pass_head _ _ _ h; signed = pass_head _ _ _ h19; agreed = not-false _ (pass_head _ _ _ h20) }

pub policy_passes : (b : List ℕ) (given : AreaInputs) (verdict : Bool) → Allowed b given verdict → first_failing (policy_rows b given verdict) ≡ Ok tt
unfolding policy_rows
policy_passes b given verdict a =
    sym (passes_here _ _ a.timely (passes_here _ _ a.signed (passes_here _ _ (ap not a.agreed) ends)))

-- ---- S21 and S22

pub record Extends (x : ℕ) (b : List ℕ) : Type 0 where
  pub held : 1024 + u32_at b 12 ≤ length b
  pub tail : all_are x (drop (1024 + u32_at b 12) b) ≡ true

pub extends : (x : ℕ) (b : List ℕ) → first_failing (extent_rows x b) ≡ Ok tt → Extends x b
unfolding extent_rows
extends x b h = let e = facts.extent_passes _ b 0 h in record { held = e.held; tail = not-false _ e.tail }

pub extent_passes : (x : ℕ) (b : List ℕ) → Extends x b → first_failing (extent_rows x b) ≡ Ok tt
unfolding extent_rows
extent_passes x b e = passing_extent (record { held = e.held; tail = ap not e.tail })
