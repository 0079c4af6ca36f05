-- Every row refuses with a number, so that the first failing one does.
-- Assumes nothing.
use Prim.Native.Nat.{ℕ, ◌≤◌}
use mathlib.Core.Path.{◌≡◌}
use mathlib.Core.Bool.{Bool}
use mathlib.Core.List.{List}
use native.Mathlib.Omega.{arith}
use Rattle.std.specs.Prelude.{Err}
use Rattle.header.specs.Table.{first_failing}
use Rattle.header.specs.declared.Refusal.{Refusal}
use Rattle.header.proofs.Rows.{Numbered, numbered_append, first_numbered, extent_numbered}
use Rattle.image.proofs.Hashes.{chunks_numbered}
use Rattle.image.proofs.Facts.{rejected_is}
use Rattle.loader.specs.declared.AreaInputs.{AreaInputs}
use Rattle.loader.specs.Check.{shape_rows, policy_rows, extent_rows, hash_rows, area_rows, check_area}

shape_numbered : (b : List ℕ) → Numbered (shape_rows b)
unfolding shape_rows
shape_numbered b = (omega arith, (omega arith, (omega arith, (omega arith, omega arith))))

policy_numbered : (b : List ℕ) (given : AreaInputs) (verdict : Bool) → Numbered (policy_rows b given verdict)
unfolding policy_rows
policy_numbered b given verdict = (omega arith, (omega arith, (omega arith, omega arith)))

hashes_numbered : (b : List ℕ) → Numbered (hash_rows b)
unfolding hash_rows
hashes_numbered b = chunks_numbered _ _ _ _ _ _

rows_numbered : (x : ℕ) (b : List ℕ) (given : AreaInputs) (verdict : Bool) → Numbered (area_rows x b given verdict)
unfolding area_rows extent_rows
rows_numbered x b given verdict =
    let code = numbered_append (extent_rows x b) (hash_rows b) (extent_numbered _ b 0) (hashes_numbered b) in
    let policy = numbered_append (policy_rows b given verdict) _ (policy_numbered b given verdict) code in
    (omega arith, (omega arith, numbered_append (shape_rows b) _ (shape_numbered b) policy))

pub area_numbered : (x : ℕ) (b : List ℕ) (given : AreaInputs) (verdict : Bool) (r : Refusal) → check_area x b given verdict ≡ Err r → 1 ≤ r.number
unfolding check_area
area_numbered x b given verdict r e = first_numbered (area_rows x b given verdict) r (rows_numbered x b given verdict) (rejected_is (first_failing (area_rows x b given verdict)) _ r e)
