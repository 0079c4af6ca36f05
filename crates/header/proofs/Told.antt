-- What an answer tells follows from the answer: a call that promises the one promises the other.
-- Assumes nothing.
use Prim.Native.Nat.{ℕ}
use mathlib.Core.Path.{◌≡◌, ap}
use mathlib.Core.List.{List}

pub told_too : {A : Type 0} {x y : A} (tell : A → List ℕ) → x ≡ y → (x ≡ y) × (tell x ≡ tell y)
told_too tell e = (e, ap tell e)

-- beside what the call leaves
pub told_beside : {A P : Type 0} {x y : A} (tell : A → List ℕ) → (x ≡ y) × P → ((x ≡ y) × P) × (tell x ≡ tell y)
told_beside tell h = (h, ap tell h.0)
