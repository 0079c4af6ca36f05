-- What a V2 header signs: behind the indexes of a header that passes there are zeros, so that zeros from the signatures on are the same bytes.
-- Assumes nothing.
use Prim.Native.Nat.{ℕ, ◌+◌}
use mathlib.Core.Path.{◌≡◌, refl, sym, ap, ap₂, ◌∙◌}
use mathlib.Core.Bool.{Bool, true}
use mathlib.Core.List.{List, [], ◌∷◌}
use native.Mathlib.Omega.{arith}
use lib.Dec.{eqb}
use lib.ListN.{length, replicate}
use borrow.Author.Tests.{eqb-true}
use Rattle.octets.specs.Read.{between, all_are}
use Rattle.octets.proofs.Laws.{and_left, and_right}
use Rattle.sha256.specs.Fips180.{sha256_of}
use Rattle.header.specs.Table.{Row, first_failing}
use Rattle.header.specs.Outcome.{Outcome}
use Rattle.std.specs.Prelude.{Ok}
use Rattle.image.proofs.Facts.{length_part}
use Rattle.image.proofs.Parts.{part_taken}
use Rattle.signing.specs.Digests.{answered}
use Rattle.signing.proofs.Laws.{replies_digest}
use Rattle.older_model.specs.Check.{v2_shape}
use Rattle.older_model.specs.Digest.{signed_v2, zeroed_v2}
use Rattle.older_model.proofs.Headers.{v2_is}

-- bytes that are all zero
zeros_are : (s : List ℕ) → all_are 0 s ≡ true → s ≡ replicate (length s) 0
zeros_are [] h = refl
zeros_are (x ∷ s) h = ap₂ (λ (y : ℕ) (t : List ℕ). y ∷ t) (eqb-true x 0 (and_left _ _ h)) (zeros_are s (and_right (eqb x 0) _ h))

-- from the signatures on
zeros_signed : (other : Bool) (b : List ℕ) (at : ℕ) → first_failing (v2_shape other b at) ≡ Ok tt → zeroed_v2 b at ≡ signed_v2 b at
unfolding signed_v2
zeros_signed other b at h =
    let d = v2_is other b at h in
    let long = d.long in
    let gap : between (at + 0x2E3) (at + 1024) b ≡ replicate 285 0 =
    zeros_are (between (at + 0x2E3) (at + 1024) b) (rw (part_taken b (at + 0x2E3) 285 (at + 0x2E3) (at + 1024) refl (omega arith)) d.gap)
    ∙ ap (λ (n : ℕ). replicate n 0) (length_part b (at + 0x2E3) (at + 1024) 285 (omega arith) (omega arith)) in
    rw gap refl

-- o is the outcome of the rows of a question, which ask for a V2 header at an offset; d is the digest
pub answers_signed : {o : Outcome} {u : Unit {0}} {d : List ℕ} (rows : List Row) (other : Bool) (b : List ℕ) (at : ℕ) → o ≡ first_failing rows → o ≡ Ok u → d ≡ sha256_of (zeroed_v2 b at)
    → (first_failing rows ≡ Ok tt → first_failing (v2_shape other b at) ≡ Ok tt) → Ok d ≡ answered (first_failing rows) (sha256_of (signed_v2 b at))
answers_signed rows other b at asked passed h shaped =
    rw (← asked) (replies_digest passed (h ∙ ap sha256_of (zeros_signed other b at (shaped (sym asked ∙ passed)))))
