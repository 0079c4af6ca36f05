-- Which loader is handed back: the choice goes by the answers of the two checks, and an accepted area holds header and code whole.
-- Assumes nothing.
use Prim.Native.Nat.{ℕ, ◌+◌, ◌≤◌}
use mathlib.Core.Path.{◌≡◌, refl}
use mathlib.Core.Bool.{Bool}
use mathlib.Core.List.{List}
use native.Mathlib.Omega.{arith}
use lib.ListN.{length}
use Rattle.std.specs.Prelude.{Ok, Err}
use Rattle.octets.specs.Read.{u32_at}
use Rattle.header.specs.declared.Refusal.{Refusal}
use Rattle.image.specs.declared.Image.{Image}
use Rattle.image.specs.Answer.{Answer}
use Rattle.image.proofs.Facts.{length_part}
use Rattle.image.proofs.Parts.{part_taken}
use Rattle.loader.specs.declared.AreaInputs.{AreaInputs}
use Rattle.loader.specs.Check.{policy_rows, area_rows, check_area, check_card, check_internal}
use Rattle.loader.specs.Choice.{chosen, choose, loader_of, part_of}
use Rattle.loader.specs.Theorems.{HandedBack, card_verdict, internal_verdict, AcceptedLoaderRuns}
use Rattle.loader.proofs.Accepted.{loaders_are_accepted}

-- header and code of an area that holds them
handed : (b : List ℕ) (i : Image) → i.codelen ≡ u32_at b 12 → 1024 + i.codelen ≤ length b → HandedBack (loader_of b) b i
unfolding loader_of
handed b i c h =
    record {
      bytes = part_taken b 0 (1024 + i.codelen) 0 (1024 + u32_at b 12) refl (omega arith);
      long = length_part b 0 (1024 + u32_at b 12) (1024 + i.codelen) (omega arith) (omega arith);
    }

card_handed : (b : List ℕ) (given : AreaInputs) (i : Image) → check_card b given ≡ Ok i → HandedBack (loader_of b) b i
card_handed b given i h = let l = loaders_are_accepted.card b given i h in handed b i l.codelen l.held

internal_handed : (b : List ℕ) (given : AreaInputs) (i : Image) → check_internal b given ≡ Ok i → HandedBack (loader_of b) b i
internal_handed b given i h = let l = loaders_are_accepted.internal b given i h in handed b i l.codelen l.held

-- each check reads its own verdict alone
internal_same : (b : List ℕ) (given : AreaInputs) (x : Bool) → check_internal b (card_verdict x given) ≡ check_internal b given
unfolding check_internal check_area area_rows policy_rows
internal_same b given x = refl

card_same : (b : List ℕ) (given : AreaInputs) (x : Bool) → check_card b (internal_verdict x given) ≡ check_card b given
unfolding check_card check_area area_rows policy_rows
card_same b given x = refl

-- a refusal of the card says nothing more
refused_same : (r s : Refusal) (a : Answer) (card other internal : List ℕ)
    → (chosen (Err r) a ≡ chosen (Err s) a) × (part_of (chosen (Err r) a) card internal ≡ part_of (chosen (Err s) a) other internal)
refused_same r s (Ok i) card other internal = (refl, refl)
refused_same r s (Err f) card other internal = (refl, refl)

-- where there is none, the refusal is the internal one
none_internal : (card internal : Answer) (s : Refusal) → chosen card internal ≡ Err s → internal ≡ Err s
none_internal (Ok i) internal s e = cc
none_internal (Err r) (Ok i) s e = cc
none_internal (Err r) (Err f) s e = cc

pub accepted_loader_runs : AcceptedLoaderRuns
unfolding choose
accepted_loader_runs =
    record {
      card = λ card internal given i h. rw h (refl, card_handed card given i h);
      internal = λ card internal given r i h g. rw (h, g) (refl, internal_handed internal given i g);
      neither = λ card internal given r s h g. rw (h, g) (refl, refl);
      number = λ card internal given s h. loaders_are_accepted.internal_number internal given s (none_internal (check_card card given) (check_internal internal given) s h);
      refused_card = λ card other internal given x r s h g. rw (h, g, internal_same internal given x) (refused_same r s (check_internal internal given) card other internal);
      accepted_card = λ card internal other given x i h. rw (card_same card given x, h) (refl, refl);
    }
