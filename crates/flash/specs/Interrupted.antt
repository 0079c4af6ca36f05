-- What an operation may leave if the power is cut in it (specification, 9), in the flash maker's words, and that the choices of `interrupted` are just
-- that.
-- Assumes nothing.
use Rattle.std.specs.Prelude.{ℕ, ◌+◌, ◌*◌, ◌≤◌, ◌<◌, ◌≡◌, List, [], ◌∷◌, Bool, true, ◌⊎◌, length, take, drop, replicate}
use Rattle.flash.specs.Operation.{performed, interrupted}
use Rattle.flash.specs.declared.Word.{Word}
use Rattle.flash.specs.declared.Operation.TheVariants.{Nothing, ErasePage, StoreWord}

-- word k of page p
abbrev pub word_in : ℕ → ℕ → List ℕ → List ℕ
word_in p k b = take 4 (drop (p * 4096 + k * 4) b)

-- of page p each word is as it was or erased, and all else is as it was
pub record OldOrErased (p : ℕ) (slot left : List ℕ) : Type 0 where
  pub long : length left ≡ length slot
  pub before : take (p * 4096) left ≡ take (p * 4096) slot
  pub words : (k : ℕ) → k < 1024 → (word_in p k left ≡ word_in p k slot) ⊎ (word_in p k left ≡ replicate 4 255)
  pub behind : drop (p * 4096 + 4096) left ≡ drop (p * 4096 + 4096) slot

pub record InterruptedOperations : Type 0 where
  -- whatever the choice, an erase of a page of the slot leaves that; and whatever is like that is left by some choice
  pub leaves : (p : ℕ) (slot : List ℕ) → p * 4096 + 4096 ≤ length slot → (choice : List Bool) → OldOrErased p slot (interrupted choice (ErasePage p) slot)
  pub reaches : (p : ℕ) (slot left : List ℕ) → p * 4096 + 4096 ≤ length slot → OldOrErased p slot left
      → (choice : List Bool) × (interrupted choice (ErasePage p) slot ≡ left)
  -- a store happens or not, and each may be
  pub stores : (at : ℕ) (w : Word) (slot : List ℕ) (choice : List Bool)
      → (interrupted choice (StoreWord at w) slot ≡ slot) ⊎ (interrupted choice (StoreWord at w) slot ≡ performed (StoreWord at w) slot)
  pub stores_not : (at : ℕ) (w : Word) (slot : List ℕ) → interrupted [] (StoreWord at w) slot ≡ slot
  pub stores_all : (at : ℕ) (w : Word) (slot : List ℕ) → interrupted (true ∷ []) (StoreWord at w) slot ≡ performed (StoreWord at w) slot
  -- where there is no operation nothing changes
  pub nothing : (slot : List ℕ) (choice : List Bool) → interrupted choice Nothing slot ≡ slot
