-- Each call makes at most one operation of the flash (specification, 10.1), for any record, slot and arguments.
-- Assumes nothing.
use Rattle.std.specs.Prelude.{ℕ, ◌+◌, ◌%◌, ◌≤◌, ◌<◌, ◌≡◌, List, true, ◌⊎◌, length, drop, replicate}
use Rattle.octets.specs.Read.{starts_with}
use Rattle.flash.specs.Flash.{starts_erased}
use Rattle.flash.specs.Operation.{bytes_of, count, performed}
use Rattle.flash.specs.declared.Word.{Word}
use Rattle.flash.specs.declared.Operation.TheVariants.{Nothing, ErasePage, StoreWord}
use Rattle.header.specs.declared.Refusal.{Refusal}
use Rattle.header.specs.declared.Inputs.{Inputs}
use Rattle.sessions.specs.Record.{pages_of, with_phase}
use Rattle.sessions.specs.Calls.{erase_plan, fill_plan, close_plan, confirm_of, turn_of, erase_of, erase_slot, fill_of, fill_slot, close_of, close_slot}
use Rattle.sessions.specs.declared.Session.{Session}
use Rattle.sessions.specs.declared.Plan.{Plan}
use Rattle.sessions.specs.declared.Reply.TheVariants.{Done, Refused, Rejected}

-- a call that may make an operation, with its arguments. Begin, Ask and Confirm write no slot
pub data Writing : Type 0 where
  erase_next : Writing
  fill_with : List ℕ → Writing
  close_with : Inputs → Writing

abbrev pub plan_of : Writing → Session → List ℕ → Plan
plan_of erase_next s slot = erase_plan s slot
plan_of (fill_with piece) s slot = fill_plan s piece slot
plan_of (close_with given) s slot = close_plan s given slot

-- the one store that needs no erased word: zero in word 0, by an Erase, where no operation was made since begin, and no page erased
pub record FirstErase (c : Writing) (s : Session) (at : ℕ) (w : Word) : Type 0 where
  pub call : c ≡ erase_next
  pub none : s.operations ≡ 0
  pub no_page : s.pages ≡ 0
  pub place : at ≡ 0
  pub zero : bytes_of w ≡ replicate 4 0

-- what a call on this record and slot plans
pub record OneOperation (c : Writing) (s : Session) (slot : List ℕ) (p : Plan) : Type 0 where
  -- after a refusal of the installer's own the record is unchanged, and nothing is done
  pub refused : (number : ℕ) → p.reply ≡ Refused number → (p.session ≡ s) × (p.operation ≡ Nothing)
  -- nor is anything done after a refusal of the check
  pub rejected : (r : Refusal) → p.reply ≡ Rejected r → p.operation ≡ Nothing
  -- an erase is of a page of the slot, and never the first operation
  pub erased : (page : ℕ) → p.operation ≡ ErasePage page → (page < pages_of (length slot)) × (0 < s.operations)
  -- a store is aligned, inside the slot, and over an erased word, or it is the zero of the first Erase
  pub stored : (at : ℕ) (w : Word) → p.operation ≡ StoreWord at w
      → (at % 4 ≡ 0) × (at + 4 ≤ length slot) × ((starts_erased (drop at slot) ≡ true) ⊎ FirstErase c s at w)
  -- the count rises by one exactly where there is an operation
  pub counted : p.session.operations ≡ s.operations + count p.operation

pub record AtMostOneOperation : Type 0 where
  pub one : (c : Writing) (s : Session) (slot : List ℕ) → OneOperation c s slot (plan_of c s slot)
  -- no call that hands its operation back answers Done; Confirm does, and only where word 0 stands in the slot
  pub not_done : (c : Writing) (s : Session) (slot : List ℕ) → (plan_of c s slot).reply ≡ Done → ⊥
  pub confirmed : (s : Session) (slot : List ℕ) → (confirm_of s slot).reply ≡ Done → starts_with s.first slot ≡ true
  -- an empty piece, or any piece after the last byte, changes nothing
  pub nothing : (s : Session) (piece slot : List ℕ) → (length piece ≡ 0) ⊎ (s.taken ≡ s.file)
      → ((fill_plan s piece slot).session ≡ s) × ((fill_plan s piece slot).operation ≡ Nothing)
  -- a close alters nothing in the record but the phase and the count
  pub kept : (s : Session) (given : Inputs) (slot : List ℕ)
      → (close_plan s given slot).session ≡ with_phase s (close_plan s given slot).session.phase (close_plan s given slot).session.operations
  -- the calls that make the operation themselves give the record and the answer of that plan settled, and leave the slot with just the operation
  -- that the plan hands back made
  pub erase_made : (s : Session) (slot : List ℕ) → (erase_of s slot ≡ turn_of (erase_plan s slot)) × (erase_slot s slot ≡ performed (erase_plan s slot).operation slot)
  pub fill_made : (s : Session) (piece slot : List ℕ) → (fill_of s piece slot ≡ turn_of (fill_plan s piece slot)) × (fill_slot s piece slot ≡ performed (fill_plan s piece slot).operation slot)
  pub close_made : (s : Session) (given : Inputs) (slot : List ℕ)
      → (close_of s given slot ≡ turn_of (close_plan s given slot)) × (close_slot s given slot ≡ performed (close_plan s given slot).operation slot)
