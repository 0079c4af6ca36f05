-- The words carry the record: what a call leaves in the caller's words is the record that the call gave. So a caller who keeps the words
-- between calls gives each call the record that the last one left, and what is shown of a list of calls (specification, 11) holds of the
-- calls in C. The words are those of the specification, 10.2. And the words of an operation tell it: which page, or which word and where.
-- Assumes nothing.
use Rattle.std.specs.Prelude.{ℕ, ◌*◌, ◌<◌, ◌≡◌, List, [], ◌∷◌, get_or, length}
use Rattle.octets.specs.Read.{u32_at}
use Rattle.octets.specs.Put.{le32}
use Rattle.flash.specs.Operation.{bytes_of}
use Rattle.flash.specs.declared.Word.{Word}
use Rattle.flash.specs.declared.Operation.TheVariants.{Nothing, ErasePage, StoreWord}
use Rattle.header.specs.declared.Inputs.{Inputs}
use Rattle.sessions.specs.Calls.{begin_of, erase_plan, erase_of, fill_plan, fill_of, close_plan, close_of, confirm_of}
use Rattle.sessions.specs.Operations.{Writing, plan_of}
use Rattle.sessions.specs.declared.Session.{Session}
use Rattle.sessions.specs.declared.Turn.{Turn}
use Rattle.sessions.specs.declared.Plan.{Plan}
use Rattle.abi_session.specs.Record.{session_of, words_of, words_after_turn, words_after_plan}
use Rattle.abi_session.specs.Answers.{operation_words}

-- the words that a call leaves hold the record that it gave
abbrev pub CarriesTurn : List ℕ → Turn → Type 0
CarriesTurn w t = session_of (words_after_turn t w) ≡ t.session

abbrev pub CarriesPlan : List ℕ → Plan → Type 0
CarriesPlan w p = session_of (words_after_plan p w) ≡ p.session

-- for any words at entry, the words at exit hold the record that the call gave. Ask changes no word
pub record WordsCarryTheRecord : Type 0 where
  -- each number in its own word
  pub phase : (w : List ℕ) → (session_of w).phase ≡ get_or w 0 0
  pub slot : (w : List ℕ) → (session_of w).slot ≡ get_or w 1 0
  pub file : (w : List ℕ) → (session_of w).file ≡ get_or w 2 0
  pub pages : (w : List ℕ) → (session_of w).pages ≡ get_or w 3 0
  pub taken : (w : List ℕ) → (session_of w).taken ≡ get_or w 4 0
  pub operations : (w : List ℕ) → (session_of w).operations ≡ get_or w 5 0
  pub begun : (n f : ℕ) → session_of (words_of (begin_of n f).session) ≡ (begin_of n f).session
  pub erased : (w slot : List ℕ) → CarriesTurn w (erase_of (session_of w) slot)
  pub filled : (w piece slot : List ℕ) → ((i : ℕ) → get_or piece i 0 < 256) → CarriesTurn w (fill_of (session_of w) piece slot)
  pub closed : (w slot : List ℕ) (given : Inputs) → CarriesTurn w (close_of (session_of w) given slot)
  -- and the calls that hand the operation back
  pub erase_planned : (w slot : List ℕ) → CarriesPlan w (erase_plan (session_of w) slot)
  pub fill_planned : (w piece slot : List ℕ) → ((i : ℕ) → get_or piece i 0 < 256) → CarriesPlan w (fill_plan (session_of w) piece slot)
  pub close_planned : (w slot : List ℕ) (given : Inputs) → CarriesPlan w (close_plan (session_of w) given slot)
  pub confirmed : (w slot : List ℕ) → CarriesTurn w (confirm_of (session_of w) slot)

-- the operation that a call hands back stands in its words, on any record, and on a slot whose length 32 bits hold; and the four bytes of a word to be
-- stored are those of its number, the least first
pub record WordsTellTheOperation : Type 0 where
  pub nothing : operation_words Nothing ≡ 0 ∷ 0 ∷ 0 ∷ []
  pub erase : (c : Writing) (s : Session) (slot : List ℕ) (page : ℕ) → length slot < 4294967296 → (plan_of c s slot).operation ≡ ErasePage page
      → operation_words (ErasePage page) ≡ 1 ∷ page * 4096 ∷ 0 ∷ []
  pub store : (c : Writing) (s : Session) (slot : List ℕ) (at : ℕ) (w : Word) → length slot < 4294967296 → (plan_of c s slot).operation ≡ StoreWord at w
      → operation_words (StoreWord at w) ≡ 2 ∷ at ∷ u32_at (bytes_of w) 0 ∷ []
  pub word : (w : Word) → w.b0 < 256 → w.b1 < 256 → w.b2 < 256 → w.b3 < 256 → le32 (u32_at (bytes_of w) 0) ≡ bytes_of w
