-- What a writer knows where no row refuses, and what it answers and leaves by the outcome of its rows.
-- Assumes nothing.
use mathlib.Core.Path.{◌≡◌, refl, sym, ap, ◌∙◌}
use mathlib.Core.List.{List, [], ◌∷◌}
use mathlib.Core.Bool.{Bool, false, not, ◌||◌}
use Prim.Native.Nat.{ℕ, ◌+◌, ◌*◌, ◌≤◌}
use native.Mathlib.Omega.{arith}
use lib.ListN.{length, take, drop, length-append}
use lib.Seq.{take_at}
use lib.Dec.{ltb, eqb}
use borrow.Author.Tests.{ltb-false, eqb-true, not-false}
use Rattle.std.specs.Prelude.{Result, Ok, Err, is_ok}
use Rattle.std.specs.Result.{IsErr, IsErrAnd}
use Rattle.std.proofs.lemmas.Bool.{false≢true}
use Rattle.octets.specs.Put.{Put}
use Rattle.octets.specs.Rounding.{round_up}
use Rattle.octets.proofs.Rounding.{rounds_up}
use Rattle.octets.proofs.Splice.{splice_start, length_zeros}
use Rattle.octets.proofs.Laws.{or_left, or_right}
use Rattle.header.specs.Layout.{picture_start}
use Rattle.header.specs.Steps.{keys_impossible}
use Rattle.header.specs.Table.{row, first_failing}
use Rattle.header.specs.declared.Refusal.{Refusal}
use Rattle.header.specs.Outcome.{Outcome}
use Rattle.header.proofs.Rows.{pass_head, pass_tail}
use Rattle.header.proofs.Facts.{LengthPossible, length_possible, CodeLenPossible, code_len_possible}
use Rattle.writer.specs.Writers.{Written, answered, output}
use Rattle.writer.specs.Vendor.{vendor_size, vendor_head, vendor_front, vendor_refusals}
use Rattle.writer.specs.Firmware.{firmware_refusals}
use Rattle.writer.specs.declared.Vendor.{Vendor}

-- a step passes where its test does not fail
pub passed : {x : Outcome} {f : Bool} (r : Refusal) → x ≡ first_failing (row f r ∷ []) → x ≡ Ok tt → f ≡ false
passed r asked h = pass_head _ r [] (sym asked ∙ h)

-- ---- the vendor writer

-- a header's length holds what it must
pub size_holds : (x : ℕ) → x ≤ round_up 512 x
size_holds x = (rounds_up 512 x (omega arith)).holds

-- the test of 20
pub lengths_right : (k n s : ℕ) → (not (eqb k (32 * n)) || ltb 255 s) ≡ false → (k ≡ 32 * n) × (s ≤ 255)
lengths_right k n s h =
    (eqb-true k (32 * n) (not-false _ (or_left _ (ltb 255 s) h)), ltb-false 255 s (or_right (not (eqb k (32 * n))) (ltb 255 s) h))

-- the test of 3, where start is what a call said of the picture's place
pub too_long_is : {x : Bool} {start : ℕ} (n s p : ℕ) → start ≡ picture_start n s → x ≡ ltb 65536 (round_up 512 (start + p + 65)) → x ≡ ltb 65536 (vendor_size n s p)
too_long_is n s p e h = h ∙ ap (λ (i : ℕ). ltb 65536 (round_up 512 (i + p + 65))) e

pub record VendorFits (f : Vendor) (k s p room : ℕ) : Type 0 where
  pub policy : keys_impossible f.m f.n ≡ false
  pub keys : k ≡ 32 * f.n
  pub string : s ≤ 255
  pub within : picture_start f.n s + p + 65 ≤ vendor_size f.n s p
  pub size : vendor_size f.n s p ≤ 65536
  pub holds : vendor_size f.n s p ≤ room

-- x is what the rows' function returned
pub vendor_fits : {x : Outcome} {f : Vendor} {k s p room : ℕ} → x ≡ first_failing (vendor_refusals f k s p room) → x ≡ Ok tt → VendorFits f k s p room
unfolding vendor_refusals
vendor_fits {f = f} {k = k} {s = s} {p = p} {room = room} asked h =
    let h4 = sym asked ∙ h in
    let h20 = pass_tail _ _ _ h4 in
    let h3 = pass_tail _ _ _ h20 in
    let h21 = pass_tail _ _ _ h3 in
    let l = lengths_right k f.n s (pass_head _ _ _ h20) in
    record {
      policy = pass_head _ _ _ h4;
      keys = l.0;
      string = l.1;
      within = size_holds _;
      size = ltb-false _ _ (pass_head _ _ _ h3);
      holds = ltb-false _ _ (pass_head _ _ _ h21);
    }

-- the fields before the picture end where it starts
pub length_front : (v : ℕ) (f : Vendor) (keys string : List ℕ) → length keys ≡ 32 * f.n → length (vendor_front v f keys string) ≡ picture_start f.n (length string)
unfolding vendor_front vendor_head
length_front v f keys string h = simp (length-append, length_zeros) (omega arith)

-- ---- the firmware writer

pub record FirmwareFits (v codelen room : ℕ) : Type 0 where
  pub size : LengthPossible v
  pub code : CodeLenPossible v codelen
  pub holds : 1024 ≤ room

pub firmware_fits : {x : Outcome} {v codelen room : ℕ} → x ≡ first_failing (firmware_refusals v codelen room) → x ≡ Ok tt → FirmwareFits v codelen room
unfolding firmware_refusals
firmware_fits {v = v} {codelen = codelen} {room = room} asked h =
    let h3 = sym asked ∙ h in
    let h12 = pass_tail _ _ _ h3 in
    let h21 = pass_tail _ _ _ h12 in
    let large = ltb-false room _ (pass_head _ _ _ h21) in
    record {
      size = length_possible v (pass_head _ _ _ h3);
      code = code_len_possible v codelen (pass_head _ _ _ h12);
      holds = omega arith;
    }

-- ---- both writers: x is what the rows' function returned, o the outcome of the rows

-- m is what `map_err` makes of x: a success where x is one, and a refusal where x is one
pub passes : {x : Outcome} {m : Result Unit ℕ} → is_ok m ≡ is_ok x → m ≡ Ok tt → x ≡ Ok tt
passes {x = Ok u} same h = refl
passes {x = Err r} same h = cc

pub fails : {C : Type 0} {n : ℕ} (x : Outcome) {m : Result Unit ℕ} → is_ok m ≡ is_ok x → m ≡ Err n → ((r : Refusal) → x ≡ Err r → C) → C
fails (Ok u) same h f = absurd (false≢true (sym (ap is_ok h) ∙ same))
fails (Err r) same h f = f r refl

-- what a refused call answers, by the number n that is handed on, and leaves
pub refused : {x o : Outcome} {a : Written} {r : Refusal} {n : ℕ} (v : ℕ) → x ≡ o → x ≡ Err r → n ≡ r.number → IsErr a × IsErrAnd a (λ k. k ≡ n) → a ≡ answered o v
refused {a = Ok w} v e f g h = absurd h.1
refused {a = Err k} v e f g h = rw (← e, f) (ap Err (h.1 ∙ g))

pub untouched : {x o : Outcome} {r : Refusal} (h d : List ℕ) → x ≡ o → x ≡ Err r → d ≡ output o h d
untouched h d e f = sym (rw (← e, f))

-- what a successful one does, of which q is left by the cursor that leaves r
pub wrote : {x o : Outcome} {v w : ℕ} → x ≡ o → x ≡ Ok tt → w ≡ v → Ok w ≡ answered o v
wrote e f l = rw (← e, f) (ap Ok l)

pub leaves : {x o : Outcome} {h d q r : List ℕ} {b : ℕ} → x ≡ o → x ≡ Ok tt → q ≡ r → Put 0 h d b r → q ≡ output o h d
leaves {h = h} {d = d} e f k p = rw (← e, f) (k ∙ p.is ∙ splice_start h d)

-- a success says that the rows pass, and tells the header's length, n
pub succeeded : (o : Outcome) (n v : ℕ) → answered o n ≡ Ok v → (o ≡ Ok tt) × (v ≡ n)
succeeded (Ok tt) n v h = (refl, cc)
succeeded (Err r) n v h = (cc, cc)

-- and the header stands at the output's start
pub left : {o : Outcome} (h out : List ℕ) (n : ℕ) → o ≡ Ok tt → length h ≡ n → take n (output o h out) ≡ h
left h out n e l = rw e (take_at h (drop (length h) out) n l)
