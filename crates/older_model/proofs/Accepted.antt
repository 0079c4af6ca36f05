-- What the checks of the older model accept, said of the bytes: an acceptance says each of it, and all of it together makes an acceptance.
-- Assumes nothing.
use Prim.Native.Nat.{ℕ, ◌+◌, ◌≤◌}
use mathlib.Core.Path.{◌≡◌, refl, sym, subst, ap, ◌∙◌}
use mathlib.Core.Bool.{Bool, false, not}
use mathlib.Core.List.{List, []}
use native.Mathlib.Omega.{arith}
use lib.ListN.{length, take, drop}
use borrow.Author.Tests.{ltb-false, le-ltb, not-false}
use Rattle.code_header.specs.Layout.{code_end_at}
use Rattle.code_header.specs.Tests.{bytes_follow_at, tail_not_at}
use Rattle.header.specs.Table.{Row, refusal, first_failing}
use Rattle.header.specs.declared.Refusal.{Refusal}
use Rattle.std.specs.Prelude.{Ok, Err}
use Rattle.header.proofs.Rows.{fails_here, Numbered, first_numbered}
use Rattle.image.specs.Answer.{image_at, answer_of}
use Rattle.image.specs.Chunks.{code_at}
use Rattle.image.specs.Parts.{when_accepted}
use Rattle.image.specs.declared.Image.{Image}
use Rattle.image.specs.Answer.{Answer}
use Rattle.image.proofs.Facts.{accepted, rejected, passed, told, rejected_is, image_is}
use Rattle.older_model.specs.declared.OlderInputs.{OlderInputs}
use Rattle.older_model.specs.Check.{v2_policy, v2_rows, alone_rows, pair_rows, check_v2_file, check_v2_slot, check_pair_file, check_pair_slot}
use Rattle.older_model.specs.Theorems.{KeySheet, IsV2, IsPair, EndsAt, ErasedFrom, refused, Accepts, OlderImagesAreAccepted}
use Rattle.older_model.proofs.Signers.{sheet_fails}
use Rattle.older_model.proofs.Hashes.{code_is}
use Rattle.older_model.proofs.Refused.{alone_before, pair_before, refuses_v2, refuses_legacy}
use Rattle.older_model.proofs.Rows.{alone_stands, alone_passes, pair_stands, pair_passes, alone_numbered, pair_numbered}

-- ---- one form, by its rows

-- the image told of a V2 header at an offset
image_of : (b : List ℕ) (at : ℕ) (given : OlderInputs) (i : Image) → IsV2 b at given i → image_at b 0 at ≡ i
image_of b at given i s = image_is i _ _ _ _ s.v s.codelen s.version s.fix

-- the rows of a form, whose V2 header starts at an offset
pub record Form (rows : Bool → List ℕ → OlderInputs → List Row) (Is : List ℕ → OlderInputs → Image → Type 0) (at : ℕ) : Type 0 where
  pub stands : (t : Bool) (b : List ℕ) (given : OlderInputs) → first_failing (rows t b given) ≡ Ok tt → Is b given (image_at b 0 at) × (t ≡ false)
  pub passes : (t : Bool) (b : List ℕ) (given : OlderInputs) (i : Image) → Is b given i → t ≡ false → first_failing (rows t b given) ≡ Ok tt
  pub v2 : (b : List ℕ) (given : OlderInputs) (i : Image) → Is b given i → IsV2 b at given i
  pub numbered : (t : Bool) (b : List ℕ) (given : OlderInputs) → Numbered (rows t b given)
  pub sheet : (t : Bool) (b : List ℕ) (given : OlderInputs) → (KeySheet given.keys → ⊥) → first_failing (rows t b given) ≡ Err (refusal 16 0)

module _ {rows : Bool → List ℕ → OlderInputs → List Row} {Is : List ℕ → OlderInputs → Image → Type 0} {at : ℕ} (form : Form rows Is at) where
  abbrev check : Bool → List ℕ → OlderInputs → Answer
  check t b given = answer_of (first_failing (rows t b given)) (image_at b 0 at)

  is : (t : Bool) (b : List ℕ) (given : OlderInputs) (i : Image) → check t b given ≡ Ok i → Is b given i × (t ≡ false)
  is t b given i h =
      let s = form.stands t b given (passed _ (image_at b 0 at) i h) in
      (subst (λ (j : Image). Is b given j) (told (first_failing (rows t b given)) (image_at b 0 at) i h) s.0, s.1)

  makes : (t : Bool) (b : List ℕ) (given : OlderInputs) (i : Image) → Is b given i → t ≡ false → check t b given ≡ Ok i
  makes t b given i s e = sym (accepted (form.passes t b given i s e) (sym (image_of b at given i (form.v2 b given i s))))

  code_handed : (t : Bool) (b : List ℕ) (given : OlderInputs) (i : Image) → check t b given ≡ Ok i → when_accepted (check t b given) (code_at b at) ≡ take i.codelen (drop (at + 1024) b)
  code_handed t b given i h =
      let s = form.v2 b given i (is t b given i h).0 in
      rw h (code_is b at ∙ ap (λ (n : ℕ). take n (drop (at + 1024) b)) (sym s.codelen))

  code_none : (t : Bool) (b : List ℕ) (given : OlderInputs) (r : Refusal) → check t b given ≡ Err r → when_accepted (check t b given) (code_at b at) ≡ []
  code_none t b given r h = rw h

  number : (t : Bool) (b : List ℕ) (given : OlderInputs) (r : Refusal) → check t b given ≡ Err r → 1 ≤ r.number
  number t b given r h = first_numbered (rows t b given) r (form.numbered t b given) (rejected_is (first_failing (rows t b given)) _ r h)

  no_sheet : (t : Bool) (b : List ℕ) (given : OlderInputs) → (KeySheet given.keys → ⊥) → check t b given ≡ refused 16 0
  no_sheet t b given h = sym (rejected (image_at b 0 at) (form.sheet t b given h))

  -- the end of a file, and what follows in a slot
  ends_at : (b : List ℕ) (given : OlderInputs) (i : Image) → IsV2 b at given i → bytes_follow_at b at ≡ false → EndsAt b (at + 1024 + i.codelen)
  ends_at b given i s h =
      let c = s.codelen in
      let l = s.held in
      let m : length b ≤ code_end_at b at = ltb-false (code_end_at b at) (length b) h in
      omega arith

  follows_not : (b : List ℕ) (given : OlderInputs) (i : Image) → IsV2 b at given i → EndsAt b (at + 1024 + i.codelen) → bytes_follow_at b at ≡ false
  follows_not b given i s e = let c = s.codelen in le-ltb (code_end_at b at) (length b) (omega arith)

  erased_from : (b : List ℕ) (given : OlderInputs) (i : Image) → IsV2 b at given i → tail_not_at b at 255 ≡ false → ErasedFrom b (at + 1024 + i.codelen)
  erased_from b given i s h = rw s.codelen (not-false _ h)

  tail_erased : (b : List ℕ) (given : OlderInputs) (i : Image) → IsV2 b at given i → ErasedFrom b (at + 1024 + i.codelen) → tail_not_at b at 255 ≡ false
  tail_erased b given i s e = ap not (rw s.codelen at e)

  pub accepts : Accepts (λ b given. check (bytes_follow_at b at) b given) (λ b given. check (tail_not_at b at 255) b given) (λ b. code_at b at) Is at
  accepts =
      record {
        file_is = λ b given i h. let s = is (bytes_follow_at b at) b given i h in (s.0, ends_at b given i (form.v2 b given i s.0) s.1);
        is_file = λ b given i s e. makes (bytes_follow_at b at) b given i s (follows_not b given i (form.v2 b given i s) e);
        slot_is = λ b given i h. let s = is (tail_not_at b at 255) b given i h in (s.0, erased_from b given i (form.v2 b given i s.0) s.1);
        is_slot = λ b given i s e. makes (tail_not_at b at 255) b given i s (tail_erased b given i (form.v2 b given i s) e);
        file_code = λ b given i h. code_handed (bytes_follow_at b at) b given i h;
        slot_code = λ b given i h. code_handed (tail_not_at b at 255) b given i h;
        file_no_code = λ b given r h. code_none (bytes_follow_at b at) b given r h;
        slot_no_code = λ b given r h. code_none (tail_not_at b at 255) b given r h;
        file_number = λ b given r h. number (bytes_follow_at b at) b given r h;
        slot_number = λ b given r h. number (tail_not_at b at 255) b given r h;
        file_sheet = λ b given h. no_sheet (bytes_follow_at b at) b given h;
        slot_sheet = λ b given h. no_sheet (tail_not_at b at 255) b given h;
      }

-- ---- the two forms

alone_form : Form alone_rows (λ b given i. IsV2 b 0 given i) 0
unfolding alone_rows
alone_form =
    record {
      stands = λ t b given h. let s = alone_stands t b given h in (s.image, s.tail);
      passes = λ t b given i s e. alone_passes t b given i s e;
      v2 = λ b given i s. s;
      numbered = λ t b given. alone_numbered t b given;
      sheet = λ t b given h. sym (fails_here _ _ (sheet_fails given.keys h) refl);
    }

pair_form : Form pair_rows IsPair 256
unfolding pair_rows
pair_form =
    record {
      stands = λ t b given h. pair_stands t b given h;
      passes = λ t b given i s e. pair_passes t b given i s e;
      v2 = λ b given i s. s.v2;
      numbered = λ t b given. pair_numbered t b given;
      sheet = λ t b given h. sym (fails_here _ _ (sheet_fails given.keys h) refl);
    }

pub older_images_are_accepted : OlderImagesAreAccepted
unfolding check_v2_file check_v2_slot check_pair_file check_pair_slot alone_rows v2_rows v2_policy
older_images_are_accepted =
    record {
      alone = accepts alone_form;
      pair = accepts pair_form;
      alone_file = refuses_v2 (λ b. bytes_follow_at b 0) alone_before;
      alone_slot = refuses_v2 (λ b. tail_not_at b 0 255) alone_before;
      pair_file = refuses_legacy (λ b. bytes_follow_at b 256);
      pair_slot = refuses_legacy (λ b. tail_not_at b 256 255);
      pair_file_v2 = refuses_v2 (λ b. bytes_follow_at b 256) pair_before;
      pair_slot_v2 = refuses_v2 (λ b. tail_not_at b 256 255) pair_before;
      own_file = λ b given x. refl;
      own_slot = λ b given x. refl;
    }
