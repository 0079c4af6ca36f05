-- What an acceptance says: each group of rows passes, the hashes are the chunks', and the image is the bytes'; and the other way round.
-- Assumes nothing.
use Prim.Native.Nat.{ℕ, ◌+◌, ◌≤◌}
use mathlib.Core.Path.{◌≡◌, refl, sym, ap, ap₂, ◌∙◌}
use mathlib.Core.List.{List}
use mathlib.Core.Bool.{Bool}
use native.Mathlib.Omega.{arith}
use lib.ListN.{length, drop, length-take, length-drop}
use borrow.Author.Tests.{ltb-false, le-ltb}
use Rattle.std.specs.Prelude.{Ok, Err}
use Rattle.octets.specs.Read.{between}
use Rattle.octets.proofs.Laws.{between_end}
use Rattle.blake2s.specs.Rfc7693.{blake2s_of}
use Rattle.header.specs.Layout.{vendor_len, code_len, code_start, image_len, first_room}
use Rattle.header.specs.Steps.{vendor_magic_missing, bytes_follow}
use Rattle.header.specs.Table.{first_failing, header_rows, extent_rows}
use Rattle.header.specs.declared.Refusal.{Refusal}
use Rattle.header.specs.declared.Inputs.{Inputs}
use Rattle.header.specs.Outcome.{Outcome}
use Rattle.header.proofs.Rows.{stage_first, stage_then, stage_passes}
use Rattle.header.proofs.Facts.{VendorShaped, FirmwareShaped, headers_pass, vendor_shaped, firmware_shaped, extent_passes, passing_extent}
use Rattle.image.specs.Chunks.{hashes_of, hash_table, code_of, hash_rows}
use Rattle.image.specs.Answer.{image_of, answer_of}
use Rattle.image.specs.Check.{check_rows, check_file}
use Rattle.image.specs.declared.Version.{Version}
use Rattle.image.specs.declared.Image.{Image}
use Rattle.image.specs.Answer.{Answer}
use Rattle.image.proofs.Hashes.{hashes_pass, hashes_right}

-- ---- an answer and the outcome of the rows

pub rejected : {o : Outcome} {r : Refusal} (i : Image) → o ≡ Err r → Err r ≡ answer_of o i
rejected i h = sym (rw h)

pub accepted : {o : Outcome} {i j : Image} → o ≡ Ok tt → i ≡ j → Ok i ≡ answer_of o j
accepted h g = ap Ok g ∙ sym (rw h)

-- by what the calls promise: x and y are the tests of S1 and S22, o the outcome of the rows
pub answered : {x y f g : Bool} {o : Outcome} {a : Answer} (b : List ℕ) (given : Inputs) → x ≡ f → y ≡ g → o ≡ first_failing (check_rows x y b given) → a ≡ answer_of o (image_of b)
    → a ≡ answer_of (first_failing (check_rows f g b given)) (image_of b)
answered b given e h i j =
    j ∙ ap (λ (o : Outcome). answer_of o (image_of b)) (i ∙ ap₂ (λ (x y : Bool). first_failing (check_rows x y b given)) e h)

-- an acceptance: all rows pass, and the image is the one told
pub passed : (o : Outcome) (i j : Image) → answer_of o i ≡ Ok j → o ≡ Ok tt
passed (Ok tt) i j h = refl
passed (Err r) i j h = cc

pub told : (o : Outcome) (i j : Image) → answer_of o i ≡ Ok j → i ≡ j
told (Ok tt) i j h = cc
told (Err r) i j h = cc

-- a refusal is that of the rows
pub rejected_is : (o : Outcome) (i : Image) (r : Refusal) → answer_of o i ≡ Err r → o ≡ Err r
rejected_is (Ok tt) i r e = cc
rejected_is (Err s) i r e = cc

-- an image is what its fields are
pub image_is : (i : Image) (v c : ℕ) (x y : Version) → i.v ≡ v → i.codelen ≡ c → i.version ≡ x → i.fix ≡ y → record { v = v; codelen = c; version = x; fix = y } ≡ i
image_is i v c x y e f g h =
    ap₂ (λ (v c : ℕ). record { v = v; codelen = c; version = x; fix = y }) (sym e) (sym f)
    ∙ ap₂ (λ (x y : Version). record { v = i.v; codelen = i.codelen; version = x; fix = y }) (sym g) (sym h)

-- ---- all rows pass

pub record RowsPass (magic_missing tail_wrong : Bool) (b : List ℕ) (given : Inputs) : Type 0 where
  pub headers : first_failing (header_rows magic_missing b given) ≡ Ok tt
  pub extent : first_failing (extent_rows tail_wrong b) ≡ Ok tt
  pub hashes : first_failing (hash_rows b) ≡ Ok tt

pub each_group_passes : {magic_missing tail_wrong : Bool} {b : List ℕ} {given : Inputs} → first_failing (check_rows magic_missing tail_wrong b given) ≡ Ok tt → RowsPass magic_missing tail_wrong b given
unfolding check_rows
each_group_passes {magic_missing} {tail_wrong} {b} {given} h =
    let l = stage_then (header_rows magic_missing b given) _ h in
    record { headers = stage_first _ _ h; extent = stage_first _ _ l; hashes = stage_then (extent_rows tail_wrong b) _ l }

pub all_groups_pass : {magic_missing tail_wrong : Bool} {b : List ℕ} {given : Inputs} → RowsPass magic_missing tail_wrong b given → first_failing (check_rows magic_missing tail_wrong b given) ≡ Ok tt
unfolding check_rows
all_groups_pass p = sym (stage_passes _ _ (sym p.headers) refl (stage_passes _ _ (sym p.extent) refl (sym p.hashes)))

-- what they then tell of the bytes
pub record Sound (b : List ℕ) : Type 0 where
  pub vendor : VendorShaped b
  pub firmware : FirmwareShaped b
  pub held : image_len b ≤ length b
  pub hashes : hash_table b ≡ hashes_of blake2s_of 16 (first_room (vendor_len b)) (code_of b)

pub sound : {magic_missing tail_wrong : Bool} {b : List ℕ} {given : Inputs} → RowsPass magic_missing tail_wrong b given → Sound b
sound {magic_missing} {tail_wrong} {b} {given} p =
    let h = headers_pass magic_missing b given p.headers in
    record {
      vendor = vendor_shaped b h.vendor;
      firmware = firmware_shaped b h.firmware;
      held = (extent_passes tail_wrong b (vendor_len b) p.extent).held;
      hashes = hashes_right b p.hashes;
    }

-- ---- an answer of all rows

-- a check accepts exactly where all rows pass, and tells the image
pub accepted_rows : (magic_missing tail_wrong : Bool) (b : List ℕ) (given : Inputs) (i : Image) → answer_of (first_failing (check_rows magic_missing tail_wrong b given)) (image_of b) ≡ Ok i
    → RowsPass magic_missing tail_wrong b given
accepted_rows magic_missing tail_wrong b given i h = each_group_passes (passed _ (image_of b) i h)

pub rows_accepted : {magic_missing tail_wrong : Bool} {b : List ℕ} {given : Inputs} → RowsPass magic_missing tail_wrong b given
    → answer_of (first_failing (check_rows magic_missing tail_wrong b given)) (image_of b) ≡ Ok (image_of b)
rows_accepted p = sym (accepted (all_groups_pass p) refl)

-- the check of a file
pub file_rows_pass : (b : List ℕ) (given : Inputs) (i : Image) → check_file b given ≡ Ok i → RowsPass (vendor_magic_missing b) (bytes_follow b) b given
unfolding check_file
file_rows_pass b given i h = accepted_rows (vendor_magic_missing b) (bytes_follow b) b given i h

pub file_told : (b : List ℕ) (given : Inputs) (i : Image) → check_file b given ≡ Ok i → image_of b ≡ i
unfolding check_file
file_told b given i h = told (first_failing (check_rows (vendor_magic_missing b) (bytes_follow b) b given)) (image_of b) i h

pub file_accepted : (b : List ℕ) (given : Inputs) → RowsPass (vendor_magic_missing b) (bytes_follow b) b given → check_file b given ≡ Ok (image_of b)
unfolding check_file
file_accepted b given p = rows_accepted p

-- ---- the extent

-- a file that is as long as its image passes S21 and S22, and an accepted file is so long
pub file_extent_passes : (b : List ℕ) → length b ≡ image_len b → first_failing (extent_rows (bytes_follow b) b) ≡ Ok tt
unfolding bytes_follow
file_extent_passes b e = passing_extent (record { held = omega arith; tail = le-ltb (image_len b) (length b) (omega arith) })

pub file_length : (magic_missing : Bool) (b : List ℕ) (given : Inputs) → RowsPass magic_missing (bytes_follow b) b given → length b ≡ image_len b
unfolding bytes_follow
file_length magic_missing b given p =
    let e = extent_passes (bytes_follow b) b (vendor_len b) p.extent in
    let l = e.held in
    let m : length b ≤ image_len b = ltb-false (image_len b) (length b) e.tail in
    omega arith

-- ---- a file that is accepted, by its headers, its length and its hashes

pub sound_file_accepted : (b : List ℕ) (given : Inputs) → first_failing (header_rows (vendor_magic_missing b) b given) ≡ Ok tt → length b ≡ image_len b
    → hash_table b ≡ hashes_of blake2s_of 16 (first_room (vendor_len b)) (code_of b) → check_file b given ≡ Ok (image_of b)
sound_file_accepted b given h l e =
    file_accepted b given (record { headers = h; extent = file_extent_passes b l; hashes = hashes_pass b e })

-- ---- parts

-- n bytes, where there are so many
pub length_part : (b : List ℕ) (a e n : ℕ) → e ≡ a + n → e ≤ length b → length (between a e b) ≡ n
unfolding between
length_part b a e n h g = simp (length-take, length-drop) (omega arith)

-- the code has codelen bytes where the image is held whole, and is all that follows the headers of a file
pub code_length : (b : List ℕ) → image_len b ≤ length b → length (code_of b) ≡ code_len b
code_length b h = length_part b (code_start b) (image_len b) (code_len b) refl h

pub code_is_rest : (b : List ℕ) → length b ≡ image_len b → code_of b ≡ drop (code_start b) b
code_is_rest b e = between_end (code_start b) (image_len b) b (omega arith)
