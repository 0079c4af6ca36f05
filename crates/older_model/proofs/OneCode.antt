-- Images of the older model that are accepted under the same headers: the headers have the hashes of the chunks.
-- Assumes nothing.
use Prim.Native.Nat.{ℕ, ◌+◌, ◌*◌}
use mathlib.Core.Path.{◌≡◌, refl, sym, ◌∙◌}
use mathlib.Core.List.{List}
use native.Mathlib.Omega.{arith}
use lib.ListN.{take, drop}
use lib.Seq.{take_all}
use borrow.Author.Tests.{lt-ltb}
use Rattle.sha256.specs.Fips180.{sha256_of}
use Rattle.header.proofs.Alike.{same_start_alike, u32_alike, bytes_alike}
use Rattle.image.specs.Difference.{OneCode}
use Rattle.image.specs.declared.Image.{Image}
use Rattle.image.specs.Answer.{Answer}
use Rattle.std.specs.Prelude.{Ok}
use Rattle.image.proofs.Difference.{one_image}
use Rattle.older_model.specs.declared.OlderInputs.{OlderInputs}
use Rattle.older_model.specs.Check.{check_v2_file, check_v2_slot, check_pair_file, check_pair_slot}
use Rattle.older_model.specs.Theorems.{IsV2, EndsAt, FormOneCode, OlderHeadersOneCode}
use Rattle.older_model.proofs.Accepted.{older_images_are_accepted}

module _ {at : ℕ} {b c : List ℕ} {given other : OlderInputs} {i j : Image} (p : IsV2 b at given i) (q : IsV2 c at other j) (same : take (at + 1024) b ≡ take (at + 1024) c) where
  codelen_same : i.codelen ≡ j.codelen
  codelen_same =
      p.codelen ∙ u32_alike (same_start_alike (at + 1024) b c same) (at + 12) (λ k g h. lt-ltb k (at + 1024) (omega arith)) ∙ sym q.codelen

  images_same : (Same : Type 0) → (take (at + 1024 + i.codelen) b ≡ take (at + 1024 + j.codelen) c → Same)
      → OneCode Same sha256_of 1280 (take i.codelen (drop (at + 1024) b)) (take j.codelen (drop (at + 1024) c))
  images_same Same give =
      let e = codelen_same in
      let m = p.header.most in
      let n = p.codelen in
      one_image sha256_of 1280 (at + 1024) i.codelen j.codelen b c Same give same e p.held q.held (omega arith)
      (λ k g f u.
      sym (p.used k g f u)
      ∙ bytes_alike (same_start_alike (at + 1024) b c same) 32 (at + 32 * k) (λ x y z. lt-ltb x (at + 1024) (omega arith))
      ∙ q.used k g f (omega arith))

-- what an acceptance says: the V2 header and the code, and which bytes are all of it
pub record Known (at : ℕ) (bytes : List ℕ → Image → List ℕ) (b : List ℕ) (given : OlderInputs) (i : Image) : Type 0 where
  pub v2 : IsV2 b at given i
  pub whole : take (at + 1024 + i.codelen) b ≡ bytes b i

form_same : (check : List ℕ → OlderInputs → Answer) (at : ℕ) (bytes : List ℕ → Image → List ℕ)
    → ((b : List ℕ) (given : OlderInputs) (i : Image) → check b given ≡ Ok i → Known at bytes b given i) → FormOneCode check at bytes
form_same check at bytes known b c given other i j h g same =
    let x = known b given i h in
    let y = known c other j g in
    images_same x.v2 y.v2 same (bytes b i ≡ bytes c j) (λ e. sym x.whole ∙ e ∙ y.whole)

file_whole : (b : List ℕ) (n : ℕ) → EndsAt b n → take n b ≡ b
file_whole b n e = take_all n b (omega arith)

pub older_headers_one_code : OlderHeadersOneCode
older_headers_one_code =
    let alone = older_images_are_accepted.alone in
    let pair = older_images_are_accepted.pair in
    record {
      v2_file = form_same check_v2_file 0 _ (λ b given i h. let s = alone.file_is b given i h in record { v2 = s.0; whole = file_whole b _ s.1 });
      v2_slot = form_same check_v2_slot 0 _ (λ b given i h. record { v2 = (alone.slot_is b given i h).0; whole = refl });
      pair_file = form_same check_pair_file 256 _ (λ b given i h. let s = pair.file_is b given i h in record { v2 = s.0.v2; whole = file_whole b _ s.1 });
      pair_slot = form_same check_pair_slot 256 _ (λ b given i h. record { v2 = (pair.slot_is b given i h).0.v2; whole = refl });
    }
