-- What the checks of a loader accept, said of the bytes: an acceptance says each of it, and all of it together makes an acceptance. The same of the digest question.
-- Assumes nothing.
use Prim.Native.Nat.{ℕ}
use mathlib.Core.Path.{◌≡◌, refl, sym, subst, ap, ◌∙◌}
use mathlib.Core.Bool.{Bool, true, false}
use mathlib.Core.List.{List, []}
use native.Mathlib.Omega.{arith}
use lib.ListN.{get_or, take, drop}
use Rattle.std.specs.Prelude.{Ok, Err}
use Rattle.octets.specs.Read.{u32_at, between}
use Rattle.code_header.proofs.Facts as facts
use Rattle.code_header.proofs.Facts.{in_time, time_passes, mask_signed, signed_mask}
use Rattle.header.specs.Table.{first_failing}
use Rattle.header.specs.declared.Refusal.{Refusal}
use Rattle.header.proofs.Rows.{passes_here, pass_head, pass_tail}
use Rattle.header.proofs.Facts.{keys_possible}
use Rattle.image.specs.Answer.{image_at}
use Rattle.image.specs.Parts.{when_accepted}
use Rattle.image.specs.declared.Image.{Image}
use Rattle.image.proofs.Facts.{accepted, passed, told, image_is}
use Rattle.signing.proofs.Laws.{outcome_ok}
use Rattle.loader.specs.declared.AreaInputs.{AreaInputs}
use Rattle.loader.specs.Check.{TRZB, code_of, magic_missing, area_rows, check_area, check_card, check_internal}
use Rattle.loader.specs.Digest.{digest_rows, loader_digest}
use Rattle.loader.specs.Theorems.{LoaderHeader, IsLoader, LoadersAreAccepted, LoaderHeadersAnswer}
use Rattle.loader.proofs.Rows.{RowsPass, Shaped, each_group_passes, all_groups_pass, shaped, shape_passes, keys_pass, allowed, policy_passes, extends, extent_passes}
use Rattle.loader.proofs.Numbered.{area_numbered}
use Rattle.loader.proofs.Hashes.{code_is, hashes_right, hashes_unused, hashes_pass}

-- ---- the magic

magic_stands : (b : List ℕ) → magic_missing b ≡ false → take 4 b ≡ TRZB
unfolding magic_missing
magic_stands b h = facts.magic_stands b 0 TRZB refl h

magic_passes : (b : List ℕ) → take 4 b ≡ TRZB → magic_missing b ≡ false
unfolding magic_missing
magic_passes b h = facts.magic_passes b 0 TRZB refl h

magic_missing_lem : (b : List ℕ) → (take 4 b ≡ TRZB → ⊥) → magic_missing b ≡ true
unfolding magic_missing
magic_missing_lem b h = facts.magic_missing_lem b 0 TRZB refl h

-- ---- the header

header_is : (b : List ℕ) → magic_missing b ≡ false → Shaped b → LoaderHeader b
header_is b m s =
    record {
      magic = magic_stands b m;
      long = s.long;
      size = s.size;
      some = let w = s.whole in let o = s.some in omega arith;
      most = s.most;
      whole = s.whole;
      zeros = s.zeros;
      gap = s.gap;
    }

header_shaped : (b : List ℕ) → LoaderHeader b → Shaped b
header_shaped b d =
    let o = d.some in
    record { long = d.long; size = d.size; some = omega arith; whole = d.whole; most = d.most; zeros = d.zeros; gap = d.gap }

-- its digest question
question_passes : (b : List ℕ) → LoaderHeader b → first_failing (digest_rows b) ≡ Ok tt
unfolding digest_rows
question_passes b d = sym (passes_here _ _ (magic_passes b d.magic) (sym (shape_passes b (header_shaped b d))))

question_asks : (b : List ℕ) → first_failing (digest_rows b) ≡ Ok tt → LoaderHeader b
unfolding digest_rows
question_asks b h = header_is b (pass_head _ _ _ h) (shaped b (pass_tail _ _ _ h))

question_none : (b : List ℕ) → (take 4 b ≡ TRZB → ⊥) → first_failing (digest_rows b) ≡ Err (record { number = 1; part = 2; chunk = 0 })
unfolding digest_rows first_failing
question_none b h = rw (magic_missing_lem b h)

pub loader_headers_answer : LoaderHeadersAnswer
unfolding loader_digest between
loader_headers_answer =
    record {
      answered = λ b d. rw (question_passes b d);
      only = λ b h. question_asks b (outcome_ok (first_failing (digest_rows b)) _ h);
      none = λ b h. rw (question_none b h);
    }

-- ---- one area

module _ (x : ℕ) (b : List ℕ) (given : AreaInputs) (verdict : Bool) where
  own : RowsPass x b given verdict → IsLoader x b given verdict (image_at b 0 0)
  own p =
      let k = keys_possible given.m given.n p.policy in
      let s = shaped b p.shape in
      let a = allowed b given verdict p.allowed in
      let e = extends x b p.extent in
      record {
        header = header_is b p.magic s;
        held = e.held;
        hash = hashes_right b s.some s.most e.held p.hashes;
        unused = hashes_unused b s.some s.most e.held p.hashes;
        tail = e.tail;
        least = k.some;
        within = k.held;
        keys = k.most;
        timely = in_time (u32_at b 8) given.time a.timely;
        signers = mask_signed given.m given.n (get_or b 959 0) a.signed;
        agreed = a.agreed;
        v = refl;
        codelen = refl;
        version = refl;
        fix = refl;
      }

  area_accepted : (i : Image) → check_area x b given verdict ≡ Ok i → IsLoader x b given verdict i
  unfolding check_area
  area_accepted i h =
      subst (λ (j : Image). IsLoader x b given verdict j) (told (first_failing (area_rows x b given verdict)) (image_at b 0 0) i h) (own (each_group_passes x b given verdict (passed _ (image_at b 0 0) i h)))

  rows_pass : (i : Image) → IsLoader x b given verdict i → RowsPass x b given verdict
  rows_pass i l =
      let c = l.codelen in
      let d = l.header in
      let h = l.held in
      let s = d.some in
      record {
        magic = magic_passes b d.magic;
        policy = keys_pass given.m given.n l.least l.within l.keys;
        shape = shape_passes b (header_shaped b d);
        allowed =
            policy_passes b given verdict
            (record {
              timely = time_passes (u32_at b 8) given.time l.timely;
              signed = signed_mask given.m given.n (get_or b 959 0) l.signers;
              agreed = l.agreed;
            });
        extent = extent_passes x b (record { held = omega arith; tail = rw (← c) l.tail });
        hashes = hashes_pass b (omega arith) d.most (omega arith) (rw (← c) l.hash) l.unused;
      }

  loader_accepted : (i : Image) → IsLoader x b given verdict i → check_area x b given verdict ≡ Ok i
  unfolding check_area
  loader_accepted i l =
      sym (accepted (all_groups_pass x b given verdict (rows_pass i l)) (sym (image_is i _ _ _ _ l.v l.codelen l.version l.fix)))

  code_handed : (i : Image) → check_area x b given verdict ≡ Ok i → when_accepted (check_area x b given verdict) (code_of b) ≡ take i.codelen (drop 1024 b)
  code_handed i h =
      let l = area_accepted i h in
      rw h (code_is b ∙ ap (λ (n : ℕ). take n (drop 1024 b)) (sym l.codelen))

  code_none : (r : Refusal) → check_area x b given verdict ≡ Err r → when_accepted (check_area x b given verdict) (code_of b) ≡ []
  code_none r h = rw h

  no_magic : (take 4 b ≡ TRZB → ⊥) → check_area x b given verdict ≡ Err (record { number = 1; part = 2; chunk = 0 })
  unfolding check_area area_rows first_failing
  no_magic h = rw (magic_missing_lem b h)

-- ---- both areas

pub loaders_are_accepted : LoadersAreAccepted
unfolding check_card check_internal
loaders_are_accepted =
    record {
      card = λ b given i h. area_accepted 0 b given given.card i h;
      card_too = λ b given i l. loader_accepted 0 b given given.card i l;
      internal = λ b given i h. area_accepted 255 b given given.internal i h;
      internal_too = λ b given i l. loader_accepted 255 b given given.internal i l;
      card_code = λ b given i h. code_handed 0 b given given.card i h;
      internal_code = λ b given i h. code_handed 255 b given given.internal i h;
      card_no_code = λ b given r h. code_none 0 b given given.card r h;
      internal_no_code = λ b given r h. code_none 255 b given given.internal r h;
      card_number = λ b given r h. area_numbered 0 b given given.card r h;
      internal_number = λ b given r h. area_numbered 255 b given given.internal r h;
      card_none = λ b given h. no_magic 0 b given given.card h;
      internal_none = λ b given h. no_magic 255 b given given.internal h;
    }
