-- Words that fit their fields are read as they stand: each test of a field bounds its word, and a remainder below the size is the word itself.
-- Assumes nothing.
use Prim.Native.Nat.{ℕ, ◌%◌, ◌<◌, min}
use mathlib.Core.Path.{◌≡◌, refl, ap}
use mathlib.Core.Bool.{Bool, true, false, ◌&&◌, and-false}
use mathlib.Core.List.{List}
use native.Mathlib.Omega.{arith}
use lib.Dec.{leb}
use lib.ListN.{get_or}
use borrow.Author.Tests.{leb-true, leb-false, le-leb, lt-leb}
use Rattle.octets.proofs.Laws.{and_left, and_right}
use Rattle.octets.proofs.Numbers.{bytes_of}
use Rattle.header.specs.Steps.{keys_impossible}
use Rattle.image.specs.declared.Version.{Version}
use Rattle.abi.specs.Answers.{version_word}
use Rattle.abi.specs.Headers.{vendor_fits, vendor_of, firmware_fits, version_of, firmware_of}
use Rattle.abi.specs.Theorems.{NumbersAreRead}

-- a word that fits a byte, and one that fits two
byte_kept : (x : ℕ) → leb x 255 ≡ true → x % 256 ≡ x
byte_kept x h = let l = leb-true x 255 h in omega arith

pair_kept : (x : ℕ) → leb x 65535 ≡ true → x % 65536 ≡ x
pair_kept x h = let l = leb-true x 65535 h in omega arith

-- m and n, cut at 255, are refused where they are refused as they stand
keys_cut : (m n : ℕ) → keys_impossible (min m 255) (min n 255) ≡ keys_impossible m n
keys_cut m n = go (leb n 8) refl (leb m n) refl
  where
    go : (a : Bool) → leb n 8 ≡ a → (b : Bool) → leb m n ≡ b → keys_impossible (min m 255) (min n 255) ≡ keys_impossible m n
    go false p b q =
        let l = leb-false n 8 p in
        let e : leb (min n 255) 8 ≡ false = lt-leb (min n 255) 8 (omega arith) in
        rw (p, e, and-false (leb 1 m && leb m n), and-false (leb 1 (min m 255) && leb (min m 255) (min n 255)))
    go true p true q =
        let l = leb-true n 8 p in
        let k = leb-true m n q in
        let e : min n 255 ≡ n = omega arith in
        let f : min m 255 ≡ m = omega arith in
        rw (e, f)
    go true p false q =
        let l = leb-true n 8 p in
        let k = leb-false m n q in
        let e : min n 255 ≡ n = omega arith in
        let f : leb (min m 255) n ≡ false = lt-leb (min m 255) n (omega arith) in
        rw (e, f, q, and-false (leb 1 m), and-false (leb 1 (min m 255)))

-- a version told as a word is read back from it
version_back : (x : Version) → x.major < 256 → x.minor < 256 → x.patch < 256 → x.build < 256 → version_of (version_word x) ≡ x
version_back x a b c d =
    ap (λ (l : List ℕ). record { major = get_or l 0 0; minor = get_or l 1 0; patch = get_or l 2 0; build = get_or l 3 0 }) (bytes_of x.major x.minor x.patch x.build a b c d)

pub numbers_are_read : NumbersAreRead
unfolding vendor_fits vendor_of firmware_fits firmware_of
numbers_are_read =
    record {
      vendor_fit = λ w a b c d. rw (le-leb (get_or w 1 0) 255 a, le-leb (get_or w 2 0) 255 b, le-leb (get_or w 5 0) 65535 c, le-leb (get_or w 6 0) 255 d);
      firmware_fit = λ w h. le-leb (get_or w 4 0) 255 h;
      expiry = λ w. refl;
      major = λ w h. byte_kept (get_or w 1 0) (and_left _ _ h);
      minor = λ w h. byte_kept (get_or w 2 0) (and_left _ _ (and_right (leb (get_or w 1 0) 255) _ h));
      m = λ w h. omega arith;
      n = λ w h. omega arith;
      trust = λ w h. pair_kept (get_or w 5 0) (and_left _ _ (and_right (leb (get_or w 2 0) 255) _ (and_right (leb (get_or w 1 0) 255) _ h)));
      mask = λ w h. byte_kept (get_or w 6 0) (and_right (leb (get_or w 5 0) 65535) _ (and_right (leb (get_or w 2 0) 255) _ (and_right (leb (get_or w 1 0) 255) _ h)));
      keys = λ w. keys_cut (get_or w 3 0) (get_or w 4 0);
      firmware_expiry = λ w. refl;
      firmware_version = λ w. refl;
      firmware_fix = λ w. refl;
      firmware_mask = λ w h. byte_kept (get_or w 4 0) h;
      version = version_back;
    }
