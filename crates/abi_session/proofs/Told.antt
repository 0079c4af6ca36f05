-- The words of an operation tell it: a page or a word of the slot stands below 2 ^ 32, so that its offset is kept whole.
-- Assumes nothing.
use Prim.Native.Nat.{ℕ, ◌+◌, ◌/◌, ◌%◌, ◌≤◌, ◌<◌}
use mathlib.Core.Path.{◌≡◌, refl}
use native.Mathlib.Omega.{arith}
use Rattle.octets.specs.Read.{u32_at}
use Rattle.octets.proofs.Numbers.{bytes_of}
use Rattle.sessions.proofs.Operations.{at_most_one_operation}
use Rattle.abi_session.specs.Carried.{WordsTellTheOperation}

page_kept : (n page : ℕ) → n < 4294967296 → page < n / 4096 → page % 1048576 ≡ page
page_kept n page h g = omega arith

offset_kept : (n at : ℕ) → n < 4294967296 → at + 4 ≤ n → at % 4294967296 ≡ at
offset_kept n at h g = omega arith

pub words_tell_the_operation : WordsTellTheOperation
unfolding u32_at
words_tell_the_operation =
    record {
      nothing = refl;
      erase = λ c s slot page h e. rw (page_kept _ page h ((at_most_one_operation.one c s slot).erased page e).0);
      store = λ c s slot at w h e. rw (offset_kept _ at h ((at_most_one_operation.one c s slot).stored at w e).1);
      word = λ w a b c d. bytes_of w.b0 w.b1 w.b2 w.b3 a b c d;
    }
