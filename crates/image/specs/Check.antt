-- The check of a file and of a slot (specification, 6): S1 to S23. The first failing step answers.
-- The two differ in S22 alone. The boot check is the check of a slot.
-- Assumes nothing.
use Rattle.std.specs.Prelude.{List, ◌++◌, Bool, ℕ}
use Rattle.header.specs.Steps.{vendor_magic_missing, bytes_follow, tail_not_erased}
use Rattle.header.specs.Table.{Row, first_failing, header_rows, extent_rows}
use Rattle.header.specs.declared.Inputs.{Inputs}
use Rattle.image.specs.Chunks.{hash_rows}
use Rattle.image.specs.Answer.{Answer, image_of, answer_of}

-- S1 to S23, where S1 and S22 fail as told
unfoldable pub check_rows : Bool → Bool → List ℕ → Inputs → List Row
check_rows magic_missing tail_wrong b given = header_rows magic_missing b given ++ (extent_rows tail_wrong b ++ hash_rows b)

unfoldable pub check_file : List ℕ → Inputs → Answer
check_file b given = answer_of (first_failing (check_rows (vendor_magic_missing b) (bytes_follow b) b given)) (image_of b)

unfoldable pub check_slot : List ℕ → Inputs → Answer
check_slot b given = answer_of (first_failing (check_rows (vendor_magic_missing b) (tail_not_erased b) b given)) (image_of b)
