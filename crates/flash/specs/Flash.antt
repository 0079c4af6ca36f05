-- The flash (specification, 9): erased bytes, one page erased, an erase that the power cuts, one word stored. A page has 4,096 bytes and a word 4.
-- Assumes nothing.
use Rattle.std.specs.Prelude.{ℕ, List, [], ◌∷◌, ◌++◌, Bool, ◌&&◌, cond, length, take, drop, get_or, replicate, eqb, leb}

-- n erased bytes
unfoldable pub erased_bytes : ℕ → List ℕ
erased_bytes n = replicate n 255

-- ---- what an operation leaves of the bytes from its place on

-- their first page erased, where there is a whole one
unfoldable pub first_page_erased : List ℕ → List ℕ
first_page_erased b = cond (leb 4096 (length b)) (erased_bytes 4096 ++ drop 4096 b) b

-- their words by a choice: erased where it says so, and as it was elsewhere and where it is over
abbrev pub torn : List Bool → List ℕ → List ℕ
torn [] b = b
torn (erased ∷ choice) b = cond erased (erased_bytes 4) (take 4 b) ++ torn choice (drop 4 b)

-- their first page in the midst of its erase, by a choice for each of its 1,024 words, where there is a whole one
unfoldable pub first_page_torn : List Bool → List ℕ → List ℕ
first_page_torn choice b = cond (leb 4096 (length b)) (torn (take 1024 choice) b) b

-- the word stored as their first, where there is a whole one
unfoldable pub first_word_stored : List ℕ → List ℕ → List ℕ
first_word_stored w b = cond (leb 4 (length b)) (w ++ drop 4 b) b

-- the first word of these bytes is erased
abbrev pub starts_erased : List ℕ → Bool
starts_erased b = eqb (get_or b 0 0) 255 && (eqb (get_or b 1 0) 255 && (eqb (get_or b 2 0) 255 && eqb (get_or b 3 0) 255))
