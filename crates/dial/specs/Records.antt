-- Fired records in the output words.
-- Assumes nothing.
use Rattle.std.specs.Prelude.{ℕ, ◌+◌, ◌*◌, List, [], ◌∷◌, ◌++◌, length, take, drop}
use Rattle.meaning.specs.Entries.{Entry}

-- "A fired record is four words: cell, ticket, deadline, load."
unfoldable pub records : List Entry → List ℕ
records [] = []
records (e ∷ es) = e.cell ∷ e.ticket ∷ e.key ∷ e.load ∷ records es

-- "Each record is written into the part of the output that follows the records before it; words beyond the last record keep their contents":
-- the records of these entries behind n earlier ones.
unfoldable pub with_records : List ℕ → ℕ → List Entry → List ℕ
with_records out n es = take (n * 4) out ++ (records es ++ drop ((n + length es) * 4) out)
