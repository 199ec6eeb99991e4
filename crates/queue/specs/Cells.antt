-- What is read off a cell in use, on any words whatever.
-- Assumes nothing.
use Rattle.std.specs.Prelude.{ℕ, List}
use Rattle.cells.specs.Words.{word}
use Rattle.queue.specs.declared.head.Found.{Found}

-- "First and take answer key, cell, ticket and load"
unfoldable pub found_in : List ℕ → ℕ → Found
found_in w c = record { key = word w c 2; at = record { cell = c; ticket = word w c 0 }; load = word w c 3 }
