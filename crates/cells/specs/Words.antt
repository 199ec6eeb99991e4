-- Lent memory as words, eight to a cell.
-- Assumes nothing.
use Rattle.std.specs.Prelude.{ℕ, ◌+◌, ◌*◌, ◌/◌, cond, ◌&&◌, List, length, get_or, set, ltb}

-- The word of cell c at field f: a read outside the cells is 0.
unfoldable pub word : List ℕ → ℕ → ℕ → ℕ
word w c f = cond (ltb f 8 && ltb c (length w / 8)) (get_or w (c * 8 + f) 0) 0

-- The words after a write of v to cell c at field f: a write outside the cells changes nothing.
unfoldable pub put_word : List ℕ → ℕ → ℕ → ℕ → List ℕ
put_word w c f v = cond (ltb f 8 && ltb c (length w / 8)) (set w (c * 8 + f) v) w
