-- Input as lines, and input that comes in chunks.
-- Assumes nothing.
use Rattle.std.specs.Prelude.{ℕ, Option, List, [], ◌∷◌, ◌++◌, map, ◌≡◌, length, take, drop}
use Rattle.script.specs.Grammar.{pieces, read_line}
use Rattle.script.specs.declared.reading.Line.{Line}

-- All pieces but the last.
unfoldable pub ended : List (List ℕ) → List (List ℕ)
ended [] = []
ended (p ∷ []) = []
ended (p ∷ (q ∷ ps)) = p ∷ ended (q ∷ ps)

-- The last piece.
unfoldable pub rest : List (List ℕ) → List ℕ
rest [] = []
rest (p ∷ []) = p
rest (p ∷ (q ∷ ps)) = rest (q ∷ ps)

-- "the last line may lack it": what follows the last line feed is a line if there is anything.
unfoldable pub ending : List ℕ → List (List ℕ)
ending [] = []
ending (b ∷ s) = (b ∷ s) ∷ []

-- The lines of an input.
unfoldable pub lines_of : List ℕ → List (List ℕ)
lines_of s = ended (pieces 10 s) ++ ending (rest (pieces 10 s))

-- What is carried of the bytes from `from` up to `to`: 129 show already that the line is too long.
unfoldable pub carried_of : List ℕ → ℕ → ℕ → List ℕ
carried_of s from to = take 129 (drop from (take to s))

-- They are moved to the front, and the bytes behind them stay.
pub record Carried (s : List ℕ) (from to : ℕ) (s' : List ℕ) (n : ℕ) : Type 0 where
  pub bytes : s' ≡ carried_of s from to ++ drop n s
  pub many : n ≡ length (carried_of s from to)

-- The lines read from chunks, one after the other, with what was carried from those before.
unfoldable pub chunked : List ℕ → List (List ℕ) → List (Option Line)
chunked held [] = map read_line (ending held)
chunked held (c ∷ cs) =
    map read_line (ended (pieces 10 (held ++ c))) ++ chunked (take 129 (rest (pieces 10 (held ++ c)))) cs

-- The chunks as one input.
unfoldable pub joined : List (List ℕ) → List ℕ
joined [] = []
joined (c ∷ cs) = c ++ joined cs
