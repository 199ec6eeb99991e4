-- "at most five for each timer since it was last armed or moved": a timer since then is known by its order number.
-- Assumes nothing.
use Rattle.std.specs.Prelude.{ℕ, zero, ◌+◌, cond, List, [], ◌∷◌, eqb}
use Rattle.cells.specs.Lists.{sum_of}
use Rattle.places.specs.Ticks.{moves}
use Rattle.meaning.specs.Entries.{Entry}
use Rattle.meaning.specs.Plain.{Plain}
use Rattle.meaning.specs.Calls.{Call, result}

-- What the entry with order number o adds to the moves from clock a to clock c.
unfoldable pub moves_of : ℕ → ℕ → ℕ → ℕ → ℕ → Entry → ℕ
moves_of b n o a c e = cond (eqb e.order o) (moves b n a c e.key) 0

-- Its moves over a run of calls, from the clock before each to the clock after it.
unfoldable pub moves_over : ℕ → ℕ → ℕ → List Call → Plain → ℕ
moves_over b n o [] s = zero
moves_over b n o (call ∷ calls) s =
    sum_of (moves_of b n o s.clock (result b n call s).next.clock) s.entries + moves_over b n o calls (result b n call s).next
