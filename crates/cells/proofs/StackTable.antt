-- Stacks of three cells, one that keeps the rule and each way to break it, as one computed statement.
-- Assumes nothing.
use Prim.Native.Nat.{ℕ}
use mathlib.Core.Bool.{Bool, true, ◌&&◌, not}
use mathlib.Core.List.{List, [], ◌∷◌, ◌++◌}
use mathlib.Core.Path.{◌≡◌, refl}
use Rattle.cells.specs.Lists.{sum_below}
use Rattle.cells.specs.Stack.{is_free, frees, stands, stands_as, walks, stack_test}
use Rattle.cells.specs.Words.{word}

-- A cell with its ticket and its link.
pub cell : ℕ → ℕ → List ℕ
cell t l = t ∷ 9 ∷ 9 ∷ 9 ∷ l ∷ 9 ∷ 9 ∷ 9 ∷ []

-- Whether three cells have a sound stack from the top.
pub three : ℕ → List ℕ → List ℕ → List ℕ → Bool
three top a b c = stack_test (a ++ (b ++ c)) 3 (λ (x : ℕ). true) top

pub table-ok :
    three 2 (cell 0 4096) (cell 7 0) (cell 0 0)  -- cell 2, then 0; cell 1 is in use
    && (three 4096 (cell 1 0) (cell 2 0) (cell 3 0)  -- none is free
    && (not (three 2 (cell 0 2) (cell 7 0) (cell 0 0))  -- a cycle
    && (not (three 2 (cell 0 4095) (cell 7 0) (cell 0 0))  -- another end mark
    && (not (three 2 (cell 0 4096) (cell 7 4096) (cell 0 1))  -- a cell in use
    && (not (three 2 (cell 0 4096) (cell 7 0) (cell 0 4096))  -- a free cell left out
    && not (three 3 (cell 0 4096) (cell 7 0) (cell 0 3)))))))  -- a cell past the third
    ≡ true
unfolding cell three stack_test walks stands_as stands frees sum_below is_free word
table-ok = refl
