-- The free stack: the cells that are in no use, each linked to the next.
-- Assumes nothing.
use Rattle.std.specs.Prelude.{ℕ, zero, suc, Bool, cond, ◌&&◌, List, [], ◌∷◌, ◌≡◌, ltb, eqb}
use Rattle.cells.specs.Lists.{times, sum_below}
use Rattle.cells.specs.Words.{word}

-- The link that ends a list: one above the largest cell number.
abbrev pub no_cell : ℕ
no_cell = 4096

-- Following the links from a gives these cells, and then no cell.
abbrev pub Chain : (ℕ → ℕ) → ℕ → List ℕ → Type 0
Chain next a [] = a ≡ no_cell
Chain next a (c ∷ cs) = (a ≡ c) × Chain next (next c) cs

-- A cell is free exactly if its ticket is 0.
unfoldable pub is_free : List ℕ → ℕ → Bool
is_free w c = eqb (word w c 0) 0

-- The free cell below a free cell.
abbrev pub link : List ℕ → ℕ → ℕ
link w c = word w c 4

-- How many of the first n cells are free.
unfoldable pub frees : List ℕ → ℕ → ℕ
frees w n = sum_below (λ (c : ℕ). cond (is_free w c) 1 0) n

-- The cell is one of the first n, and free.
unfoldable pub stands : List ℕ → ℕ → ℕ → Bool
stands w n c = ltb c n && is_free w c

-- From c it is k links to no cell, each of a cell that passes a test.
unfoldable pub walks : List ℕ → (ℕ → Bool) → ℕ → ℕ → Bool
walks w ok c zero = eqb c no_cell
walks w ok c (suc k) = ok c && walks w ok (link w c) k

-- "the free ones stand once each in the free stack and nothing else does"
pub record StackRule (w : List ℕ) (n top : ℕ) : Type 0 where
  pub cells : List ℕ
  pub linked : Chain (link w) top cells
  pub once : (c : ℕ) → times c cells ≡ cond (ltb c n && is_free w c) 1 0

-- The cell may stand in the stack, and passes a further test.
unfoldable pub stands_as : List ℕ → ℕ → (ℕ → Bool) → ℕ → Bool
stands_as w n also c = stands w n c && also c

-- The rule as it is tested, of free cells that pass a further test: from the top it is as many links to no cell as there are free cells.
unfoldable pub stack_test : List ℕ → ℕ → (ℕ → Bool) → ℕ → Bool
stack_test w n also top = walks w (stands_as w n also) top (frees w n)
