-- The part of the audit that every engine shares, from document 01: each of its rules by itself.
-- Assumes nothing.
use Rattle.std.specs.Prelude.{ℕ, ◌/◌, ◌%◌, ◌^◌, ◌≤◌, ◌<◌, Bool, true, cond, not, List, ◌≡◌, eqb, length}
use Rattle.cells.specs.Words.{word}
use Rattle.cells.specs.Stack.{is_free, StackRule}
use Rattle.cells.specs.declared.store.Store.{Store}

-- "each cell is free or in use"
unfoldable pub in_use : List ℕ → ℕ → Bool
unfolding is_free
in_use w c = not (is_free w c)

-- A mask names fields: field f where its binary digit f is 1.
unfoldable pub in_mask : ℕ → ℕ → Bool
in_mask m f = eqb (m / 2 ^ f % 2) 1

-- The rules of one cell. An engine leaves the fields of `used` unused in a cell in use, those of `free` in a free one.
pub record CellRule (w : List ℕ) (counter used free c : ℕ) : Type 0 where
  pub ticket : in_use w c ≡ true → word w c 0 ≤ word w c 1
  pub order : in_use w c ≡ true → word w c 1 < counter
  pub blank : (f : ℕ) → f < 8 → in_mask (cond (in_use w c) used free) f ≡ true → word w c f ≡ 0

-- "tickets differ from each other, and so do order numbers": of field f, over the cells in use below n.
abbrev pub Differ : List ℕ → ℕ → ℕ → Type 0
Differ w n f =
    (c d : ℕ) → c < n → d < n → in_use w c ≡ true → in_use w d ≡ true → word w c f ≡ word w d f → c ≡ d

-- "The audit says yes exactly if all of these hold", as far as every engine shares them.
pub record Sound (w : List ℕ) (s : Store) (used free : ℕ) : Type 0 where
  -- "N is floor(L/8), 1 to 4,096"
  pub size : s.cells ≡ length w / 8
  pub some : 1 ≤ s.cells
  pub most : s.cells ≤ 4096
  -- "the counter is at least 1"
  pub counted : 1 ≤ s.counter
  -- "unused words are zero; each entry has 1 <= ticket <= order number < counter"
  pub cell : (c : ℕ) → c < s.cells → CellRule w s.counter used free c
  -- "the free ones stand once each in the free stack and nothing else does"
  pub stack : StackRule w s.cells s.free
  -- "tickets differ from each other, and so do order numbers"
  pub tickets : Differ w s.cells 0
  pub orders : Differ w s.cells 1
