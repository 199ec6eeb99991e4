-- Tables of cells by one of their words, in slots: 4,096, no cell, is an empty one.
-- Assumes nothing.
use Rattle.std.specs.Prelude.{ℕ, ◌+◌, ◌*◌, ◌/◌, ◌%◌, ◌≤◌, ◌<◌, true, cond, List, ◌≡◌, length, get_or, set}
use Rattle.cells.specs.Words.{word}
use Rattle.cells.specs.Rules.{in_use, Differ}
use Rattle.cells.specs.Stack.{no_cell}
use Rattle.audits.specs.declared.table.Layout.{Layout}

-- A number spread over 31 bits, by the golden ratio, and then scattered by the product of its halves.
unfoldable pub evenly : ℕ → ℕ
evenly key = (key % 4294967296 + key / 4294967296) * 1327217885 % 2147483648

unfoldable pub scattered : ℕ → ℕ
scattered spread = spread % 65536 * (spread / 65536 % 32768 + 40503) * 1327217885 % 2147483648

-- The slot at which a look for a word begins. That it is one and the same for equal words is all that the proofs know of it.
unfoldable pub spread_of : Layout → ℕ → ℕ
spread_of k key = cond k.scattered (scattered (evenly key)) (evenly key)

unfoldable pub start_of : Layout → ℕ → ℕ
start_of k key = cond k.small (spread_of k key / 2097152) (spread_of k key / 262144)

-- No slot from i to j is empty.
abbrev pub Filled : List ℕ → ℕ → ℕ → Type 0
Filled t i j = (s : ℕ) → i ≤ s → s < j → get_or t s 0 ≡ no_cell → ⊥

-- What a look for a word has passed from slot i to slot j: no empty slot, and no cell with this word.
pub record Passed (w : List ℕ) (f key : ℕ) (t : List ℕ) (i j : ℕ) : Type 0 where
  pub filled : Filled t i j
  pub other : (s : ℕ) → i ≤ s → s < j → word w (get_or t s 0) f ≡ key → ⊥

-- Cell c is put into the first empty slot from slot i on, and no cell with this word stands before it.
pub record Lands (w : List ℕ) (f c key i : ℕ) (t t' : List ℕ) : Type 0 where
  pub slot : ℕ
  pub from : i ≤ slot
  pub inside : slot < length t
  pub empty : get_or t slot 0 ≡ no_cell
  pub passed : Passed w f key t i slot
  pub put : t' ≡ set t slot c

-- Cell d stands in a slot, and no slot from its word's start to there is empty.
pub record Sits (w : List ℕ) (f : ℕ) (k : Layout) (t : List ℕ) (d : ℕ) : Type 0 where
  pub slot : ℕ
  pub begin : start_of k (word w d f) ≤ slot
  pub here : get_or t slot 0 ≡ d
  pub filled : Filled t (start_of k (word w d f)) slot

-- The cells in use below c stand in the table, and their words differ.
pub record Table (w : List ℕ) (f : ℕ) (k : Layout) (c : ℕ) (t : List ℕ) : Type 0 where
  pub sits : (d : ℕ) → d < c → in_use w d ≡ true → Sits w f k t d
  pub differ : Differ w c f

-- A look from slot i on: where steps are left of those given, the cell is put in.
pub record Looks (w : List ℕ) (f c key i : ℕ) (t : List ℕ) (given left : ℕ) (t' : List ℕ) : Type 0 where
  pub fewer : left ≤ given
  pub lands : 1 ≤ left → Lands w f c key i t t'

-- Where steps are left, the table holds one cell more.
pub record Enters (w : List ℕ) (f : ℕ) (k : Layout) (c : ℕ) (t : List ℕ) (given left : ℕ) (t' : List ℕ) : Type 0 where
  pub fewer : left ≤ given
  pub step : 1 ≤ left → Table w f k c t → Table w f k (c + 1) t'

-- Where steps are left, the table of tickets and that of order numbers hold one cell more.
pub record EntersBoth (w : List ℕ) (k : Layout) (c : ℕ) (t u : List ℕ) (given left : ℕ) (t' u' : List ℕ) : Type 0 where
  pub fewer : left ≤ given
  pub tickets : 1 ≤ left → Table w 0 k c t → Table w 0 k (c + 1) t'
  pub orders : 1 ≤ left → Table w 1 k c u → Table w 1 k (c + 1) u'
