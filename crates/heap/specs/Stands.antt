-- When a heap stands in lent words, and what of that holds while one position is a hole.
-- Assumes nothing.
use Rattle.std.specs.Prelude.{ℕ, ◌*◌, ◌/◌, ◌≤◌, ◌<◌, List, map, ◌≢◌, ◌≡◌, length, drop}
use Rattle.cells.specs.Lists.{All, times}
use Rattle.cells.specs.Words.{word}
use Rattle.meaning.specs.Entries.{Entry}
use Rattle.meaning.specs.Heap.{at}

-- The cells of a heap's entries, by position.
abbrev pub cells_of : List Entry → List ℕ
cells_of h = map (λ (e : Entry). e.cell) h

-- "positions 0 to n-1 are filled, each entry knows its position"
pub record Stands (w : List ℕ) (h : List Entry) : Type 0 where
  pub table : (p : ℕ) → p < length h → word w p 6 ≡ (at h p).cell
  pub place : (p : ℕ) → p < length h → word w (at h p).cell 5 ≡ p

-- The same but for position i, a hole: what is written of that position is no matter.
pub record StandsBut (i : ℕ) (w : List ℕ) (h : List Entry) : Type 0 where
  pub table : (p : ℕ) → p < length h → p ≢ i → word w p 6 ≡ (at h p).cell
  pub place : (p : ℕ) → p < length h → p ≢ i → word w (at h p).cell 5 ≡ p

-- An entry's cell holds its key and its order number.
pub record Ranks (w : List ℕ) (e : Entry) : Type 0 where
  pub order : word w e.cell 1 ≡ e.order
  pub key : word w e.cell 2 ≡ e.key

-- There is room for the positions, and each entry has a cell of its own.
pub record Apart (w : List ℕ) (h : List Entry) : Type 0 where
  pub room : length h ≤ length w / 8
  pub inside : All (λ (e : Entry). e.cell < length w / 8) h
  pub apart : (c : ℕ) → times c (cells_of h) ≤ 1

-- Only the table's first words, and the positions that entries of h know, are written anew.
pub record Reseated (h : List Entry) (w w' : List ℕ) : Type 0 where
  pub size : length w' ≡ length w
  pub tail : drop (length w / 8 * 8) w' ≡ drop (length w / 8 * 8) w
  pub fields : (c f : ℕ) → f ≢ 5 → f ≢ 6 → word w' c f ≡ word w c f
  pub table : (p : ℕ) → length h ≤ p → word w' p 6 ≡ word w p 6
  pub places : (c : ℕ) → times c (cells_of h) ≡ 0 → word w' c 5 ≡ word w c 5
