-- When a heap is in order, over the arity d, and what of that holds while an entry looks for its place.
-- Assumes nothing.
use Rattle.std.specs.Prelude.{ℕ, ◌<◌, false, List, ◌≢◌, ◌≡◌, length}
use Rattle.meaning.specs.Entries.{Entry, before}
use Rattle.meaning.specs.Heap.{at, parent}

-- "None is before its parent."
pub record InOrder (d : ℕ) (h : List Entry) : Type 0 where
  pub behind : (p : ℕ) → 0 < p → p < length h → before (at h p) (at h (parent d p)) ≡ false

-- In order except at position i, and i's children are not before i's parent.
pub record InOrderBut (d : ℕ) (h : List Entry) (i : ℕ) : Type 0 where
  pub away : (p : ℕ) → 0 < p → p < length h → p ≢ i → parent d p ≢ i → before (at h p) (at h (parent d p)) ≡ false
  pub across : (p : ℕ) → 0 < p → p < length h → 0 < i → parent d p ≡ i → before (at h p) (at h (parent d i)) ≡ false

-- In order except that the entry at i may be before its parent: what a rise keeps.
pub record MayRise (d : ℕ) (h : List Entry) (i : ℕ) : Type 0 where
  pub but : InOrderBut d h i
  pub below : (p : ℕ) → 0 < p → p < length h → parent d p ≡ i → before (at h p) (at h i) ≡ false

-- In order except that children of i may be before it: what a sink keeps.
pub record MaySink (d : ℕ) (h : List Entry) (i : ℕ) : Type 0 where
  pub but : InOrderBut d h i
  pub above : 0 < i → before (at h i) (at h (parent d i)) ≡ false
