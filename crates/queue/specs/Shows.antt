-- When head and words are a model: every word of every cell.
-- Assumes nothing.
use Rattle.std.specs.Prelude.{ℕ, ◌/◌, ◌≤◌, List, ◌≢◌, ◌≡◌, length}
use Rattle.cells.specs.Lists.{All, times}
use Rattle.cells.specs.Words.{word}
use Rattle.cells.specs.Stack.{Chain, link}
use Rattle.meaning.specs.Entries.{Entry}
use Rattle.meaning.specs.Plain.{Plain}
use Rattle.meaning.specs.Kept.{Kept}
use Rattle.heap.specs.Stands.{Stands}
use Rattle.queue.specs.Model.{Model}
use Rattle.queue.specs.Means.{Means}
use Rattle.queue.specs.declared.head.Head.{Head}

-- The model means a plain list that keeps to the rules.
pub record Valid (m : Model) : Type 0 where
  pub list : Plain
  pub means : Means m list
  pub kept : Kept list

-- An entry's cell holds the entry; "unused words .. are zero".
pub record Carried (w : List ℕ) (e : Entry) : Type 0 where
  pub ticket : word w e.cell 0 ≡ e.ticket
  pub order : word w e.cell 1 ≡ e.order
  pub key : word w e.cell 2 ≡ e.key
  pub load : word w e.cell 3 ≡ e.load
  pub unlinked : word w e.cell 4 ≡ 0
  pub unused : word w e.cell 7 ≡ 0

pub record Shows (h : Head) (w : List ℕ) (m : Model) : Type 0 where
  pub arity : h.arity ≡ m.arity
  pub count : h.count ≡ length m.heap
  pub cells : h.store.cells ≡ m.cells
  pub counter : h.store.counter ≡ m.counter
  -- "With L words there are N = floor(L/8) cells"
  pub size : m.cells ≡ length w / 8
  -- "Free cells form a stack."
  pub free : Chain (link w) h.store.free m.free
  -- "the words of a free cell other than its link, are zero", but for the position table's
  pub blank : (c f : ℕ) → 1 ≤ times c m.free → f ≢ 4 → f ≢ 6 → word w c f ≡ 0
  pub entries : All (Carried w) m.heap
  -- "positions 0 to n-1 are filled, each entry knows its position"
  pub seats : Stands w m.heap
  -- "from position n up it is zero"
  pub beyond : (p : ℕ) → length m.heap ≤ p → word w p 6 ≡ 0
  pub valid : Valid m
