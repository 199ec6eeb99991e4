-- When lists, clock and store are a model: every word of every cell.
-- Assumes nothing.
use Rattle.std.specs.Prelude.{ℕ, ◌/◌, ◌≤◌, Bool, cond, List, [], ◌∷◌, map, ◌≢◌, ◌≡◌, eqb, length}
use Rattle.cells.specs.Lists.{All, times}
use Rattle.cells.specs.Words.{word}
use Rattle.cells.specs.Stack.{Chain, link}
use Rattle.cells.specs.declared.store.Store.{Store}
use Rattle.slots.specs.Rings.{Lists}
use Rattle.slots.specs.Stand.{Stand}
use Rattle.meaning.specs.Entries.{Entry}
use Rattle.meaning.specs.Plain.{Plain}
use Rattle.dial.specs.Joined.{Valid}
use Rattle.dial.specs.Turns.{list_of}

-- The entries that pass a test, in their order.
unfoldable pub passing : (Entry → Bool) → List Entry → List Entry
passing test [] = []
passing test (e ∷ es) = cond (test e) (e ∷ passing test es) (passing test es)

-- "each entry stands once in the list of its place": the entries of list i at clock t.
unfoldable pub standing : ℕ → ℕ → List Entry → List Entry
standing t i es = passing (λ (e : Entry). eqb (list_of t e.key) i) es

-- Their cells.
abbrev pub cells_at : ℕ → List Entry → ℕ → List ℕ
cells_at t es i = map (λ (e : Entry). e.cell) (standing t i es)

-- An entry's cell holds the entry; "unused words .. are zero".
pub record Carried (w : List ℕ) (e : Entry) : Type 0 where
  pub ticket : word w e.cell 0 ≡ e.ticket
  pub order : word w e.cell 1 ≡ e.order
  pub deadline : word w e.cell 2 ≡ e.key
  pub load : word w e.cell 3 ≡ e.load
  pub unowned : word w e.cell 6 ≡ 0
  pub unused : word w e.cell 7 ≡ 0

pub record Shows (l : Lists) (t : ℕ) (store : Store) (m : Plain) : Type 0 where
  pub clock : t ≡ m.clock
  pub cells : store.cells ≡ m.cells
  pub counter : store.counter ≡ m.counter
  -- "With L words there are N = floor(L/8) cells"
  pub size : m.cells ≡ length l.words / 8
  -- "Free cells form a stack."
  pub free : Chain (link l.words) store.free m.free
  -- "the words of a free cell other than its link, are zero"
  pub blank : (c f : ℕ) → 1 ≤ times c m.free → f ≢ 4 → word l.words c f ≡ 0
  pub entries : All (Carried l.words) m.entries
  -- "each entry stands once in the list of its place and in no other, linked both ways; a slot is marked occupied exactly if its list isn't empty"
  pub lists : Stand l (cells_at m.clock m.entries)
  pub valid : Valid m
