-- What every list that a set-up and calls have left keeps to, whatever the calls were.
-- Assumes nothing.
use Rattle.std.specs.Prelude.{ℕ, ◌+◌, ◌≤◌, ◌<◌, cond, map, ◌≡◌, ltb}
use Rattle.cells.specs.Lists.{All, times}
use Rattle.places.specs.Ticks.{last_tick}
use Rattle.meaning.specs.Entries.{Entry, Ordered}
use Rattle.meaning.specs.Plain.{Plain}

-- "each entry has 1 <= ticket <= order number < counter"
pub record Numbered (counter : ℕ) (e : Entry) : Type 0 where
  pub some : 1 ≤ e.ticket
  pub rising : e.ticket ≤ e.order
  pub taken : e.order < counter

-- Of both engines.
pub record Kept (s : Plain) : Type 0 where
  -- "a plain list ordered by key or deadline, then by order number"
  pub ordered : Ordered s.entries
  -- Free cells and cells in use are together 0 to N - 1, once each.
  pub cells : (c : ℕ) → times c (map (λ (e : Entry). e.cell) s.entries) + times c s.free ≡ cond (ltb c s.cells) 1 0
  pub numbered : All (Numbered s.counter) s.entries
  -- "tickets differ from each other, and so do order numbers"
  pub tickets : (k : ℕ) → times k (map (λ (e : Entry). e.ticket) s.entries) ≤ 1
  pub orders : (k : ℕ) → times k (map (λ (e : Entry). e.order) s.entries) ≤ 1
  -- "the counter is at least 1", and it is a 64-bit number: it stops at the largest.
  pub counted : 1 ≤ s.counter
  pub counts : s.counter ≤ 18446744073709551615
  -- "N is 1 to 4,096"
  pub sized : 1 ≤ s.cells
  pub fits : s.cells ≤ 4096

-- "clock and deadlines are at most the last tick; no deadline is below the clock"
pub record Within (b n t : ℕ) (e : Entry) : Type 0 where
  pub late : t ≤ e.key
  pub last : e.key ≤ last_tick b n

-- Of the wheel.
pub record Timed (b n : ℕ) (s : Plain) : Type 0 where
  pub clock : s.clock ≤ last_tick b n
  pub deadlines : All (Within b n s.clock) s.entries
