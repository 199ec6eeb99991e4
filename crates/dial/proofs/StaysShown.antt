-- The clock goes on to a tick up to which no entry wakes: every list, and every word, is as it was.
-- Assumes nothing.
use Prim.Native.Nat.{ℕ, ◌^◌, ◌≤◌, ◌<◌}
use native.Mathlib.Omega.{arith}
use mathlib.Core.List.{List, map}
use mathlib.Core.Path.{◌≡◌, refl, sym, ap}
use lib.Dec.{eqb}
use Rattle.cells.proofs.Lists.{all_map, all_both}
use Rattle.cells.specs.Lists.{All}
use Rattle.cells.specs.declared.store.Store.{Store}
use Rattle.places.specs.Ticks.{place, last_tick}
use Rattle.places.proofs.Wakes.{wake-due, stands-still}
use Rattle.slots.specs.Rings.{Lists}
use Rattle.slots.proofs.Changing.{stand-same}
use Rattle.meaning.specs.Entries.{Entry}
use Rattle.meaning.specs.Plain.{Plain}
use Rattle.meaning.proofs.Stack.{cell_of}
use Rattle.dial.specs.Turns.{list_of}
use Rattle.dial.specs.Shows.{standing, cells_at, Shows}
use Rattle.dial.proofs.StableKept.{at_clock, valid-clock}
use Rattle.dial.proofs.Facts.{facts}
use Rattle.dial.proofs.Wakings.{wakes}
use Rattle.dial.proofs.Numbers.{number-stays}
use Rattle.dial.proofs.Passing.{passing-same}

-- Entries whose places are the same at two clocks stand in the same lists.
cells_stay :
    (a t : ℕ) (es : List Entry)
    → All (λ (e : Entry). place 64 6 t e.key ≡ place 64 6 a e.key) es
    → (i : ℕ)
    → cells_at a es i ≡ cells_at t es i
unfolding standing
cells_stay a t es stay i =
    ap (map cell_of)
    (passing-same (λ (e : Entry). eqb (list_of a e.key) i) (λ (e : Entry). eqb (list_of t e.key) i) es
    (all_map (λ e q. ap (λ (n : ℕ). eqb n i) (sym (number-stays a t e.key q))) es stay))

-- Up to a tick before the next wake tick only the clock changes.
pub stays-shows :
    (l : Lists) (t : ℕ) (store : Store) (m : Plain)
    → Shows l t store m
    → (target : ℕ)
    → m.clock ≤ target
    → target ≤ last_tick 64 6
    → All (λ (e : Entry). target < wakes 64 6 m.clock e) m.entries
    → Shows l target store (at_clock m target)
stays-shows l t store m s target forward last after =
    let known = facts m s.valid in
    let both : All (λ (e : Entry). (target < wakes 64 6 m.clock e) × (e.key < 64 ^ 6)) m.entries =
    all_both (λ (e : Entry). target < wakes 64 6 m.clock e) (λ (e : Entry). e.key < 64 ^ 6) m.entries after known.keys_below in
    record {
      clock = refl;
      cells = s.cells;
      counter = s.counter;
      size = s.size;
      free = s.free;
      blank = s.blank;
      entries = s.entries;
      lists =
          stand-same l (cells_at m.clock m.entries) (cells_at target m.entries)
          (λ i u.
          cells_stay m.clock target m.entries
          (all_map (λ e h. stands-still 64 6 m.clock target e.key known.clock_below h.1 forward h.0) m.entries both)
          i)
          s.lists;
      valid =
          valid-clock m target s.valid
          (all_map (λ e h. omega (arith, h.0, wake-due 64 6 m.clock e.key known.clock_below h.1)) m.entries both)
          last;
    }
