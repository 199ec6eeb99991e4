-- When a model of a ready queue means a plain list.
-- Assumes nothing.
use Rattle.std.specs.Prelude.{◌≤◌, ◌≡◌}
use Rattle.meaning.specs.Arranged.{SameEntries}
use Rattle.meaning.specs.Plain.{Plain}
use Rattle.meaning.specs.Calls.{Call, Put, First, Take, Rekey, Remove, Arm, Move, Cancel, Advance, NextWake}
use Rattle.heap.specs.HeapOrder.{InOrder}
use Rattle.queue.specs.Model.{Model}

-- The same entries, in the heap's order here and in the plain list's there; counter, N and free stack are the same.
pub record Means (m : Model) (s : Plain) : Type 0 where
  -- "arity 2 to 8"
  pub some : 2 ≤ m.arity
  pub most : m.arity ≤ 8
  -- "none is before its parent"
  pub ordered : InOrder m.arity m.heap
  pub entries : SameEntries m.heap s.entries
  pub counter : m.counter ≡ s.counter
  pub cells : m.cells ≡ s.cells
  pub free : m.free ≡ s.free

-- The ready queue's calls.
abbrev pub OfQueue : Call → Type 0
OfQueue (Put key load) = Unit {0}
OfQueue First = Unit {0}
OfQueue Take = Unit {0}
OfQueue (Rekey c k key) = Unit {0}
OfQueue (Remove c k) = Unit {0}
OfQueue (Arm e load) = ⊥
OfQueue (Move c k e) = ⊥
OfQueue (Cancel c k) = ⊥
OfQueue (Advance t r) = ⊥
OfQueue NextWake = ⊥
