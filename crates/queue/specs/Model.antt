-- What audited memory of a ready queue is, and what each call makes of it: the heap's entries by position, and the rest as on the plain list.
-- Assumes nothing.
use Rattle.std.specs.Prelude.{ℕ, zero, suc, cond}
use mathlib.Core.List.{List, [], ◌∷◌, tail}
use Rattle.meaning.specs.Entries.{Entry, names}
use Rattle.meaning.specs.Plain.{Plain, up_from, top, filed, refiled}
use Rattle.meaning.specs.Refusals.{first_of}
use Rattle.meaning.specs.Calls.{
  Call,
  Put,
  First,
  Take,
  Rekey,
  Remove,
  Arm,
  Move,
  Cancel,
  Advance,
  NextWake,
  Answer,
  Refused,
  Handle,
  Changed,
  Load,
  Shows,
  shown,
  causes,
}
use Rattle.meaning.specs.Heap.{at, heap_put, heap_remove, heap_rekey, heap_moves}

pub record Model : Type 0 where
  pub arity : ℕ
  pub heap : List Entry
  pub counter : ℕ
  pub cells : ℕ
  pub free : List ℕ

-- The same with its entries as they stand in the heap: what the causes of a refusal look at is no matter of order.
unfoldable pub as_plain : Model → Plain
as_plain m = record { entries = m.heap; clock = 0; counter = m.counter; cells = m.cells; free = m.free }

-- "each entry knows its position": the position of the entry that a handle names.
unfoldable pub seat_of : ℕ → ℕ → List Entry → ℕ
seat_of c k [] = zero
seat_of c k (e ∷ es) = cond (names c k e) zero (suc (seat_of c k es))

-- A model with another heap and free stack; with a number taken from the counter, or not.
unfoldable pub keeping : Model → List Entry → List ℕ → Model
keeping m heap free = record { arity = m.arity; heap = heap; counter = m.counter; cells = m.cells; free = free }

unfoldable pub counting : Model → List Entry → List ℕ → Model
counting m heap free = record { arity = m.arity; heap = heap; counter = suc m.counter; cells = m.cells; free = free }

-- What a call answers, and the model afterwards.
pub record Step : Type 0 where
  pub answer : Answer
  pub next : Model

-- What a call does where no cause refuses it. A wheel's call does nothing here.
unfoldable pub accepted_by : Call → Model → Step
accepted_by (Put key load) m =
    record {
      answer = Handle (top m.free) m.counter;
      next = counting m (heap_put m.arity (filed key load (as_plain m)) m.heap) (tail m.free);
    }
accepted_by First m = record { answer = Shows (shown (at m.heap 0)); next = m }
accepted_by Take m =
    record {
      answer = Shows (shown (at m.heap 0));
      next = keeping m (heap_remove m.arity 0 m.heap) ((at m.heap 0).cell ∷ m.free);
    }
accepted_by (Rekey c k key) m =
    let p = seat_of c k m.heap in
    record {
      answer = Changed;
      next = counting m (heap_rekey m.arity p (refiled key (as_plain m) (at m.heap p)) m.heap) m.free;
    }
accepted_by (Remove c k) m =
    let p = seat_of c k m.heap in
    record {
      answer = Load (at m.heap p).load;
      next = keeping m (heap_remove m.arity p m.heap) (c ∷ m.free);
    }
accepted_by (Arm e load) m = record { answer = Refused 0; next = m }
accepted_by (Move c k e) m = record { answer = Refused 0; next = m }
accepted_by (Cancel c k) m = record { answer = Refused 0; next = m }
accepted_by (Advance t r) m = record { answer = Refused 0; next = m }
accepted_by NextWake m = record { answer = Refused 0; next = m }

-- "The first that applies .. is given", and then nothing changes.
unfoldable pub step : Call → Model → Step
step call m = first_of (causes 64 6 call (as_plain m)) (λ i. record { answer = Refused i; next = m }) (accepted_by call m)

-- "Moves reported are the number of entries present both before and after the call that stand at another position."
unfoldable pub step_moves : Call → Model → ℕ
step_moves call m = heap_moves m.heap (step call m).next.heap

-- "A counter starts at 1." "After set-up cell 0 is on top, then 1, and so on."
unfoldable pub fresh_model : ℕ → ℕ → Model
fresh_model d cells = record { arity = d; heap = []; counter = 1; cells = cells; free = up_from 0 cells }

-- The answers of calls, each on the model that the call before left.
unfoldable pub step_answers : List Call → Model → List Answer
step_answers [] m = []
step_answers (call ∷ calls) m = (step call m).answer ∷ step_answers calls (step call m).next
