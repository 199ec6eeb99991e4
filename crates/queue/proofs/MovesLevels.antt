-- "Moves are at most the levels of the heap, taken before the call, or after it for put."
-- Assumes nothing.
use Prim.Native.Nat.{ℕ, ◌≤◌}
use native.Mathlib.Omega.{arith}
use mathlib.Core.Path.{◌≡◌, refl}
use lib.ListN.{length}
use Rattle.meaning.specs.Entries.{Entry, named}
use Rattle.meaning.specs.Plain.{refiled}
use Rattle.meaning.specs.Refusals.{Free, stale, empty}
use Rattle.meaning.specs.Calls.{Call, Put, First, Take, Rekey, Remove, Arm, Move, Cancel, Advance, NextWake, causes}
use Rattle.meaning.specs.Heap.{at, heap_moves, levels}
use Rattle.meaning.proofs.Allowed.{found}
use Rattle.meaning.proofs.Given.{given-either}
use Rattle.heap.proofs.Exchanges.{length-heap_put}
use Rattle.heap.proofs.Moves.{Differ}
use Rattle.heap.proofs.MovesBound.{put-moves-levels, rekey-moves-levels}
use Rattle.heap.proofs.RemoveMoves.{remove-moves-levels}
use Rattle.queue.specs.Model.{Model, as_plain, seat_of, Step, counting, keeping, accepted_by, step, step_moves}
use Rattle.queue.proofs.Meets.{filled}
use Rattle.queue.proofs.Refused.{refused-moves}
use Rattle.queue.proofs.Seats.{seat-holds}

module _ (m : Model) (some : 1 ≤ m.arity) (differ : Differ m.heap) where
  none_moves : (n : ℕ) → heap_moves m.heap m.heap ≤ n
  none_moves n = omega (arith, refused-moves m.heap)

  -- The levels after a put.
  pub put-levels : (key load : ℕ) → step_moves (Put key load) m ≤ levels m.arity (length (step (Put key load) m).next.heap)
  unfolding step_moves step accepted_by counting
  put-levels key load =
      given-either (λ (x : Step). heap_moves m.heap x.next.heap ≤ levels m.arity (length x.next.heap)) _ _
      (causes 64 6 (Put key load) (as_plain m))
      (λ i. none_moves _)
      (λ f. rw (length-heap_put m.arity _ m.heap) (put-moves-levels m.arity _ m.heap))

  -- A rekey keeps the ticket.
  ticket-stays : (key : ℕ) (e : Entry) → (refiled key (as_plain m) e).ticket ≡ e.ticket
  unfolding refiled
  ticket-stays key e = refl

  -- What a call that is not refused moves.
  accepted : (call : Call) → ((key load : ℕ) → call ≡ Put key load → ⊥) → Free (causes 64 6 call (as_plain m))
      → heap_moves m.heap (accepted_by call m).next.heap ≤ levels m.arity (length m.heap)
  unfolding accepted_by keeping counting causes empty stale as_plain
  accepted (Put key load) o f = absurd (o key load refl)
  accepted First o f = none_moves _
  accepted Take o f = remove-moves-levels m.arity some 0 m.heap (filled m.heap f.0) differ
  accepted (Rekey c k key) o f =
      let (e, q) = found (named c k m.heap) f.0 in
      let seat = seat-holds c k e m.heap q in
      let p : ℕ = seat_of c k m.heap in
      rekey-moves-levels m.arity some p (refiled key (as_plain m) (at m.heap p)) m.heap seat.0 (ticket-stays key (at m.heap p))
  accepted (Remove c k) o f =
      let (e, q) = found (named c k m.heap) f.0 in
      let seat = seat-holds c k e m.heap q in
      remove-moves-levels m.arity some _ m.heap seat.0 differ
  accepted (Arm e load) o f = none_moves _
  accepted (Move c k e) o f = none_moves _
  accepted (Cancel c k) o f = none_moves _
  accepted (Advance t n) o f = none_moves _
  accepted NextWake o f = none_moves _

  -- The levels before any other call.
  pub other-levels : (call : Call) → ((key load : ℕ) → call ≡ Put key load → ⊥) → step_moves call m ≤ levels m.arity (length m.heap)
  unfolding step_moves step
  other-levels call other =
      given-either (λ (x : Step). heap_moves m.heap x.next.heap ≤ levels m.arity (length m.heap)) _ _
      (causes 64 6 call (as_plain m))
      (λ i. none_moves _)
      (λ f. accepted call other f)
