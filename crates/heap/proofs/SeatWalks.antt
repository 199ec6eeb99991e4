-- The walks over lent words by cases: one law for each way out of a function or turn of a loop, from what its calls answer.
-- Assumes nothing.
use Prim.Native.Nat.{ℕ, zero, suc, ◌+◌, ◌*◌, ◌-◌, ◌≤◌, ◌<◌}
use native.Mathlib.Numerals.{add-one}
use native.Mathlib.Omega.{arith}
use mathlib.Core.Bool.{true, false}
use mathlib.Core.List.{List}
use mathlib.Core.Path.{◌≡◌, refl, sym, ap, ◌∙◌}
use lib.Dec.{ltb}
use borrow.Author.Tests.{ltb-true, le-ltb}
use Rattle.cells.proofs.Cases.{test, and-true}
use Rattle.meaning.specs.Heap.{parent}
use Rattle.heap.proofs.Permutes.{parent-at_most}
use Rattle.heap.proofs.Positions.{first-behind}
use Rattle.heap.proofs.SeatSteps.{seat-position, child-within}
use Rattle.heap.specs.declared.seats.Seat.{Seat}
use Rattle.heap.specs.Seats.{seated, seat_at, first_child, Walk, may_rise, rise_walk, may_sink, sink_walk}

-- Equal walks have equal parts.
pub same-walk : {a b : Walk} {l : List ℕ} {s : ℕ} → a ≡ b → l ≡ a.words → s ≡ a.steps → (l ≡ b.words) × (s ≡ b.steps)
same-walk e p q = (p ∙ ap (λ (x : Walk). x.words) e, q ∙ ap (λ (x : Walk). x.steps) e)

-- Whether an entry rises from p.
module _ (d key order : ℕ) where
  pub may-rise-top : (p : ℕ) (w : List ℕ) → p ≡ 0 → may_rise d key order p w ≡ false
  unfolding may_rise
  may-rise-top p w z = rw (le-ltb 0 p (omega arith))

  may-rise-below : (p : ℕ) (w : List ℕ) → may_rise d key order p w ≡ true → 0 < p
  unfolding may_rise
  may-rise-below p w e = ltb-true _ _ (and-true (ltb 0 p) _ e).0

  -- The parent's position is before that of an entry that rises.
  pub rises-before : (p : ℕ) (w : List ℕ) (q : Seat) → may_rise d key order p w ≡ true → q ≡ seat_at w (parent d p) → q.position < p
  rises-before p w q e f = omega (arith, seat-position w (parent d p) q f, parent-at_most d p, may-rise-below p w e)

-- A rise from the hole at p.
module _ (d key order c : ℕ) where
  pub rise-stays : (k p s : ℕ) (w : List ℕ) → may_rise d key order p w ≡ false
      → rise_walk d key order c k p s w ≡ record { words = seated w p c; steps = s }
  unfolding rise_walk
  rise-stays zero p s w e = refl
  rise-stays (suc k) p s w e = rw e

  -- Two bounds of the position at least give one rise.
  pub rise-fuel : (j k p s : ℕ) (w : List ℕ) → p ≤ j → p ≤ k → rise_walk d key order c j p s w ≡ rise_walk d key order c k p s w
  unfolding rise_walk
  rise-fuel zero k p s w a b = sym (rise-stays k p s w (may-rise-top d key order p w (omega arith)))
  rise-fuel (suc j) zero p s w a b = rise-stays (suc j) p s w (may-rise-top d key order p w (omega arith))
  rise-fuel (suc j) (suc k) p s w a b =
      let q : ℕ = parent d p in
      let up : q ≤ p - 1 = parent-at_most d p in
      test (may_rise d key order p w)
      (λ e. rw e (rise-fuel j k q (suc s) (seated w p (seat_at w q).cell) (omega arith) (omega arith)))
      (λ e. rw e)

  -- One step up, with the bound as it was.
  pub rise-step : (k p s : ℕ) (w : List ℕ) → 0 < p → p ≤ k → may_rise d key order p w ≡ true
      → rise_walk d key order c k p s w ≡ rise_walk d key order c k (parent d p) (s + 1) (seated w p (seat_at w (parent d p)).cell)
  unfolding rise_walk
  rise-step zero p s w z b e = absurd (omega arith)
  rise-step (suc k) p s w z b e =
      let q : ℕ = parent d p in
      let up : q ≤ p - 1 = parent-at_most d p in
      rw (e, add-one s) (rise-fuel k (suc k) q (suc s) (seated w p (seat_at w q).cell) (omega arith) (omega arith))

  -- The same from what the loop's calls answer.
  pub rise-on : (k p s : ℕ) (w w' : List ℕ) (q : Seat) → p ≤ k → may_rise d key order p w ≡ true → q ≡ seat_at w (parent d p)
      → w' ≡ seated w p q.cell
      → rise_walk d key order c k p s w ≡ rise_walk d key order c k q.position (s + 1) w'
  unfolding seat_at
  rise-on k p s w w' q b e f g = rise-step k p s w (may-rise-below d key order p w e) b e ∙ rw (g, f)

  -- The carried cell takes its seat, and the walk a that is left ends.
  pub rise-done : (k p s : ℕ) (w w' : List ℕ) {a : Walk} → a ≡ rise_walk d key order c k p s w → may_rise d key order p w ≡ false → w' ≡ seated w p c
      → (w' ≡ a.words) × (s ≡ a.steps)
  rise-done k p s w w' i e g = same-walk (sym (i ∙ rise-stays k p s w e)) g refl

-- Where the earliest child of p stands.
module _ (d n : ℕ) (some : 1 ≤ d) where
  -- Behind p, and in the heap.
  pub child-behind : (p : ℕ) (w : List ℕ) (q : Seat) → d * p + 1 < n → q ≡ first_child d n w (d * p + 1) → (p < q.position) × (q.position < n)
  child-behind p w q h e =
      let within = child-within d n w (d * p + 1) some h in
      rw e (omega (arith, first-behind d some p), within.1)

-- Whether an entry sinks from p.
module _ (d n key order : ℕ) where
  pub may-sink-out : (p : ℕ) (w : List ℕ) → n ≤ d * p + 1 → may_sink d n key order p w ≡ false
  unfolding may_sink
  may-sink-out p w h = rw (le-ltb (d * p + 1) n h)

  may-sink-in : (p : ℕ) (w : List ℕ) → may_sink d n key order p w ≡ true → d * p + 1 < n
  unfolding may_sink
  may-sink-in p w e = ltb-true _ _ (and-true (ltb (d * p + 1) n) _ e).0

  -- The child to which an entry sinks stands behind, and in the heap.
  pub sinks-behind : 1 ≤ d → (p : ℕ) (w : List ℕ) (q : Seat) → may_sink d n key order p w ≡ true → q ≡ first_child d n w (d * p + 1)
      → (p < q.position) × (q.position < n)
  sinks-behind some p w q e f = child-behind d n some p w q (may-sink-in p w e) f

-- A sink from the hole at p of a heap of n.
module _ (d n key order c : ℕ) where
  pub sink-stays : (k p s : ℕ) (w : List ℕ) → may_sink d n key order p w ≡ false
      → sink_walk d n key order c k p s w ≡ record { words = seated w p c; steps = s }
  unfolding sink_walk
  sink-stays zero p s w e = refl
  sink-stays (suc k) p s w e = rw e

  -- The carried cell takes its seat, and the walk a that is left ends.
  pub sink-done : (k p s : ℕ) (w w' : List ℕ) {a : Walk} → a ≡ sink_walk d n key order c k p s w → may_sink d n key order p w ≡ false → w' ≡ seated w p c
      → (w' ≡ a.words) × (s ≡ a.steps)
  sink-done k p s w w' i e g = same-walk (sym (i ∙ sink-stays k p s w e)) g refl

-- Its steps, where the children stand behind.
module _ (d n : ℕ) (some : 1 ≤ d) (key order c : ℕ) where
  -- Two bounds that reach behind the heap give one sink.
  pub sink-fuel : (j k p s : ℕ) (w : List ℕ) → n ≤ p + j → n ≤ p + k
      → sink_walk d n key order c j p s w ≡ sink_walk d n key order c k p s w
  unfolding sink_walk
  sink-fuel zero k p s w a b = sym (sink-stays d n key order c k p s w (may-sink-out d n key order p w (omega (arith, first-behind d some p))))
  sink-fuel (suc j) zero p s w a b = sink-stays d n key order c (suc j) p s w (may-sink-out d n key order p w (omega (arith, first-behind d some p)))
  sink-fuel (suc j) (suc k) p s w a b =
      let q : Seat = first_child d n w (d * p + 1) in
      test (may_sink d n key order p w)
      (λ e.
      let down = child-behind d n some p w q (may-sink-in d n key order p w e) refl in
      rw e (sink-fuel j k q.position (suc s) (seated w p q.cell) (omega arith) (omega arith)))
      (λ e. rw e)

  -- One step down, with the bound as it was.
  pub sink-step : (k p s : ℕ) (w : List ℕ) → n ≤ k → may_sink d n key order p w ≡ true
      → sink_walk d n key order c k p s w
      ≡ sink_walk d n key order c k (first_child d n w (d * p + 1)).position (s + 1) (seated w p (first_child d n w (d * p + 1)).cell)
  unfolding sink_walk
  sink-step zero p s w b e = absurd (omega (arith, may-sink-in d n key order p w e))
  sink-step (suc k) p s w b e =
      let q : Seat = first_child d n w (d * p + 1) in
      let down = child-behind d n some p w q (may-sink-in d n key order p w e) refl in
      rw (e, add-one s) (sink-fuel k (suc k) q.position (suc s) (seated w p q.cell) (omega arith) (omega arith))

  -- The same from what the loop's calls answer.
  pub sink-on : (k p s : ℕ) (w w' : List ℕ) (q : Seat) → n ≤ k → may_sink d n key order p w ≡ true → q ≡ first_child d n w (d * p + 1)
      → w' ≡ seated w p q.cell
      → sink_walk d n key order c k p s w ≡ sink_walk d n key order c k q.position (s + 1) w'
  sink-on k p s w w' q b e f g = sink-step k p s w b e ∙ rw (g, f)
