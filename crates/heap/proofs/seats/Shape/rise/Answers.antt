-- The entry passes the parent, or takes its seat.
use Rattle.std.proofs.Common.{arith, ◌∙◌}
use Rattle.heap.specs.Seats.{may_rise}
use Rattle.heap.proofs.SeatWalks.{rises-before, rise-on, rise-done}
use Rattle.heap.proofs.seats.Shape.rise.Goals as goal

pub loop-q-smaller : goal.loop-q-smaller
unfolding may_rise
loop-q-smaller c = rises-before _ _ _ _ _ _ c.in-Some.ensures.0 c.in-Some.ensures.1

pub loop-q-preserved : goal.loop-q-preserved
unfolding may_rise
loop-q-preserved c =
    let passed = c.in-Some.ensures in (
      omega (arith, loop-q-smaller c),
      c.loop-q.invariant.1 ∙ rise-on _ _ _ _ _ _ _ _ _ _ (omega arith) passed.0 passed.1 c.take_seat.ensures,
    )

pub returns : goal.returns
unfolding may_rise
returns c =
    let ends = rise-done _ _ _ _ _ _ _ _ _ c.loop-q.invariant.1 c.in_default.ensures c.take_seat-2.ensures in
    record { words = ends.0; steps = ends.1; few = omega arith }
