-- The entry passes the earliest child, or takes its seat.
use Rattle.std.proofs.Common.{arith, ◌∙◌}
use Rattle.heap.proofs.SeatWalks.{sinks-behind, sink-on, sink-done}
use Rattle.heap.proofs.seats.Shape.sink.Goals as goal

pub loop-q-smaller : goal.loop-q-smaller
loop-q-smaller c =
    let passed = c.in-Some.ensures in
    omega (arith, sinks-behind _ _ _ _ (omega arith) _ _ _ passed.0 passed.1)

pub loop-q-preserved : goal.loop-q-preserved
loop-q-preserved c =
    let passed = c.in-Some.ensures in
    let behind = sinks-behind _ _ _ _ (omega arith) _ _ _ passed.0 passed.1 in (
      behind.1,
      omega arith,
      c.loop-q.invariant.2 ∙ sink-on _ _ (omega arith) _ _ _ _ _ _ _ _ _ (omega arith) passed.0 passed.1 c.take_seat.ensures,
    )

pub returns : goal.returns
returns c =
    let ends = sink-done _ _ _ _ _ _ _ _ _ _ c.loop-q.invariant.2 c.in_default.ensures c.take_seat-2.ensures in
    record { words = ends.0; steps = ends.1; few = omega arith }
