-- One position more is looked at in a turn, and none is left at the end.
use Rattle.std.proofs.Common.{arith, sym, ◌∙◌}
use Rattle.heap.proofs.SeatSteps.{soonest-on, soonest-end}
use Rattle.heap.proofs.seats.earliest_among.Goals as goal

pub loop-k-preserved : goal.loop-k-preserved
loop-k-preserved c =
    let at = c.loop-k.invariant in
    (omega arith, at.1 ∙ soonest-on _ _ _ _ _ _ _ (omega arith) c.look.ensures c.sooner-best.ensures)

pub returns : goal.returns
returns c = sym (c.loop-k.invariant.1 ∙ soonest-end _ _ _ _ _ (omega arith))
