-- `dial::turns::onward` meets its contract: no slot is marked, or its wake tick is later, or it is entered. Assumes nothing.
use Rattle.slots.proofs.Standing.{found-some, found-none}
use Rattle.dial.proofs.TurnSteps.{onward-none, onward-later, onward-enters}
use Rattle.dial.proofs.turns.onward.Goals as goal
use Rattle.dial.proofs.turns.onward.Goals.{in-Some+else-tick-target, in_default}

pub enter-requires : goal.enter-requires
enter-requires c = ((found-some _ _ c.in-Some.ensures).1, c.requires)

pub returns-then-tick-target-clause-ended : goal.returns-then-tick-target-clause-ended
returns-then-tick-target-clause-ended c =
    let found = found-some _ _ c.in-Some.ensures in
    λ out. onward-enters _ _ _ _ _ out _ _ found.0 found.1 c.wake_tick-tick.ensures c.if-tick-target.true (c.enter.ensures.state out)

pub returns-clause-ended : goal.returns-clause-ended
returns-clause-ended c =
    λ out.
    elim c.match-first_marked.branch [
      | in-Some+else-tick-target w ↦
          let found = found-some _ _ w.in-Some.ensures in
          onward-later _ _ _ _ _ out _ c.at_clock.ensures found.0 found.1 w.wake_tick-tick.ensures w.if-tick-target.false
      | in_default w ↦ onward-none _ _ _ _ _ out _ c.at_clock.ensures (found-none _ w.in_default.ensures)
    ]
