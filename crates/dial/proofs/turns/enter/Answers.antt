-- `dial::turns::enter` meets its contract. Assumes nothing.
use Rattle.dial.proofs.TurnSteps.{entered-is}
use Rattle.dial.proofs.turns.enter.Goals as goal

pub returns-clause-state : goal.returns-clause-state
returns-clause-state c =
    λ out. entered-is _ _ _ _ _ out _ _ c.requires.0 c.ends-e.ensures c.empty_slot.ensures.lists c.at_clock.ensures (c.walk.ensures.state out)
