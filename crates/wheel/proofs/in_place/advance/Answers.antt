-- `wheel::in_place::advance` meets its contract: a target above the last tick, one below the clock, or the turns run and their end is told.
use Rattle.std.proofs.Common.{rules}
use Rattle.wheel.proofs.AdvanceShown.{advance-beyond, advance-behind, advance-promised}
use Rattle.wheel.proofs.in_place.advance.Goals as goal

pub returns-then-target-gt68719476735-clause-promise : goal.returns-then-target-gt68719476735-clause-promise
returns-then-target-gt68719476735-clause-promise c = advance-beyond _ _ _ _ c.if-target-gt68719476735.true

pub returns-then-target-d-clause-promise : goal.returns-then-target-d-clause-promise
returns-then-target-d-clause-promise c = advance-behind _ _ _ _ (search rules) c.if-target-d.true

pub returns-clause-promise : goal.returns-clause-promise
returns-clause-promise c =
    advance-promised _ _ _ _ _ _ _ _ _ _ _ _ _ _ c.if-target-gt68719476735.false c.if-target-d.false (search rules) (search rules) c.told.ensures
