-- `wheel::in_place::arm` meets its contract: a deadline or a claim that is refused, or a cell is taken and joins the list of its deadline.
use Rattle.std.proofs.Common.{rules}
use Rattle.dial.specs.Turns.{with_words}
use Rattle.places.specs.Ticks.{last_tick}
use Rattle.wheel.specs.Refiled.{timely}
use Rattle.wheel.proofs.Promised.{arm-late, arm-refused, arm-armed}
use Rattle.wheel.proofs.in_place.arm.Goals as goal

pub returns-in_err-in_time-clause-promise : goal.returns-in_err-in_time-clause-promise
unfolding timely last_tick
returns-in_err-in_time-clause-promise c = arm-late _ _ _ _ _ _ c.in_err-in_time.ensures (search rules)

pub returns-in_err-at-clause-promise : goal.returns-in_err-at-clause-promise
unfolding with_words timely last_tick
returns-in_err-at-clause-promise c =
    arm-refused _ _ _ _ _ c.in_ok-in_time.ensures _ _ _ _ c.in_err-at.ensures.answer (search rules)
    c.claim.ensures.store c.claim.ensures.words

pub returns-clause-promise : goal.returns-clause-promise
unfolding with_words timely last_tick
returns-clause-promise c =
    arm-armed _ _ _ _ _ c.in_ok-in_time.ensures _ _ _ _ _ _ c.in_ok-at.ensures.answer c.claim.ensures.store c.claim.ensures.words
    c.list_of.ensures (search rules)
