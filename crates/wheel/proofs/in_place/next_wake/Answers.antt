-- `wheel::in_place::next_wake` meets its contract: the clock, the first marked slot's wake tick, or none.
use Rattle.std.proofs.Common.{arith}
use mathlib.Core.Path.{refl}
use Rattle.slots.proofs.Standing.{found-some, found-none}
use Rattle.wheel.specs.Answers.{wakes_at}
use Rattle.wheel.proofs.WakeShown.{wakes-now, wakes-never, wakes-later}
use Rattle.wheel.proofs.in_place.next_wake.Goals as goal

pub returns-then-d-ne4096 : goal.returns-then-d-ne4096
unfolding wakes_at
returns-then-d-ne4096 c = λ w first last. wakes-now _ _ c.if-d-ne4096.true

pub returns-in_err-i : goal.returns-in_err-i
unfolding wakes_at
returns-in_err-i c =
    rw c.from_residual.ensures
    (λ w first last. wakes-never _ _ c.if-d-ne4096.false _ refl (found-none _ c.in_err-i.ensures))

pub returns : goal.returns
unfolding wakes_at
returns c =
    let found = found-some _ _ c.in_ok-i.ensures in
    λ w first last.
    wakes-later _ _ c.if-d-ne4096.false _ found.0 _ (λ e. omega (arith, found.1)) c.wake_tick.ensures
