-- `wheel::quick::next_wake` meets its contract: the call is made on the marks and the numbers.
use Rattle.wheel.specs.Promise.{head_lists}
use Rattle.wheel.proofs.quick.next_wake.Goals as goal

pub returns : goal.returns
unfolding head_lists
returns c = λ w. c.next_wake.ensures w _ _
