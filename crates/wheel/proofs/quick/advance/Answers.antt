-- `wheel::quick::advance` meets its contract: what the lent lists hold at the end is the head's.
use Rattle.std.proofs.Common.{rules}
use Rattle.wheel.specs.Promise.{head_lists}
use Rattle.wheel.proofs.AdvanceShown.{held-advances}
use Rattle.wheel.proofs.quick.advance.Goals as goal

pub returns : goal.returns
unfolding head_lists
returns c = held-advances _ _ _ _ _ _ _ _ _ c.advance.ensures.promise (search rules)
