-- What is copied to the front is what is carried; where that is nothing, nothing is copied.
use Rattle.std.proofs.Common.{arith}
use Rattle.script.proofs.Carrying.{carrying-copied, carrying-none}
use Rattle.script.proofs.chunks.carry.Goals as goal

pub returns-then-n-gt0 : goal.returns-then-n-gt0
returns-then-n-gt0 c = carrying-copied _ _ _ _ _ c.carried-n.ensures c.copy_within.ensures.after

pub returns-else-n-gt0 : goal.returns-else-n-gt0
returns-else-n-gt0 c = carrying-none _ _ _ _ (omega arith) c.carried-n.ensures
