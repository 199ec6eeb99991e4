-- There are too many cells. Assumes nothing.
use Rattle.wheel_rules.proofs.Noting.{found-unsound, walk-many}
use Rattle.wheel_rules.proofs.walk.walked.Goals as goal

pub returns-then-d-gt4096 : goal.returns-then-d-gt4096
returns-then-d-gt4096 c = found-unsound _ _ _ _ (walk-many _ _ _ _ c.if-d-gt4096.true)
