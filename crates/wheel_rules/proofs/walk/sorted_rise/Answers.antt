-- There are too many cells. Assumes nothing.
use Rattle.wheel_rules.proofs.AuditSteps.{sorted-many}
use Rattle.wheel_rules.proofs.walk.sorted_rise.Goals as goal

pub returns-then-d-gt4096 : goal.returns-then-d-gt4096
returns-then-d-gt4096 c = sorted-many _ _ _ _ c.if-d-gt4096.true
