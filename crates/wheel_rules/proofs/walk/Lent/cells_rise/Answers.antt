-- A list is not sound, or the sort decides. Assumes nothing.
use Rattle.std.proofs.Common.{rules}
use Rattle.wheel_rules.proofs.AuditSteps.{sorted-unsound, sorted-order}
use Rattle.wheel_rules.proofs.walk.Lent.cells_rise.Goals as goal

pub returns-in_default : goal.returns-in_default
returns-in_default c = sorted-unsound _ _ _ _ c.in_default.ensures.found

pub returns : goal.returns
returns c =
    let noted = c.in-Some.ensures in
    sorted-order _ _ _ _ _ noted.found _ _ (search rules) (search rules) noted.list _ c.order_sound.ensures
