-- A list that has no first cell is walked at once. Assumes nothing.
use Rattle.std.proofs.Common.{arith}
use Rattle.wheel_rules.proofs.Noting.{walking-none}
use Rattle.wheel_rules.proofs.walk.Lent.note_list.Goals as goal

pub returns-then-e-eq4096 : goal.returns-then-e-eq4096
returns-then-e-eq4096 c =
    walking-none _ _ _ _ _ _ _ (omega arith) (omega arith) _ c.ends_at-e.ensures c.if-e-eq4096.true _ c.walk_end.ensures
