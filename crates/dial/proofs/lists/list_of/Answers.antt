-- `dial::lists::list_of` meets its contract. Assumes nothing.
use Rattle.std.proofs.Common.{arith}
use Rattle.dial.proofs.ListSteps.{due-number, slot-number, level-small, digit-small}
use Rattle.dial.proofs.lists.list_of.Goals as goal

pub returns-then-deadline-clock : goal.returns-then-deadline-clock
returns-then-deadline-clock c = due-number _ _ c.if-deadline-clock.true

pub overflow_mul-result : goal.overflow_mul-result
overflow_mul-result c = omega (arith, level-small _ _ _ c.level-p.ensures)

pub overflow_add-result : goal.overflow_add-result
overflow_add-result c = omega (arith, level-small _ _ _ c.level-p.ensures, digit-small _ _ _ c.slot.ensures)

pub returns : goal.returns
returns c = slot-number _ _ _ _ c.level-p.ensures c.slot.ensures c.if-deadline-clock.false
