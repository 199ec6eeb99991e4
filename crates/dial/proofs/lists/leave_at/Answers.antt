-- `dial::lists::leave_at` meets its contract: the due list, or a slot. Assumes nothing.
use Rattle.dial.proofs.ListSteps.{leave-due, leave-slot}
use Rattle.dial.proofs.lists.leave_at.Goals as goal

pub returns-then-i-eq384-clause-lists : goal.returns-then-i-eq384-clause-lists
returns-then-i-eq384-clause-lists c =
    leave-due _ _ _ _ _ _ _ c.if-i-eq384.true c.leave.ensures.words c.leave.ensures.ends

pub returns-clause-lists : goal.returns-clause-lists
returns-clause-lists c =
    leave-slot _ _ _ _ _ _ _ c.if-i-eq384.false c.leave_slot.ensures.lists
