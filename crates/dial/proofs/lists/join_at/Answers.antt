-- `dial::lists::join_at` meets its contract: the due list, or a slot. Assumes nothing.
use Rattle.dial.proofs.ListSteps.{join-due, join_slot_lem}
use Rattle.dial.proofs.lists.join_at.Goals as goal

pub returns-then-i-eq384-clause-lists : goal.returns-then-i-eq384-clause-lists
returns-then-i-eq384-clause-lists c =
    join-due _ _ _ _ _ _ _ c.if-i-eq384.true c.join.ensures.words c.join.ensures.ends

pub returns-clause-lists : goal.returns-clause-lists
returns-clause-lists c =
    join_slot_lem _ _ _ _ _ _ _ c.if-i-eq384.false c.join_slot.ensures.lists
