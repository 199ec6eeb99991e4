-- The search among all slots is that among the slots from level p on. Assumes nothing.
use Rattle.std.proofs.Common.{◌≡◌, ◌*◌, ◌-◌}
use Rattle.slots.specs.Rings.{scan, slot_marked, first_marked}
use Rattle.slots.proofs.slots.first_marked.Given as goal

abbrev pub invariant-loop-p : goal.invariant-loop-p
invariant-loop-p l = first_marked l.marks ≡ scan (slot_marked l.marks) (384 - l.p * 64) (l.p * 64)
