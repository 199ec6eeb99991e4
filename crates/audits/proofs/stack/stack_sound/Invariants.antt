-- The invariant: the walk from the top passes exactly if what is left of it passes from c. Assumes nothing.
use Rattle.std.proofs.Common.{◌≡◌, ◌-◌}
use Rattle.cells.specs.Stack.{stands_as, walks}
use Rattle.audits.specs.AuditTests.{blank_test}
use Rattle.audits.proofs.stack.stack_sound.Given as goal

abbrev pub invariant-loop : goal.invariant-loop
invariant-loop l =
    walks l.w (stands_as l.w l.n (blank_test l.w l.free)) l.top l.links
    ≡ walks l.w (stands_as l.w l.n (blank_test l.w l.free)) l.c (l.links - l.counter)
