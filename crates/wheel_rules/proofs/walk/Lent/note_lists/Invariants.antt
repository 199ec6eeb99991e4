-- The invariant: the lists passed are sound, and their cells noted. Assumes nothing.
use Rattle.wheel_rules.specs.AuditTests.{ends_in}
use Rattle.wheel_rules.proofs.Noting.{Along}
use Rattle.wheel_rules.proofs.walk.Lent.note_lists.Given as goal

abbrev pub invariant-loop-i : goal.invariant-loop-i
invariant-loop-i l =
    Along l.self.w.now l.self.d.store.cells l.self.d.clock (ends_in l.self.first.now l.self.last.now l.self.d.due)
    l.initial.a l.a l.i l.m l.rise
