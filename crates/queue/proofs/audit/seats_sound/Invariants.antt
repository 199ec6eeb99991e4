-- The positions passed are sound, and the family is that before position p.
use Rattle.std.proofs.Common.{◌≡◌, true}
use Rattle.audits.specs.AuditTests.{all_below}
use Rattle.queue.specs.AuditTests.{seat_test}
use Rattle.queue.proofs.Families.{Turn}
use Rattle.queue.proofs.audit.seats_sound.Given as goal

abbrev pub invariant-loop-p : goal.invariant-loop-p
invariant-loop-p l = Turn l.w l.d l.p l.f × (all_below l.p (seat_test l.w l.d l.n) ≡ true)
