-- Each slot is sound, or one of them is not. Assumes nothing.
use Rattle.std.proofs.Common.{rules, ◌≡◌, refl, true, false}
use Rattle.std.proofs.lemmas.Iterator.{cases_from_all, YieldsList-from_range}
use borrow.Author.Tests.{tests}
use Rattle.audits.specs.AuditTests.{all_below}
use Rattle.audits.proofs.Below.{looked_below}
use Rattle.wheel_rules.specs.AuditTests.{mark_test}
use Rattle.wheel_rules.proofs.audit.marks_sound.Goals as goal

pub returns : goal.returns
unfolding all_below
returns c =
    let sound = mark_test c.args.first.now c.args.marks.now in
    looked_below sound 0 384 refl _
    (cases_from_all _ _ _ (λ i. sound i ≡ true) (λ i. sound i ≡ false) c.all.ensures.ran
    (YieldsList-from_range 0 384 384 refl refl)
    (λ x q k. search (rules, tests)) (λ x q k. search (rules, tests)))
