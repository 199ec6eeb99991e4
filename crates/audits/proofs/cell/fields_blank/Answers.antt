-- Each field looked at is zero, or one of them is not. Assumes nothing.
use Rattle.std.proofs.Common.{rules, ◌-◌, ◌≡◌, refl, true, false}
use Rattle.std.proofs.lemmas.Iterator.{cases_from_all, YieldsList-from_range}
use borrow.Author.Tests.{tests}
use Rattle.audits.specs.AuditTests.{field_test}
use Rattle.audits.proofs.Below.{looked_below}
use Rattle.audits.proofs.cell.fields_blank.Goals as goal

pub returns : goal.returns
returns c =
    let test = field_test c.args.w.now c.args.m c.args.c in
    looked_below test c.args.low c.args.high c.requires.2 _
    (cases_from_all _ _ _ (λ f. test f ≡ true) (λ f. test f ≡ false) c.all.ensures.ran
    (YieldsList-from_range c.args.low c.args.high (c.args.high - c.args.low) refl refl)
    (λ x q k. search (rules, tests)) (λ x q k. search (rules, tests)))
