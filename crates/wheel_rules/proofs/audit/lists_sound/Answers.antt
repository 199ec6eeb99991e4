-- The first test that fails decides, or the order. Assumes nothing.
use Rattle.std.proofs.Common.{arith, rules, ◌∙◌}
use borrow.Author.Tests.{ne_eqb}
use Rattle.wheel_rules.proofs.Noting.{found-few}
use Rattle.wheel_rules.proofs.AuditSteps.{lists-unsound, lists-others, lists-climb, lists-sorted}
use Rattle.wheel_rules.proofs.audit.lists_sound.Goals as goal

pub returns-in_default : goal.returns-in_default
returns-in_default c = lists-unsound _ _ _ _ c.in_default.ensures (search rules)

pub overflow_sub-d : goal.overflow_sub-d
overflow_sub-d c = omega (arith, found-few _ _ _ _ _ c.in-Some.ensures)

pub returns-then-got : goal.returns-then-got
returns-then-got c =
    c.if-got.true
    ∙ lists-climb _ _ _ _ _ c.in-Some.ensures (search rules) _ (search rules) c.if-d-got.true c.if-got.true

pub returns-else-got : goal.returns-else-got
returns-else-got c =
    lists-sorted _ _ _ _ _ c.in-Some.ensures (search rules) _ (search rules) c.if-d-got.true _ c.sorted_rise.ensures

pub returns-else-d-got : goal.returns-else-d-got
returns-else-d-got c =
    ne_eqb _ _ c.if-d-got.false
    ∙ lists-others _ _ _ _ _ c.in-Some.ensures (search rules) _ (search rules) c.if-d-got.false
