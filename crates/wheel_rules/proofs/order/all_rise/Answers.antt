-- Each cell beside the next. Assumes nothing.
use Rattle.std.proofs.Common.{rules, arith, ◌≡◌, ◌∙◌, ◌-◌, ℕ, take, drop, length, length-drop, refl, Bool, true, false}
use lib.Seq.{take_all}
use Rattle.std.proofs.lemmas.Iterator.{cases_from_all, YieldsList-from_slice, YieldsList-from_zip}
use borrow.Author.Tests.{tests}
use Rattle.cell_sort.proofs.Neighbours.{no-neighbours, neighbours-told}
use Rattle.wheel_rules.specs.AuditTests.{rise_test, neighbours_rise}
use Rattle.wheel_rules.proofs.order.all_rise.Goals as goal

pub returns-then-is_empty : goal.returns-then-is_empty
unfolding neighbours_rise
returns-then-is_empty c =
    rw c.if-is_empty.true
    (no-neighbours (rise_test c.args.w.now) (neighbours_rise c.args.w.now) refl (λ x. refl) (λ x y ys. refl) c.args.a.now (search rules))

pub returns-else-is_empty : goal.returns-else-is_empty
unfolding neighbours_rise
returns-else-is_empty c =
    let rise : ℕ → ℕ → Bool = rise_test c.args.w.now in
    let rest : take (length c.args.a.now - 1) (drop 1 c.args.a.now) ≡ drop 1 c.args.a.now = take_all _ _ (omega (arith, length-drop 1 c.args.a.now)) in
    neighbours-told rise (neighbours_rise c.args.w.now) refl (λ x. refl) (λ x y ys. refl) c.args.a.now _
    (cases_from_all c.all.new.self _ _ (λ p. rise p.0 p.1 ≡ true) (λ p. rise p.0 p.1 ≡ false) c.all.ensures.ran
    (YieldsList-from_zip (YieldsList-from_slice c.args.a.now (search rules)) (YieldsList-from_slice (drop 1 c.args.a.now) (search rules ∙ rest)))
    (λ x q k. search (rules, tests)) (λ x q k. search (rules, tests)))
