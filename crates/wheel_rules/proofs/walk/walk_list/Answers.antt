-- By whether the next cell may stand there. Assumes nothing.
use Rattle.std.proofs.Common.{◌≡◌, arith, refl, sym, ◌∙◌}
use Rattle.wheel_rules.proofs.Walks.{stand-rule}
use Rattle.wheel_rules.proofs.Noting.{walking_start, walking_on, walking-stop, walking-full}
use Rattle.wheel_rules.proofs.walk.walk_list.Goals as goal

pub loop-k-init : goal.loop-k-init
loop-k-init c = walking_start _ _ _ _ _ _ _ (omega arith)

pub returns-then-not-may_stand : goal.returns-then-not-may_stand
returns-then-not-may_stand c =
    walking-stop _ _ _ _ _ _ _ _ _ _ _ _ _ c.loop-k.invariant _ c.walk_end.ensures
    (sym (c.may_stand.ensures _ _ c.span_of-span.ensures) ∙ c.if-not-may_stand.true)

pub overflow_cast-a : goal.overflow_cast-a
overflow_cast-a c =
    let stands = sym (c.may_stand.ensures _ _ c.span_of-span.ensures) ∙ c.if-not-may_stand.false in
    omega (arith, (stand-rule _ _ _ _ _ _ stands).inside)

pub loop-k-preserved : goal.loop-k-preserved
loop-k-preserved c =
    walking_on _ _ _ _ _ _ _ _ _ _ _ _ _ c.loop-k.invariant _ _ _ (omega arith) (omega arith)
    (sym (c.may_stand.ensures _ _ c.span_of-span.ensures) ∙ c.if-not-may_stand.false)
    refl
    c.get-c.ensures
    c.get-order.ensures

pub returns : goal.returns
returns c =
    let end : c.loop-k.k ≡ c.args.n = omega arith in
    walking-full _ _ _ _ _ _ _ _ _ _ c.loop-k.k _ _ c.loop-k.invariant _ (rw end c.walk_end-2.ensures) (omega arith)
