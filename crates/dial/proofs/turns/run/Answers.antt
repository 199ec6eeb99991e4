-- `dial::turns::run` meets its contract: a turn ends them, or all that can be needed are over. Assumes nothing.
use Rattle.std.proofs.Common.{arith, rules, sym, ◌∙◌}
use Rattle.dial.specs.Lent.{ending_of}
use Rattle.dial.specs.Turns.{turns_for}
use Rattle.dial.proofs.TurnSteps.{some-ended, none-goes, turns-end, turns-on, turns-none, turn-few}
use Rattle.dial.proofs.turns.run.Goals as goal

pub returns-then-is_some-clause-ended : goal.returns-then-is_some-clause-ended
unfolding turns_for
returns-then-is_some-clause-ended c =
    let on = c.loop-test.true in
    sym (c.loop.invariant.turned ∙ turns-end _ _ _ (omega arith) c.once-ended.ensures.ended (some-ended _ (sym c.is_some.ensures ∙ c.if-is_some.true)))

pub loop-preserved : goal.loop-preserved
loop-preserved c =
    let few = turn-few _ _ c.once-ended.ensures.ended in
    let on = c.loop-test.true in
    record {
      slices = search rules;
      few = omega arith;
      counted = omega arith;
      turned = c.loop.invariant.turned ∙ turns-on _ _ _ (omega arith) c.once-ended.ensures.ended _ (omega arith) (none-goes _ (sym c.is_some.ensures ∙ c.if-is_some.false));
    }

pub returns-clause-ended : goal.returns-clause-ended
unfolding ending_of turns_for
returns-clause-ended c = sym (c.loop.invariant.turned ∙ turns-none _ _ _ (omega (arith, c.loop-test.false)))
