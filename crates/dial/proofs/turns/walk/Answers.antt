-- `dial::turns::walk` meets its contract: it ends behind the last cell, or after as many as there are. Assumes nothing.
use Rattle.std.proofs.Common.{[], arith, sym, rules, ◌∙◌}
use Rattle.dial.proofs.FileSteps.{refile-at-most, walk-stop, walk_none, walk-on}
use Rattle.dial.proofs.turns.walk.Goals as goal

pub returns-then-at-eq4096-clause-state : goal.returns-then-at-eq4096-clause-state
returns-then-at-eq4096-clause-state c =
    λ out. sym (c.loop.invariant.walked out ∙ walk-stop _ _ _ c.if-at-eq4096.true)

pub loop-preserved : goal.loop-preserved
loop-preserved c =
    let more = refile-at-most _ _ (c.refile-turn.ensures.state []) in
    let on = c.loop-test.true in
    record {
      slices = search rules;
      counted = omega arith;
      walked = λ out.
          c.loop.invariant.walked out ∙ walk-on _ _ _ _ (omega arith) c.if-at-eq4096.false c.get-next.ensures (c.refile-turn.ensures.state out);
    }

pub returns-clause-state : goal.returns-clause-state
returns-clause-state c =
    λ out. sym (c.loop.invariant.walked out ∙ walk_none _ _ _ (omega (arith, c.loop-test.false)))
