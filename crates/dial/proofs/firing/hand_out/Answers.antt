-- `dial::firing::hand_out` meets its contract: it ends without room, or where nothing is due. Assumes nothing.
use Rattle.std.proofs.Common.{[], arith, refl, ◌∙◌}
use Rattle.dial.proofs.FireSteps.{one-fired, hand-stop, hand-none, hand_on, handed-is}
use Rattle.dial.proofs.firing.hand_out.Goals as goal

pub loop-turn-smaller : goal.loop-turn-smaller
loop-turn-smaller c = omega (arith, one-fired _ (c.fire-turn.ensures [] [] []), c.loop-turn-test.true)

pub loop-turn-preserved : goal.loop-turn-preserved
loop-turn-preserved c =
    λ first last marks.
    c.loop-turn.invariant first last marks ∙ hand_on _ _ _ c.loop-turn-test.true c.if-turn-ne4096.true (c.fire-turn.ensures first last marks)

pub returns-else-turn-ne4096 : goal.returns-else-turn-ne4096
returns-else-turn-ne4096 c =
    λ first last marks. handed-is _ _ refl (c.loop-turn.invariant first last marks ∙ hand-stop _ _ c.if-turn-ne4096.false)

pub returns-after-loop-turn : goal.returns-after-loop-turn
returns-after-loop-turn c =
    λ first last marks. handed-is _ _ refl (c.loop-turn.invariant first last marks ∙ hand-none _ _ (omega (arith, c.loop-turn-test.false)))
