-- By whether list i is sound. Assumes nothing.
use Rattle.std.proofs.Common.{arith}
use Rattle.wheel_rules.proofs.Noting.{along-start, along-on, along-fails, along-end}
use Rattle.wheel_rules.proofs.walk.Lent.note_lists.Goals as goal

pub loop-i-init : goal.loop-i-init
loop-i-init c = along-start _ _ _ _ _

pub returns-in_err-got : goal.returns-in_err-got
returns-in_err-got c =
    rw c.from_residual.ensures
    (along-fails _ _ _ _ _ (omega arith) _ _ _ _ _ c.loop-i.invariant (omega arith) (omega arith) c.in_err-got.ensures)

pub loop-i-preserved : goal.loop-i-preserved
loop-i-preserved c =
    along-on _ _ _ _ _ (omega arith) _ _ _ _ _ c.loop-i.invariant _ c.in_ok-got.ensures (omega arith) c.note_list.auto.a

pub returns : goal.returns
returns c = along-end _ _ _ _ _ _ c.loop-i.i _ _ (omega arith) (omega arith) c.loop-i.invariant (omega arith)
