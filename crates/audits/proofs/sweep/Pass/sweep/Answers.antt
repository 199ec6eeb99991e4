-- By whether the cell is sound. Assumes nothing.
use Rattle.std.proofs.Common.{arith}
use Rattle.audits.proofs.Sweeps.{sweeping-none, sweeping-next, swept_all, swept-broken}
use Rattle.audits.proofs.sweep.Pass.sweep.Goals as goal

pub loop-c-init : goal.loop-c-init
loop-c-init c = sweeping-none _ _ _ _ _ _ _

pub returns-in_err-s : goal.returns-in_err-s
returns-in_err-s c = rw c.from_residual.ensures (swept-broken _ _ _ _ _ _ _ _ _ _ _ c.loop-c-test.true c.in_err-s.ensures)

pub loop-c-preserved : goal.loop-c-preserved
loop-c-preserved c = sweeping-next _ _ _ _ _ _ _ _ _ _ _ c.loop-c.invariant c.in_ok-s.ensures

pub returns : goal.returns
returns c = swept_all _ _ _ _ _ _ _ _ _ (omega arith) (omega arith) c.loop-c.invariant
