-- The invariant: the cells below c are passed. Assumes nothing.
use Rattle.audits.proofs.Sweeps.{Sweeping}
use Rattle.audits.proofs.sweep.Pass.sweep.Given as goal

abbrev pub invariant-loop-c : goal.invariant-loop-c
invariant-loop-c l = Sweeping l.self.w.now l.self.counter l.self.used l.self.k l.c l.s l.t l.u
