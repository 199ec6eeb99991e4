-- The invariant: what is noted and what is yet to be walked are the whole. Assumes nothing.
use Rattle.wheel_rules.proofs.Noting.{Walking}
use Rattle.wheel_rules.proofs.walk.walk_list.Given as goal

abbrev pub invariant-loop-k : goal.invariant-loop-k
invariant-loop-k l = Walking l.w l.n l.clock l.i l.e l.m l.initial.a l.a l.c l.p l.k l.order l.rise
