-- The invariant: the cells in use below c stand at the front, and the rest of the array is as it was. Assumes nothing.
use Rattle.std.proofs.Common.{◌≡◌, ◌++◌, length, drop}
use Rattle.audits.specs.AuditTests.{used_below}
use Rattle.audits.proofs.differ.gather.Given as goal

abbrev pub invariant-loop-c : goal.invariant-loop-c
invariant-loop-c l =
    record { count : l.m ≡ length (used_below l.w l.c); list : l.a ≡ used_below l.w l.c ++ drop l.m l.initial.a }
