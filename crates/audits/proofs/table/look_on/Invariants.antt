-- The invariant: the look has come to slot i past cells with other numbers, and the table is as it was. Assumes nothing.
use Rattle.std.proofs.Common.{◌≤◌}
use Rattle.audits.proofs.Tabled.{Looking}
use Rattle.audits.proofs.table.look_on.Given as goal

abbrev pub invariant-loop-i : goal.invariant-loop-i
invariant-loop-i l =
    record { past : Looking l.w l.f l.key l.from l.initial.t l.t l.i; fewer : l.rest ≤ l.left }
