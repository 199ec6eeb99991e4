-- The words below j are written afresh, and the others are as they were.
use Rattle.std.proofs.Common.{◌≡◌}
use Rattle.cells.proofs.Fresh.{filled}
use Rattle.cells.proofs.store.write_fresh.Given as goal

abbrev pub invariant-loop-j : goal.invariant-loop-j
invariant-loop-j l = l.w ≡ filled l.fn.w l.j
