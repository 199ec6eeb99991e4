-- The loop's invariant: what is held stands within the buffer, and the machine stands in its run.
use Rattle.std.proofs.Common.{◌≤◌, length}
use Rattle.script.proofs.drive.read_all.Given as goal

abbrev pub invariant-loop : goal.invariant-loop
invariant-loop g l = record {
  held : l.held ≤ length l.buf;
  reached : g.M.Machine.Reached l.fn.machine → g.M.Machine.Reached l.machine;
}
