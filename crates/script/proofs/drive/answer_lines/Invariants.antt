-- The loop's invariant: the next line begins within the chunk, what is to be written out stands within the output, and the machine
-- stands in its run.
use Rattle.std.proofs.Common.{◌≤◌, ◌-◌, length}
use Rattle.script.proofs.drive.answer_lines.Given as goal

abbrev pub invariant-loop-end : goal.invariant-loop-end
invariant-loop-end g l = record {
  begun : l.at ≤ length l.s;
  line : l.at ≤ l.end;
  answers : l.page.end ≤ length l.page.bytes.now;
  reached : g.M.Machine.Reached l.fn.machine → g.M.Machine.Reached l.machine;
}

-- The measure is what is left of the chunk.
abbrev pub decreases-loop-end : goal.decreases-loop-end
decreases-loop-end g l = length l.s - l.at
