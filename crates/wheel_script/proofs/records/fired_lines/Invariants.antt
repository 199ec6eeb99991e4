-- The loop's invariant: the lines of the first i records are laid.
use Rattle.script.specs.Pages.{same_bytes, Written}
use Rattle.wheel.specs.Answers.{records_in}
use Rattle.wheel_script.specs.Texts.{fired_lines}
use Rattle.wheel_script.proofs.records.fired_lines.Given as goal

abbrev pub invariant-loop-i : goal.invariant-loop-i
invariant-loop-i l = record {
  bytes : same_bytes l.fn.page l.page;
  written : Written l.fn.page (fired_lines (records_in l.i l.records)) l.page;
}
