-- None is laid, and one more is.
use Rattle.std.proofs.Common.{rules}
use Rattle.wheel_script.proofs.Firing.{lines_start, lines-again}
use Rattle.wheel_script.proofs.records.fired_lines.Goals as goal

pub loop-i-init : goal.loop-i-init
loop-i-init c = record {
  bytes = c.text.ensures.bytes;
  written = lines_start _ _ _ _ c.args.records.now c.text.ensures.written;
}

pub loop-i-preserved : goal.loop-i-preserved
loop-i-preserved c = record {
  bytes = (search rules, search rules);
  written = lines-again _ _ _ _ _ _ _ _ c.loop-i.invariant.written c.fired.ensures.written;
}
