-- The records' lines, and then the clock's.
use Rattle.script.proofs.Laying.{laid-join}
use Rattle.wheel_script.proofs.answers.report.Goals as goal

pub returns-clause-written : goal.returns-clause-written
returns-clause-written c = laid-join _ _ _ _ _ _ _ _ c.fired_lines.ensures.written c.clock.ensures.written
