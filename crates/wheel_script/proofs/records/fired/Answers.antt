-- Its four words stand in the line.
use Rattle.wheel_script.proofs.Firing.{fired-line}
use Rattle.wheel_script.proofs.records.fired.Goals as goal

pub returns-clause-written : goal.returns-clause-written
returns-clause-written c =
    fired-line _ _ _ _ c.args.records.now c.args.i _ _ _ _ c.word-cell.ensures c.word-ticket.ensures c.word-deadline.ensures c.word-load.ensures
    c.line.ensures.written
