-- A text and a number, one after the other.
use Rattle.script.proofs.Laying.{laid-join}
use Rattle.script.proofs.writing.Page.spaced.Goals as goal

pub returns-clause-written : goal.returns-clause-written
returns-clause-written c = laid-join _ _ _ _ _ _ _ _ c.byte.ensures.written c.number.ensures.written
