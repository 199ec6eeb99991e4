-- Where the tables don't tell, the sort does. Assumes nothing.
use Rattle.audits.proofs.Audits.{apart-sorted}
use Rattle.audits.proofs.audit.numbers_differ.Goals as goal

pub returns-2 : goal.returns-2
returns-2 c = apart-sorted _ _ _ c.sorted_differ.ensures
