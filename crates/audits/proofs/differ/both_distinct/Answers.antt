-- By the tickets, and where these differ by the order numbers. Assumes nothing.
use Rattle.std.proofs.Common.{◌∙◌}
use Rattle.audits.proofs.Audits.{both_first, both-second}
use Rattle.audits.proofs.differ.both_distinct.Goals as goal

pub returns-then-distinct : goal.returns-then-distinct
returns-then-distinct c =
    both-second _ _ _ _ _ c.distinct.ensures.differ c.if-distinct.true c.distinct.ensures.list
    c.distinct-then-distinct.ensures.differ

pub returns-else-distinct : goal.returns-else-distinct
returns-else-distinct c = c.if-distinct.false ∙ both_first _ _ _ c.distinct.ensures.differ c.if-distinct.false
