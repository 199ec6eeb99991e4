-- A queue that is empty, or its first entry is shown.
use Rattle.std.proofs.Common.{rules}
use Rattle.queue.specs.Answers.{told_first}
use Rattle.queue.proofs.Promised.{first-refused, first-seen}
use Rattle.queue.proofs.quick.first.Goals as goal

pub returns-then-h-eq0 : goal.returns-then-h-eq0
unfolding told_first
returns-then-h-eq0 c = first-refused _ _ (search rules)

pub returns : goal.returns
unfolding told_first
returns c = first-seen _ _ _ _ (search rules) c.get.ensures c.found.ensures
