-- A queue that is empty, or its first entry leaves the heap and its cell is freed.
use Rattle.std.proofs.Common.{rules}
use Rattle.queue.specs.Answers.{told_take}
use Rattle.queue.proofs.Promised.{take-refused, taken}
use Rattle.queue.proofs.quick.take.Goals as goal

pub returns-then-h-eq0 : goal.returns-then-h-eq0
unfolding told_take
returns-then-h-eq0 c = take-refused _ _ (search rules)

pub returns : goal.returns
unfolding told_take
returns c =
    taken _ _ _ _ _ _ _ _ (search rules) c.get-c.ensures c.found-found.ensures c.vacate-moves.ensures.words
    c.vacate-moves.ensures.steps c.release.ensures.store c.release.ensures.words
