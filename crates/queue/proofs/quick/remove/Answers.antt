-- A handle that names nothing, a handle held in a queue of no entries, or the entry leaves the heap and its cell is freed.
use Rattle.std.proofs.Common.{rules}
use mathlib.Core.Path.{sym, ◌∙◌}
use Rattle.queue.specs.Answers.{told_remove}
use Rattle.queue.proofs.Promised.{remove-refused, remove-none, removed}
use Rattle.queue.proofs.quick.remove.Goals as goal

pub returns-then-not-names : goal.returns-then-not-names
unfolding told_remove
returns-then-not-names c = remove-refused _ _ _ _ (sym c.names.ensures ∙ c.if-not-names.true)

pub returns-then-h-eq0 : goal.returns-then-h-eq0
unfolding told_remove
returns-then-h-eq0 c = remove-none _ _ _ _ (sym c.names.ensures ∙ c.if-not-names.false) (search rules)

pub returns : goal.returns
unfolding told_remove
returns c =
    removed _ _ _ _ _ _ _ _ _ _ (sym c.names.ensures ∙ c.if-not-names.false) c.get-load.ensures c.get.ensures
    c.vacate-moves.ensures.words c.vacate-moves.ensures.steps c.release.ensures.store c.release.ensures.words
