-- `wheel::in_place::cancel` meets its contract: a handle that names nothing, or the timer leaves its list and its cell is given back.
use Rattle.std.proofs.Common.{rules, sym, ◌∙◌}
use Rattle.dial.specs.Turns.{with_words}
use Rattle.wheel.proofs.Promised.{cancel-refused, cancelled}
use Rattle.wheel.proofs.in_place.cancel.Goals as goal

pub returns-then-not-names-clause-promise : goal.returns-then-not-names-clause-promise
returns-then-not-names-clause-promise c = cancel-refused _ _ _ _ (sym c.names.ensures ∙ c.if-not-names.true)

pub returns-clause-promise : goal.returns-clause-promise
unfolding with_words
returns-clause-promise c =
    cancelled _ _ _ _ _ _ _ _ c.release.new.w _ _ _ (sym c.names.ensures ∙ c.if-not-names.false)
    c.get-load.ensures c.get.ensures c.list_of-i.ensures c.leave_at-d.ensures.lists
    c.release.ensures.store (search rules) (search rules)
