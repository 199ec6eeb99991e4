-- `wheel::in_place::move_to` meets its contract: a handle that names nothing, a deadline that is refused, a counter that is spent,
-- or the timer is filed anew.
use Rattle.std.proofs.Common.{rules, sym, ◌∙◌}
use Rattle.wheel.proofs.Promised.{move-refused, move-late, move-full, moved}
use Rattle.wheel.proofs.in_place.move_to.Goals as goal

pub returns-then-not-names-clause-promise : goal.returns-then-not-names-clause-promise
returns-then-not-names-clause-promise c = move-refused _ _ _ _ _ (sym c.names.ensures ∙ c.if-not-names.true)

pub returns-in_err-in_time-clause-promise : goal.returns-in_err-in_time-clause-promise
returns-in_err-in_time-clause-promise c =
    move-late _ _ _ _ _ (sym c.names.ensures ∙ c.if-not-names.false) _ _ c.in_err-in_time.ensures (search rules)

pub returns-in_err-order-clause-promise : goal.returns-in_err-order-clause-promise
returns-in_err-order-clause-promise c =
    move-full _ _ _ _ _ (sym c.names.ensures ∙ c.if-not-names.false) _ c.in_ok-in_time.ensures _ _ _
    c.in_err-order.ensures.answer (search rules) c.draw.ensures.store

pub returns-clause-promise : goal.returns-clause-promise
returns-clause-promise c =
    moved _ _ _ _ _ (sym c.names.ensures ∙ c.if-not-names.false) _ c.in_ok-in_time.ensures _ _ _
    c.in_ok-order.ensures.answer (search rules) (search rules) c.refile.ensures.lists
