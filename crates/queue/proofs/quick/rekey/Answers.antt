-- A handle that names nothing, a counter that is spent, or the entry settles with its new key.
use Rattle.std.proofs.lemmas.Result.{err_from_is_err_and}
use mathlib.Core.Path.{sym, ◌∙◌}
use Rattle.queue.specs.Answers.{told_rekey}
use Rattle.queue.proofs.Promised.{rekey-refused, rekey-full, rekeyed-all}
use Rattle.queue.proofs.quick.rekey.Goals as goal

pub returns-then-not-names : goal.returns-then-not-names
unfolding told_rekey
returns-then-not-names c = rekey-refused _ _ _ _ _ (sym c.names.ensures ∙ c.if-not-names.true)

pub returns-in_err-order : goal.returns-in_err-order
unfolding told_rekey
returns-in_err-order c =
    let p = err_from_is_err_and c.from_residual.result c.from_residual.ensures.1 in
    rw (p.1, p.2)
    (rekey-full _ _ _ _ _ _ _ (sym c.names.ensures ∙ c.if-not-names.false) c.in_err-order.ensures.answer
    c.in_err-order.ensures.store)

pub returns : goal.returns
unfolding told_rekey
returns c =
    rekeyed-all _ _ _ _ _ _ _ _ _ (sym c.names.ensures ∙ c.if-not-names.false) c.in_ok-order.ensures.answer
    c.in_ok-order.ensures.store c.renumber.ensures.words c.renumber.ensures.steps
