-- A head that is too large, a claim that is refused, or a cell is taken and enters the heap.
use Rattle.std.proofs.lemmas.Result.{err_from_is_err_and}
use Rattle.queue.specs.Answers.{told_put}
use Rattle.queue.proofs.Promised.{over, put_refused, put-entered}
use Rattle.queue.proofs.quick.put.Goals as goal

pub returns-then-h-gt4096 : goal.returns-then-h-gt4096
unfolding told_put
returns-then-h-gt4096 c = over _ _ _ _ _ c.if-h-gt4096.true

pub returns-in_err-at : goal.returns-in_err-at
unfolding told_put
returns-in_err-at c =
    let p = err_from_is_err_and c.from_residual.result c.from_residual.ensures.1 in
    rw (p.1, p.2)
    (put_refused _ _ _ _ _ _ _ c.in_err-at.ensures.answer c.in_err-at.ensures.store c.in_err-at.ensures.words)

pub returns : goal.returns
unfolding told_put
returns c =
    put-entered _ _ _ _ _ _ _ _ _ c.in_ok-at.ensures.answer c.in_ok-at.ensures.store c.in_ok-at.ensures.words
    c.enter-moves.ensures.words c.enter-moves.ensures.steps
