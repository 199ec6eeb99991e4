-- The audit fails, or it passes and the quick call is made.
use Rattle.std.proofs.lemmas.Result.{err_from_is_err_and}
use mathlib.Core.Path.{refl}
use Rattle.queue.specs.Answers.{told_take}
use Rattle.queue.proofs.Checking.{refused-broken, passed-sound}
use Rattle.queue.proofs.checked.take.Goals as goal

pub returns-in_err-sound : goal.returns-in_err-sound
unfolding told_take
returns-in_err-sound c =
    let p = err_from_is_err_and c.from_residual.result c.from_residual.ensures.1 in
    rw (p.1, p.2, c.in_err-sound.ensures.refused) (refused-broken _ _ _ _ c.in_err-sound.ensures.passed refl)

pub returns : goal.returns
returns c = passed-sound _ _ _ _ c.in_ok-sound.ensures.passed _ _ _ refl c.take.ensures
