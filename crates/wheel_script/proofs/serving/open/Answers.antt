-- A wheel is opened only within the words, and as the run on the plain list opens it.
use Rattle.std.proofs.Common.{rules}
use Rattle.wheel_script.proofs.Opening.{begun-refused, begun-ready}
use Rattle.wheel_script.proofs.serving.open.Goals as goal

pub returns-in-Err-clause-told : goal.returns-in-Err-clause-told
returns-in-Err-clause-told c = λ first last marks blank.
    begun-refused _ _ _ (search rules) c.requires.0 c.requires.1 _ _ _ _ _ _ _ _ _ _ c.set_up.ensures.answer c.in-Err.is c.refused.ensures.written

pub returns-in-Ok-clause-told : goal.returns-in-Ok-clause-told
returns-in-Ok-clause-told c = λ first last marks blank.
    begun-ready _ _ _ (search rules) c.requires.0 c.requires.1 _ _ _ _ _ _ _ _ _ _ _
    c.set_up.ensures.answer c.in-Ok.is c.set_up.ensures.words
    blank.firsts blank.lasts blank.unmarked c.ready.ensures.written
