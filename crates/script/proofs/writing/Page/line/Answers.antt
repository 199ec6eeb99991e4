-- Its parts, one after the other.
use Rattle.script.specs.Answers.{answer_line}
use Rattle.script.proofs.Laying.{laid-join}
use Rattle.script.proofs.writing.Page.line.Goals as goal

pub returns-clause-written : goal.returns-clause-written
unfolding answer_line
returns-clause-written c =
    laid-join _ _ _ _ _ _ _ _
    (laid-join _ _ _ _ _ _ _ _ (laid-join _ _ _ _ _ _ _ _ c.phrase.ensures.written c.phrase-2.ensures.written) c.text.ensures.written)
    c.byte.ensures.written
