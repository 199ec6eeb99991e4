-- A text and numbers, one after the other.
use Rattle.script.specs.Answers.{phrase}
use Rattle.script.proofs.Laying.{laid-join}
use Rattle.script.proofs.writing.Page.phrase.Goals as goal

pub returns-clause-written : goal.returns-clause-written
unfolding phrase
returns-clause-written c =
    laid-join _ _ _ _ _ _ _ _ c.text.ensures.written c.numbers.ensures.written
