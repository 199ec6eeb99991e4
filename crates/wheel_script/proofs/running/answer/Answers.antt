-- The wheel keeps its words, and each line is answered as the run on the plain list answers it.
use Rattle.std.proofs.Common.{◌≤◌, length, ap, ◌∙◌, arith}
use Rattle.std.proofs.Math.Seq.{length-take-le}
use Rattle.script.specs.Sessions.{words_of}
use Rattle.wheel_script.proofs.Opening.{answered-first, answered-next, answered-over}
use Rattle.wheel_script.proofs.Speaking.{obeyed-within}
use Rattle.wheel_script.proofs.running.answer.Goals as goal

pub returns-in-Fresh-clause-told : goal.returns-in-Fresh-clause-told
returns-in-Fresh-clause-told c = λ p s. answered-first _ _ _ _ _ _ _ _ p _ _ _ _ c.in-Fresh.is (λ blank. c.begin.ensures.told _ _ _ blank) s

pub returns-in-Open-clause-place : goal.returns-in-Open-clause-place
returns-in-Open-clause-place c = obeyed-within _ _ _ _ _ _ _ _ _ c.obey_in.ensures.answered

pub returns-in-Open-clause-engine : goal.returns-in-Open-clause-engine
unfolding words_of
returns-in-Open-clause-engine c = omega (arith, ap words_of c.in-Open.is, c.requires)

pub returns-in-Open-clause-told : goal.returns-in-Open-clause-told
unfolding words_of
returns-in-Open-clause-told c =
    let fits : c.in-Open.n ≤ length c.args.w.now = omega (arith, ap words_of c.in-Open.is, c.requires) in
    λ p s. answered-next _ _ _ _ _ _ _ _ p _ _ _ _ _ _ _ _ _ c.in-Open.is (c.obey_in.auto.w ∙ length-take-le _ _ fits) c.obey_in.ensures.answered s

pub returns-in-Over-clause-told : goal.returns-in-Over-clause-told
returns-in-Over-clause-told c = λ p s. answered-over _ _ _ _ _ _ _ _ p _ _ c.in-Over.is c.text.ensures.written s
