-- The loop's invariant: the digits of what is left, and those that stand from i on, are the number's.
use Rattle.script.proofs.Decimals.{Spelling}
use Rattle.script.proofs.writing.spell.Given as goal

abbrev pub invariant-loop-rest : goal.invariant-loop-rest
invariant-loop-rest l = Spelling l.n l.d l.rest l.i

-- The measure is what is left of the number.
abbrev pub decreases-loop-rest : goal.decreases-loop-rest
decreases-loop-rest l = l.rest
