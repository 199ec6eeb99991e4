-- Digit by digit, from the last to the first.
use Rattle.std.proofs.Common.{arith}
use Rattle.script.proofs.Decimals.{spelling-room, spelling-more, spelling-last}
use Rattle.script.proofs.writing.spell.Goals as goal

pub overflow_sub-i : goal.overflow_sub-i
overflow_sub-i c = omega (arith, spelling-room _ _ _ _ c.loop-rest.invariant)

pub loop-rest-preserved : goal.loop-rest-preserved
loop-rest-preserved c = spelling-more _ _ _ _ _ c.loop-rest.invariant c.loop-rest-test.true c.glyph.ensures

pub overflow_sub-i-2 : goal.overflow_sub-i-2
overflow_sub-i-2 c = omega (arith, spelling-room _ _ _ _ c.loop-rest.invariant)

pub returns : goal.returns
returns c = spelling-last _ _ _ _ _ c.loop-rest.invariant c.loop-rest-test.false c.glyph-2.ensures
