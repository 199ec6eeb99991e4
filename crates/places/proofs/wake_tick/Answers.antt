-- What a shift makes is the level's power of 64.
use Rattle.std.proofs.Common.{arith}
use native.Mathlib.Nat.{pow-succ'}
use borrow.Author.Tests.{lt-ltb}
use Rattle.places.specs.Ticks.{wake_tick}
use Rattle.places.specs.Answers.{wake_answer}
use Rattle.places.proofs.Numbers.{unit-is, tick_fits}
use Rattle.places.proofs.wake_tick.Goals as goal

pub overflow_add-result : goal.overflow_add-result
overflow_add-result c =
    rw (unit-is c.args.p (omega arith))
    (omega (arith, tick_fits c.args.p c.args.clock c.args.s (omega arith) (omega arith) (omega arith)))

pub returns : goal.returns
unfolding wake_answer wake_tick
returns c =
    rw (unit-is c.args.p (omega arith), lt-ltb c.args.p 6 (omega arith), lt-ltb c.args.s 64 (omega arith), pow-succ' 64 c.args.p)
