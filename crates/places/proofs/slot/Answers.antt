-- A shift by six bits is a division by 64, and from position 11 on the power is above every u64.
use Rattle.std.proofs.Common.{arith, sym}
use Rattle.places.specs.Ticks.{digit}
use Rattle.places.proofs.Digits.{digit-high}
use Rattle.places.proofs.Numbers.{pow-sixes}
use Rattle.places.proofs.slot.Goals as goal

pub returns-then-p-gt10 : goal.returns-then-p-gt10
returns-then-p-gt10 c = sym (digit-high 64 c.args.deadline {n = 11} (omega arith) (omega arith))

pub returns : goal.returns
unfolding digit
returns c = rw (pow-sixes c.args.p)
