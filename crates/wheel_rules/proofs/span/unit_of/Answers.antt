-- What a shift makes is the level's power of 64.
use Rattle.places.proofs.Numbers.{unit-is}
use Rattle.wheel_rules.proofs.span.unit_of.Goals as goal

pub returns : goal.returns
returns c = unit-is c.args.p c.requires
