-- `slots::slots::without_mark` meets its contract. Assumes nothing.
use Rattle.slots.proofs.MarkDigits.{one_shl, and-unmarked}
use Rattle.slots.proofs.slots.without_mark.Goals as goal

pub returns : goal.returns
returns c = rw (one_shl c.args.s c.requires) (and-unmarked c.args.m c.args.s c.requires c.ranges.m.fits)
