-- `slots::slots::with_mark` meets its contract. Assumes nothing.
use Rattle.slots.proofs.MarkDigits.{one_shl, or-marked}
use Rattle.slots.proofs.slots.with_mark.Goals as goal

pub returns : goal.returns
returns c = rw (one_shl c.args.s c.requires) (or-marked c.args.m c.args.s)
