-- `slots::slots::lowest` meets its contract: the count of trailing zeros, which is below 64, is the place of the lowest digit 1. Assumes
-- nothing.
use Rattle.std.proofs.Common.{w64, arith, ◌<◌}
use Rattle.std.specs.Int.{trailing_zeros}
use Rattle.std.proofs.lemmas.Nat.Bits.{bit_at-trailing_zeros}
use Rattle.slots.proofs.MarkDigits.{lowest-counted}
use Rattle.slots.proofs.slots.lowest.Goals as goal

pub returns-clause-value : goal.returns-clause-value
returns-clause-value c =
    let found = bit_at-trailing_zeros w64 c.args.x c.requires c.ranges.x.fits in
    let small : trailing_zeros w64 c.args.x < 64 = found.0 in
    omega (arith, c.from.ensures, small, lowest-counted _ _ found.0 found.1 found.2)
