-- The digits are put into spare room, and then written.
use Prim.Native.Nat.{◌-◌}
use native.Mathlib.Omega.{arith}
use Rattle.script.proofs.Laying.{laid_as}
use Rattle.script.proofs.Decimals.{spelt-part}
use Rattle.script.proofs.writing.Page.number.Goals as goal

pub returns-clause-written : goal.returns-clause-written
returns-clause-written c =
    let spelt = c.spell-from in
    laid_as _ _ _ _ _ _ c.text.ensures.written
    (spelt-part _ spelt.new.d spelt.result (20 - spelt.result) (omega (arith, spelt.auto.d)) spelt.ensures.1)
