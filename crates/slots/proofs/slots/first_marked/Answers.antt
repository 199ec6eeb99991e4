-- `slots::slots::first_marked` meets its contract, level by level. Assumes nothing.
use Rattle.std.proofs.Common.{arith, refl, sym, ◌∙◌}
use Rattle.slots.specs.Rings.{first_marked}
use Rattle.slots.proofs.MarkDigits.{level-none, level-found, level-end, found-is, found-out}
use Rattle.slots.proofs.slots.first_marked.Goals as goal

pub loop-p-init : goal.loop-p-init
unfolding first_marked
loop-p-init c = refl

pub returns-then-m-gt0 : goal.returns-then-m-gt0
returns-then-m-gt0 c =
    let clauses = c.lowest.ensures in
    found-is _ _ (level-found _ _ _ (omega arith) c.marks_at-m.ensures _ clauses.value clauses.small ∙ sym c.loop-p.invariant)
    (omega (arith, clauses.small))

pub loop-p-preserved : goal.loop-p-preserved
loop-p-preserved c =
    c.loop-p.invariant ∙ level-none _ _ _ (omega arith) c.marks_at-m.ensures (omega arith)

pub returns : goal.returns
returns c = found-out _ (c.loop-p.invariant ∙ level-end _ _ (omega arith))
