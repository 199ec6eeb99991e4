-- By whether cell c may stand in the stack. Assumes nothing.
use Rattle.std.proofs.Common.{◌≡◌, ◌+◌, ◌-◌, arith, sym, ◌∙◌, rules}
use Rattle.cells.proofs.Stacks.{walks-end, walks-on, walks-stuck}
use Rattle.audits.proofs.stack.stack_sound.Goals as goal

pub returns-then-not-stands : goal.returns-then-not-stands
returns-then-not-stands c =
    sym (c.loop.invariant ∙ walks-stuck _ _ _ _ (omega arith) (sym c.stands.ensures ∙ search rules))

pub loop-preserved : goal.loop-preserved
loop-preserved c =
    let one : c.args.links - c.loop.counter - 1 ≡ c.args.links - (c.loop.counter + 1) = omega arith in
    rw (c.get-c.ensures, ← one) (c.loop.invariant ∙ walks-on _ _ _ _ (omega arith) (sym c.stands.ensures ∙ search rules))

pub returns : goal.returns
returns c = sym (c.loop.invariant ∙ walks-end _ _ _ _ (omega arith))
