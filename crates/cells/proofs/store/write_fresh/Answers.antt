-- The loop's start, its turn, and its end, by the laws of `filled`.
use Rattle.std.proofs.Common.{◌≡◌, ◌*◌, ◌/◌, ℕ, List, length, arith}
use mathlib.Core.Path.{ap, ◌∙◌}
use lib.ListN.{set}
use Rattle.cells.proofs.Fresh.{filled, filled_none, filled_next, filled-all}
use Rattle.cells.proofs.store.write_fresh.Goals as goal

pub loop-j-init : goal.loop-j-init
loop-j-init c = filled_none _

pub loop-j-preserved : goal.loop-j-preserved
loop-j-preserved c =
    ap (λ (l : List ℕ). set l c.loop-j.j c.fresh_word.result) c.loop-j.invariant
    ∙ filled_next _ _ _ c.loop-j-test.true c.fresh_word.ensures

pub returns : goal.returns
returns c =
    let e : c.loop-j.j ≡ length c.args.w.now / 8 * 8 = omega arith in
    c.loop-j.invariant ∙ ap (λ (k : ℕ). filled c.args.w.now k) e ∙ filled-all c.args.w.now
