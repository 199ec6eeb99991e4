-- Each test that fails rules soundness out, and all together are soundness.
use Rattle.std.proofs.Common.{arith, sym, ◌∙◌}
use borrow.Author.Tests.{ne_eqb}
use Rattle.cells.proofs.Cases.{clash}
use Rattle.queue.proofs.Audits.{head-rule, fails-head, fails-count, fails-seats, passes-all}
use Rattle.queue.proofs.audit.audit.Goals as goal
use Rattle.queue.proofs.audit.audit.Goals.{then-h-free, else-h-free}

pub returns-then-not-head_sound : goal.returns-then-not-head_sound
returns-then-not-head_sound c = fails-head _ _ _ c.head_sound.ensures c.if-not-head_sound.true

pub overflow_sub-h : goal.overflow_sub-h
overflow_sub-h c = (head-rule _ (sym c.head_sound.ensures ∙ c.if-not-head_sound.false)).fits

pub seats_sound-requires : goal.seats_sound-requires
seats_sound-requires c = omega (arith, (head-rule _ (sym c.head_sound.ensures ∙ c.if-not-head_sound.false)).some)

pub returns-then-seats_sound : goal.returns-then-seats_sound
returns-then-seats_sound c =
    elim c.if-h-free.branch [
      | then-h-free w ↦
          passes-all _ _ _ c.in-Some.ensures _ c.head_sound.ensures c.if-not-head_sound.false
          w.if-h-free.true _ _ w.seats_sound.ensures (sym w.value-is ∙ c.if-seats_sound.true) c.rest_blank.ensures
      | else-h-free w ↦ clash c.if-seats_sound.true (w.value-is ∙ ne_eqb _ _ w.if-h-free.false)
    ]

pub returns-else-seats_sound : goal.returns-else-seats_sound
returns-else-seats_sound c =
    elim c.if-h-free.branch [
      | then-h-free w ↦
          rw c.if-seats_sound.false (fails-seats _ _ _ (w.value-is ∙ w.seats_sound.ensures) c.if-seats_sound.false)
      | else-h-free w ↦
          rw c.if-seats_sound.false
          (fails-count _ _ _ c.in-Some.ensures w.if-h-free.false)
    ]
