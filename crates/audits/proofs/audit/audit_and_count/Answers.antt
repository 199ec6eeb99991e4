-- Each test that fails rules soundness out, and all together are soundness. Assumes nothing.
use Rattle.std.proofs.Common.{rules}
use Rattle.audits.proofs.Audits.{refused-size, refused-entry, refused-stack, accepted-tables, accepted-differ}
use Rattle.audits.proofs.audit.audit_and_count.Goals as goal
use Rattle.audits.proofs.audit.audit_and_count.Goals.{then-told-via-then-told, then-told-via-else-told+then-numbers_differ}

pub returns-then-not-size_sound : goal.returns-then-not-size_sound
returns-then-not-size_sound c = refused-size _ _ _ _ _ c.size_sound.ensures c.if-not-size_sound.true

pub returns-in_err-seen : goal.returns-in_err-seen
returns-in_err-seen c = rw c.from_residual.ensures (refused-entry _ _ _ _ c.in_err-seen.ensures)

pub returns-then-not-stack_sound : goal.returns-then-not-stack_sound
returns-then-not-stack_sound c = refused-stack _ _ _ _ _ c.in_ok-seen.ensures _ c.stack_sound.ensures c.if-not-stack_sound.true

pub returns-then-told : goal.returns-then-told
returns-then-told c =
    elim c.then-told.branch [
      | then-told-via-then-told w ↦
          accepted-tables _ _ _ _ _ c.in_ok-seen.ensures _ c.stack_sound.ensures _
          c.size_sound.ensures c.if-not-size_sound.false c.if-not-stack_sound.false (search rules)
      | then-told-via-else-told+then-numbers_differ w ↦
          accepted-differ _ _ _ _ _ c.in_ok-seen.ensures _ c.stack_sound.ensures _
          c.size_sound.ensures c.if-not-size_sound.false c.if-not-stack_sound.false _
          w.numbers_differ.ensures w.if-numbers_differ.true
    ]
