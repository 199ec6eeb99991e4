-- The first test that fails decides, or the last. Assumes nothing.
use Rattle.std.proofs.Common.{refl, sym, ◌∙◌}
use Rattle.std.specs.declared.option.Option.TheVariants.{Some}
use Rattle.cells.proofs.Cases.{clash}
use Rattle.wheel_rules.proofs.Audits.{audit-dial, audit-arrays, audit-marks, audit-lists, audit-answers}
use Rattle.wheel_rules.proofs.audit.lent_sound.Goals as goal
use Rattle.wheel_rules.proofs.audit.lent_sound.Goals.{then-arrays_sound, else-arrays_sound}

pub returns-then-not-dial_sound : goal.returns-then-not-dial_sound
returns-then-not-dial_sound c = audit-answers _ _ _ (audit-dial _ _ _ c.dial_sound.ensures c.if-not-dial_sound.true)

pub returns-then-marks_sound : goal.returns-then-marks_sound
returns-then-marks_sound c =
    elim c.if-arrays_sound.branch [
      | then-arrays_sound w ↦
          audit-answers _ _ _
          (audit-lists _ _ _ c.dial_sound.ensures c.if-not-dial_sound.false (Some c.in-Some.free) c.in-Some.ensures refl _
          c.arrays_sound.ensures w.if-arrays_sound.true _ w.marks_sound.ensures (sym w.value-is ∙ c.if-marks_sound.true) _
          c.lists_sound.ensures)
      | else-arrays_sound w ↦ clash (sym w.value-is ∙ c.if-marks_sound.true) w.if-arrays_sound.false
    ]

pub returns-else-marks_sound : goal.returns-else-marks_sound
returns-else-marks_sound c =
    elim c.if-arrays_sound.branch [
      | then-arrays_sound w ↦
          audit-answers _ _ _
          (c.if-marks_sound.false
          ∙ audit-marks _ _ _ c.dial_sound.ensures c.if-not-dial_sound.false (Some c.in-Some.free) c.in-Some.ensures refl _
          c.arrays_sound.ensures w.if-arrays_sound.true _ w.marks_sound.ensures (sym w.value-is ∙ c.if-marks_sound.false))
      | else-arrays_sound w ↦
          audit-answers _ _ _
          (c.if-marks_sound.false
          ∙ audit-arrays _ _ _ c.dial_sound.ensures c.if-not-dial_sound.false (Some c.in-Some.free) c.in-Some.ensures refl _
          c.arrays_sound.ensures w.if-arrays_sound.false)
    ]
