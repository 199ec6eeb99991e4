-- A position is held against its own family, and so against its parent.
use Rattle.std.proofs.Common.{arith, refl, sym, ◌∙◌}
use Rattle.audits.specs.AuditTests.{all_below}
use Rattle.audits.proofs.Below.{below_step, below_fails}
use Rattle.queue.proofs.Families.{turn-root, turn-own, own_turn, own-seat}
use Rattle.queue.proofs.audit.seats_sound.Goals as goal

pub loop-p-init : goal.loop-p-init
unfolding all_below
loop-p-init c = (turn-root _ _ (omega arith), refl)

pub family_of-f-requires : goal.family_of-f-requires
family_of-f-requires c = omega (arith, c.loop-p.invariant.0.early)

pub returns-then-not-seat_sound : goal.returns-then-not-seat_sound
returns-then-not-seat_sound c =
    let own = turn-own _ _ (omega arith) _ _ _ c.family_of-f.ensures c.loop-p.invariant.0 in
    sym
    (below_fails _ _ _ (omega arith)
    (sym (own-seat _ _ (omega arith) _ _ _ own) ∙ sym c.seat_sound.ensures ∙ c.if-not-seat_sound.true))

pub overflow_sub-f : goal.overflow_sub-f
overflow_sub-f c = (turn-own _ _ (omega arith) _ _ _ c.family_of-f.ensures c.loop-p.invariant.0).some

pub loop-p-preserved : goal.loop-p-preserved
loop-p-preserved c =
    let own = turn-own _ _ (omega arith) _ _ _ c.family_of-f.ensures c.loop-p.invariant.0 in (
      own_turn _ _ (omega arith) _ _ _ refl refl refl refl own,
      below_step _ _ c.loop-p.invariant.1
          (sym (own-seat _ _ (omega arith) _ _ _ own) ∙ sym c.seat_sound.ensures ∙ c.if-not-seat_sound.false),
    )
