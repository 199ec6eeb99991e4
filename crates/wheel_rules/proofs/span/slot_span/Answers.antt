-- By whether the slot lies ahead of the clock. Assumes nothing.
use Rattle.std.proofs.Common.{arith, refl, rules}
use Rattle.wheel_rules.proofs.ListSpans.{span-passed, span-room, span-ahead}
use Rattle.wheel_rules.proofs.span.slot_span.Goals as goal

pub returns-then-s-slot : goal.returns-then-s-slot
returns-then-s-slot c = span-passed _ _ (search rules) (search rules) _ c.slot.ensures (search rules) _ refl refl

pub overflow_add-result : goal.overflow_add-result
overflow_add-result c =
    omega (
      arith,
      span-room _ _ (search rules) (search rules) _ c.slot.ensures (search rules) _ c.wake_tick-low.ensures _ c.unit_of.ensures,
    )

pub overflow_sub-result : goal.overflow_sub-result
overflow_sub-result c =
    omega (
      arith,
      span-room _ _ (search rules) (search rules) _ c.slot.ensures (search rules) _ c.wake_tick-low.ensures _ c.unit_of.ensures,
    )

pub returns : goal.returns
returns c =
    span-ahead _ _ (search rules) (search rules) _ c.slot.ensures (search rules) _ c.wake_tick-low.ensures _ c.unit_of.ensures _ refl refl
