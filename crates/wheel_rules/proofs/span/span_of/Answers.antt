-- There is no such list, or it is the due list. Assumes nothing.
use Rattle.std.proofs.Common.{◌≤◌, inl, inr, refl}
use borrow.Author.Tests.{lt-ltb, le-ltb}
use Rattle.wheel_rules.proofs.ListSpans.{span-no-list, span-due}
use Rattle.wheel_rules.proofs.span.span_of.Goals as goal

pub returns-then-clock-gt68719476735 : goal.returns-then-clock-gt68719476735
returns-then-clock-gt68719476735 c =
    elim c.then-clock-gt68719476735.either [
      | inl h ↦ span-no-list _ _ (rw (lt-ltb _ _ h)) _ refl refl
      | inr h ↦ span-no-list _ _ (rw (le-ltb _ _ h.0, lt-ltb _ _ h.1)) _ refl refl
    ]

pub returns-then-i-eq384 : goal.returns-then-i-eq384
returns-then-i-eq384 c =
    let tick : c.args.clock ≤ 68719476735 = c.if-clock-gt68719476735.false in
    let few : c.args.i ≤ 384 = c.if-i-gt384.false in
    span-due _ _ (rw (le-ltb _ _ tick, le-ltb _ _ few)) c.if-i-eq384.true _ refl refl
