-- One outcome of the public parts of the audits that tell more than yes or no.
-- Assumes nothing.
use Prim.Native.Nat.{ℕ}
use mathlib.Core.Bool.{Bool}
use mathlib.Core.List.{List}
use mathlib.Core.Path.{◌≡◌, refl, sym, ap, ◌∙◌}
use Rattle.cells.specs.declared.store.Store.{Store}
use Rattle.audits.specs.Verdicts.{Judged}
use Rattle.std.specs.Prelude.{Option, Some, None}
use Rattle.cells.proofs.Cases.{clash}
use Rattle.slots.specs.declared.ring.Ends.{Ends}
use Rattle.wheel_rules.specs.AuditTests.{WalkFound}
use Rattle.wheel_rules.specs.declared.walk.Noted.{Noted}

-- `audit_and_count` of audits.
pub one-verdict : (w : List ℕ) (s : Store) (used free : ℕ) (v v' : Option ℕ) → Judged w s used free v → Judged w s used free v' → v ≡ v'
one-verdict w s used free None None p q = refl
one-verdict w s used free None (Some n) p q = clash (p.exact.1 (q.exact.0 refl)) refl
one-verdict w s used free (Some n) None p q = clash (q.exact.1 (p.exact.0 refl)) refl
one-verdict w s used free (Some n) (Some n') p q = ap (λ (k : ℕ). Some k) (p.count ∙ sym q.count)

-- `walked` of wheel_rules.
pub one-walk : (w : List ℕ) (n t : ℕ) (ends : ℕ → Ends) (r r' : Option Noted) → WalkFound w n t ends r → WalkFound w n t ends r' → r ≡ r'
one-walk w n t ends None None p q = refl
one-walk w n t ends None (Some x) p q = clash refl (q.sound ∙ sym p.sound)
one-walk w n t ends (Some x) None p q = clash refl (p.sound ∙ sym q.sound)
one-walk w n t ends (Some x) (Some y) p q = ap (λ (z : Noted). Some z) (noted-same x y (p.count ∙ sym q.count) (p.rise ∙ sym q.rise))
  where
    made : ℕ → Bool → Noted
    made a c = record { count = a; rise = c }

    noted-same : (x y : Noted) → x.count ≡ y.count → x.rise ≡ y.rise → x ≡ y
    noted-same x y a c = ap (λ (k : ℕ). made k x.rise) a ∙ ap (made y.count) c
