-- Which fields a mask names, from a table of the eight that an engine computes.
-- Assumes nothing.
use Prim.Native.Nat.{ℕ, ◌<◌}
use mathlib.Core.Bool.{true, not, ◌||◌}
use mathlib.Core.Path.{◌≡◌}
use lib.Dec.{eqb}
use borrow.Author.Tests.{eqb-true, not-true}
use Rattle.cells.specs.Rules.{in_mask}
use Rattle.audits.specs.AuditTests.{all_below}
use Rattle.cells.proofs.Cases.{clash, or-true}
use Rattle.audits.proofs.Below.{below_each}

-- A field of a mask that names no field but a and b is one of the two.
pub mask-only :
    {P : Type 0} (m a b f : ℕ)
    → all_below 8 (λ (g : ℕ). not (in_mask m g) || (eqb g a || eqb g b)) ≡ true
    → f < 8
    → in_mask m f ≡ true
    → (f ≡ a → P)
    → (f ≡ b → P)
    → P
mask-only m a b f table h t p q =
    or-true (not (in_mask m f)) (eqb f a || eqb f b)
    (below_each (λ (g : ℕ). not (in_mask m g) || (eqb g a || eqb g b)) 8 table f h)
    (λ e. clash t (not-true (in_mask m f) e))
    (λ e. or-true (eqb f a) (eqb f b) e (λ k. p (eqb-true f a k)) (λ k. q (eqb-true f b k)))
