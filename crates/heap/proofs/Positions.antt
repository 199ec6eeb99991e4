-- Where parents and children stand.
-- Assumes nothing.
use Prim.Native.Nat.{ℕ, ◌+◌, ◌-◌, ◌*◌, ◌≤◌, ◌<◌}
use native.Mathlib.Nat.{div-le_self, div-add-mod, mod-lt, div-eq_of_lt-le, mul_comm, mul-add, mul-le-mul_right}
use native.Mathlib.Omega.{arith}
use mathlib.Core.Logic.{◌↔◌}
use mathlib.Core.Path.{◌≡◌}
use Rattle.meaning.specs.Heap.{parent}

-- A parent stands before its children, whatever the arity.
pub parent-below : (d p : ℕ) → 0 < p → parent d p < p
unfolding parent
parent-below d p h = omega (arith, div-le_self (p - 1) d)

module _ (d : ℕ) (some : 0 < d) where
  -- The first child stands behind.
  pub first-behind : (p : ℕ) → p < d * p + 1
  first-behind p = omega (arith, mul-le-mul_right p some)

  -- Each position stands among the d children of its parent.
  pub child-range : (q : ℕ) → 0 < q → (d * parent d q + 1 ≤ q) × (q ≤ d * parent d q + d)
  unfolding parent
  child-range q h = omega (arith, div-add-mod (q - 1) d, mod-lt (q - 1) some)

  -- Each of the d positions from d p + 1 has the parent p.
  pub parent_of : (p q : ℕ) → d * p + 1 ≤ q → q ≤ d * p + d → parent d q ≡ p
  unfolding parent
  parent_of p q low high =
      div-eq_of_lt-le d
      (omega (arith, mul_comm p d))
      (omega (arith, mul_comm (p + 1) d, mul-add d p 1))

  -- The children of p are exactly the positions d p + 1 to d p + d.
  pub children : (p q : ℕ) → 0 < q → (parent d q ≡ p) ↔ ((d * p + 1 ≤ q) × (q ≤ d * p + d))
  children p q h = ((λ e. rw e at (child-range q h)), (λ r. parent_of p q r.0 r.1))
