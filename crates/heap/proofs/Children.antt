-- The child that a sink goes past: it stands among the children, and no child is before it.
-- Assumes nothing.
use Prim.Native.Nat.{ℕ, zero, suc, ◌+◌, ◌-◌, ◌*◌, ◌≤◌, ◌<◌}
use native.Mathlib.Omega.{arith}
use mathlib.Core.Bool.{Bool, true, false, cond}
use mathlib.Core.List.{List}
use mathlib.Core.Path.{◌≡◌, refl}
use lib.Dec.{ltb}
use lib.ListN.{length}
use borrow.Author.Tests.{ltb-true, lt-ltb}
use Rattle.cells.proofs.Cases.{same?, and-true}
use Rattle.meaning.specs.Entries.{Entry, before}
use Rattle.meaning.specs.Heap.{at, parent, earlier, earliest_of, child}
use Rattle.meaning.proofs.Behind.{behind-trans, before-behind, behind-self}
use Rattle.heap.proofs.Positions.{child-range, parent_of}

-- A position that is earlier is filled, and its entry is before the other.
pub earlier-true : (h : List Entry) (q p : ℕ) → earlier h q p ≡ true → (q < length h) × (before (at h q) (at h p) ≡ true)
unfolding earlier
earlier-true h q p e =
    let two = and-true (ltb q (length h)) (before (at h q) (at h p)) e in
    (ltb-true _ _ two.0, two.1)

-- A filled position that is not earlier is not before the other.
pub earlier-false : (h : List Entry) (q p : ℕ) → earlier h q p ≡ false → q < length h → before (at h q) (at h p) ≡ false
unfolding earlier
earlier-false h q p e l = rw (lt-ltb q (length h) l) at e

-- The earliest of some positions is one of them.
pub earliest-among : (m p : ℕ) (h : List Entry) → (p ≤ earliest_of m p h) × (earliest_of m p h ≤ p + m)
unfolding earliest_of
earliest-among zero p h = omega arith
earliest-among (suc m) p h = go (earlier h (earliest_of m (suc p) h) p) (earliest-among m (suc p) h)
  where
    go : (t : Bool) → (suc p ≤ earliest_of m (suc p) h) × (earliest_of m (suc p) h ≤ suc p + m)
        → (p ≤ cond t (earliest_of m (suc p) h) p) × (cond t (earliest_of m (suc p) h) p ≤ p + suc m)
    go true r = omega arith
    go false r = omega arith

-- If the first of them is filled, so is the earliest.
pub earliest-filled : (m p : ℕ) (h : List Entry) → p < length h → earliest_of m p h < length h
unfolding earliest_of
earliest-filled zero p h l = l
earliest-filled (suc m) p h l = go (earlier h (earliest_of m (suc p) h) p) refl
  where
    go : (t : Bool) → earlier h (earliest_of m (suc p) h) p ≡ t → cond t (earliest_of m (suc p) h) p < length h
    go true e = (earlier-true h (earliest_of m (suc p) h) p e).0
    go false e = l

-- None of them that is filled is before the earliest.
pub earliest-first : (m p : ℕ) (h : List Entry) (r : ℕ) → p ≤ r → r ≤ p + m → r < length h → before (at h r) (at h (earliest_of m p h)) ≡ false
unfolding earliest_of
earliest-first zero p h r low high l =
    let e : r ≡ p = omega arith in
    rw e (behind-self (at h p))
earliest-first (suc m) p h r low high l =
    go (earlier h (earliest_of m (suc p) h) p) refl (λ a. earliest-first m (suc p) h r a (omega arith) l)
  where
    go : (t : Bool) → earlier h (earliest_of m (suc p) h) p ≡ t
        → (suc p ≤ r → before (at h r) (at h (earliest_of m (suc p) h)) ≡ false)
        → before (at h r) (at h (cond t (earliest_of m (suc p) h) p)) ≡ false
    go true e rest =
        same? r p
        (λ s. rw s (before-behind (at h (earliest_of m (suc p) h)) (at h p) (earlier-true h (earliest_of m (suc p) h) p e).1))
        (λ n. rest (omega arith))
    go false e rest =
        same? r p
        (λ s. rw s (behind-self (at h p)))
        (λ n. behind-trans (at h r) (at h (earliest_of m (suc p) h)) (at h p) (rest (omega arith))
        (earlier-false h (earliest_of m (suc p) h) p e (earliest-filled m (suc p) h (omega arith))))

-- The child of p stands at d p + 1 or behind it.
pub child-from : (d p : ℕ) (h : List Entry) → d * p + 1 ≤ child d p h
unfolding child
child-from d p h = (earliest-among (d - 1) (d * p + 1) h).0

-- If p has a filled child, its earliest is filled.
pub child-filled : (d p : ℕ) (h : List Entry) → d * p + 1 < length h → child d p h < length h
unfolding child
child-filled d p h l = earliest-filled (d - 1) (d * p + 1) h l

module _ (d : ℕ) (some : 0 < d) where
  -- It stands at d p + d or in front of it.
  pub child-to : (p : ℕ) (h : List Entry) → child d p h ≤ d * p + d
  unfolding child
  child-to p h = omega (arith, (earliest-among (d - 1) (d * p + 1) h).1)

  -- Its parent is p.
  pub child-parent : (p : ℕ) (h : List Entry) → parent d (child d p h) ≡ p
  child-parent p h = parent_of d some p (child d p h) (child-from d p h) (child-to p h)

  -- It stands behind p.
  pub child-below : (p : ℕ) (h : List Entry) → p < child d p h
  child-below p h = omega (arith, child-from d p h, at_least d p some)
    where
      at_least : (d p : ℕ) → 0 < d → p ≤ d * p
      at_least zero p l = absurd (omega arith)
      at_least (suc e) p l = omega arith

  -- A position with the parent p means that the earliest child of p is filled.
  pub child-filled-by : (p : ℕ) (h : List Entry) (r : ℕ) → 0 < r → r < length h → parent d r ≡ p → child d p h < length h
  child-filled-by p h r z l e =
      let range : (d * p + 1 ≤ r) × (r ≤ d * p + d) = rw e at (child-range d some r z) in
      child-filled d p h (omega arith)

  -- No filled child of p is before the earliest.
  pub child-first : (p : ℕ) (h : List Entry) (r : ℕ) → 0 < r → r < length h → parent d r ≡ p → before (at h r) (at h (child d p h)) ≡ false
  unfolding child
  child-first p h r z l e =
      let range : (d * p + 1 ≤ r) × (r ≤ d * p + d) = rw e at (child-range d some r z) in
      earliest-first (d - 1) (d * p + 1) h r range.0 (omega arith) l
