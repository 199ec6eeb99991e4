-- The levels of positions: a child is one level below its parent, and no position is above one in front of it.
-- Assumes nothing.
use Prim.Native.Nat.{ℕ, zero, suc, ◌-◌, ◌≤◌, ◌<◌}
use native.Mathlib.Omega.{arith}
use mathlib.Core.List.{List}
use mathlib.Core.Path.{◌≡◌, refl, sym, ap, ◌∙◌}
use borrow.Author.Tests.{ne_eqb}
use Rattle.cells.proofs.Cases.{same?}
use Rattle.places.proofs.Numbers.{div_mono}
use Rattle.meaning.specs.Entries.{Entry}
use Rattle.meaning.specs.Heap.{parent, child, steps, levels}
use Rattle.heap.proofs.Children.{child-parent, child-below}
use Rattle.heap.proofs.Permutes.{parent-at_most}

-- At the top there is no step to make.
pub steps-top : (d k : ℕ) → steps d k 0 ≡ 0
unfolding steps
steps-top d zero = refl
steps-top d (suc k) = refl

-- Below the top there is one step more than from the parent.
pub steps-below : (d k p : ℕ) → 0 < p → steps d (suc k) p ≡ suc (steps d k (parent d p))
unfolding steps
steps-below d k p h = rw (ne_eqb p 0 (λ e. omega arith))

-- A bound that is not reached changes nothing.
pub steps-bound : (d j k p : ℕ) → p ≤ j → p ≤ k → steps d j p ≡ steps d k p
steps-bound d zero k p h i = let e : p ≡ 0 = omega arith in rw e (steps-top d 0 ∙ sym (steps-top d k))
steps-bound d (suc j) zero p h i = let e : p ≡ 0 = omega arith in rw e (steps-top d (suc j) ∙ sym (steps-top d 0))
steps-bound d (suc j) (suc k) p h i =
    same? p 0
    (λ e. rw e (steps-top d (suc j) ∙ sym (steps-top d (suc k))))
    (λ n.
    let up : parent d p ≤ p - 1 = parent-at_most d p in
    steps-below d j p (omega arith)
    ∙ ap suc (steps-bound d j k (parent d p) (omega arith) (omega arith))
    ∙ sym (steps-below d k p (omega arith)))

-- A position further back has a parent no further in front.
pub parent-order : (d p q : ℕ) → p ≤ q → parent d p ≤ parent d q
unfolding parent
parent-order d p q h = div_mono d (omega arith)

-- A position further back has no fewer steps to make.
pub steps-order : (d k p q : ℕ) → p ≤ q → steps d k p ≤ steps d k q
steps-order d zero p q h = unfold steps in omega arith
steps-order d (suc k) p q h =
    same? p 0
    (λ e. rw e (omega (arith, steps-top d (suc k))))
    (λ n.
    omega (
      arith,
      steps-below d k p (omega arith),
      steps-below d k q (omega arith),
      steps-order d k (parent d p) (parent d q) (parent-order d p q h),
    ))

-- The same with each position as its own bound.
pub steps-own : (d p q : ℕ) → p ≤ q → steps d p p ≤ steps d q q
steps-own d p q h = omega (arith, steps-bound d p q p (omega arith) h, steps-order d q p q h)

-- A position is one step further from the top than its parent.
pub steps-parent : (d p : ℕ) → 0 < p → steps d p p ≡ suc (steps d (parent d p) (parent d p))
steps-parent d zero h = absurd (omega arith)
steps-parent d (suc p) h =
    steps-below d p (suc p) h
    ∙ ap suc (steps-bound d p (parent d (suc p)) (parent d (suc p)) (omega (arith, parent-at_most d (suc p))) (omega arith))

-- The steps from a position that is filled are fewer than the levels.
pub steps-levels : (d p n : ℕ) → p < n → steps d p p < levels d n
steps-levels d p zero h = absurd (omega arith)
steps-levels d p (suc m) h = unfold levels in omega (arith, steps-own d p m (omega arith))

-- More entries have no fewer levels.
pub levels-order : (d m n : ℕ) → m ≤ n → levels d m ≤ levels d n
levels-order d zero n h = unfold levels in omega arith
levels-order d (suc m) zero h = absurd (omega arith)
levels-order d (suc m) (suc n) h = unfold levels in omega (arith, steps-own d m n (omega arith))

-- The earliest child is one level further down.
pub steps-child : (d p : ℕ) (h : List Entry) → 1 ≤ d → steps d (child d p h) (child d p h) ≡ suc (steps d p p)
steps-child d p h i =
    steps-parent d (child d p h) (omega (arith, child-below d i p h))
    ∙ ap (λ (q : ℕ). suc (steps d q q)) (child-parent d i p h)
