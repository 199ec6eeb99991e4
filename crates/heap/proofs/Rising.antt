-- A rise puts a heap in order that is in order except that one entry may be before its parent.
-- Assumes nothing.
use Prim.Native.Nat.{ℕ, zero, suc, ◌≤◌, ◌<◌}
use native.Mathlib.Omega.{arith}
use mathlib.Core.Bool.{Bool, true, false, cond}
use mathlib.Core.List.{List}
use mathlib.Core.Logic.{◌≢◌}
use mathlib.Core.Path.{◌≡◌, refl, ap, ◌∙◌}
use lib.Dec.{ltb}
use lib.ListN.{length}
use borrow.Author.Tests.{ltb-true, lt-ltb}
use Rattle.cells.proofs.Cases.{same?, and-true}
use Rattle.meaning.specs.Entries.{Entry, before}
use Rattle.meaning.specs.Heap.{at, parent, exchange, early, rise}
use Rattle.heap.specs.HeapOrder.{InOrder, MayRise}
use Rattle.meaning.proofs.Behind.{behind-trans, before-behind}
use Rattle.heap.proofs.Positions.{parent-below}
use Rattle.heap.proofs.Exchanges.{Exchanged, exchanged}

-- An entry that is early is not the root's, and is before its parent.
pub early-true : (d p : ℕ) (h : List Entry) → early d p h ≡ true → (0 < p) × (before (at h p) (at h (parent d p)) ≡ true)
unfolding early
early-true d p h e =
    let two = and-true (ltb 0 p) (before (at h p) (at h (parent d p))) e in
    (ltb-true _ _ two.0, two.1)

-- One that is not early is not before its parent, if it has one.
pub early-false : (d p : ℕ) (h : List Entry) → early d p h ≡ false → 0 < p → before (at h p) (at h (parent d p)) ≡ false
unfolding early
early-false d p h e l = rw (lt-ltb 0 p l) at e

-- A heap in which only i's entry may be before its parent is in order if it is not.
pub rise-ends : (d i : ℕ) (h : List Entry) → MayRise d h i → (0 < i → before (at h i) (at h (parent d i)) ≡ false) → InOrder d h
rise-ends d i h m above = record { behind = each }
  where
    each : (p : ℕ) → 0 < p → p < length h → before (at h p) (at h (parent d p)) ≡ false
    each p z l =
        same? p i
        (λ e. rw e (above (omega arith)))
        (λ n. same? (parent d p) i
        (λ e. rw e (m.below p z l e))
        (λ k. m.but.away p z l n k))

module _ (d i q : ℕ) (h g : List Entry) (x : Exchanged i q h g) (own : parent d i ≡ q) (z : 0 < i) (l : i < length h) where
  -- After an exchange with its parent, an early entry may be early there, and nothing else is.
  pub rise-step : before (at h i) (at h q) ≡ true → MayRise d h i → MayRise d g q
  rise-step first m = record { but = record { away = away'; across = across' }; below = below' }
    where
      up : q < i
      up = omega (arith, parent-below d i z)

      -- The other children of q are not before q's entry.
      beside : (p : ℕ) → 0 < p → p < length h → p ≢ i → parent d p ≡ q → before (at h p) (at h q) ≡ false
      beside p y s n e = rw e at (m.but.away p y s n (omega (arith, up)))

      away' : (p : ℕ) → 0 < p → p < length g → p ≢ q → parent d p ≢ q → before (at g p) (at g (parent d p)) ≡ false
      away' p y s n k =
          let off : p ≢ i = (λ e. k (ap (parent d) e ∙ own)) in
          same? (parent d p) i
          (λ e. cc (x.other p off n, x.first, m.but.across p y (omega arith) z e))
          (λ t. cc (x.other p off n, x.other (parent d p) t k, m.but.away p y (omega arith) off t))

      across' : (p : ℕ) → 0 < p → p < length g → 0 < q → parent d p ≡ q → before (at g p) (at g (parent d q)) ≡ false
      across' p y s w e =
          let over : parent d q < q = parent-below d q w in
          let above = m.but.away q w (omega (arith, up)) (omega (arith, up)) (omega (arith, up)) in
          let top = x.other (parent d q) (omega (arith, up)) (omega arith) in
          same? p i
          (λ t. cc (x.first, top, above))
          (λ t. let through = behind-trans (at h p) (at h q) (at h (parent d q)) (beside p y (omega arith) t e) above in
          cc (x.other p t (omega (arith, parent-below d p y)), top, through))

      below' : (p : ℕ) → 0 < p → p < length g → parent d p ≡ q → before (at g p) (at g q) ≡ false
      below' p y s e =
          let turned = before-behind (at h i) (at h q) first in
          same? p i
          (λ t. cc (x.first, x.second, turned))
          (λ t. let through = behind-trans (at h p) (at h q) (at h i) (beside p y (omega arith) t e) turned in
          cc (x.other p t (omega (arith, parent-below d p y)), x.second, through))

-- A rise with enough steps ends in order.
pub rise-keeps : (d k i : ℕ) (h : List Entry) → i ≤ k → i < length h → MayRise d h i → InOrder d (rise d k i h)
unfolding rise
rise-keeps d zero i h b l m = rise-ends d i h m (λ z. absurd (omega arith))
rise-keeps d (suc k) i h b l m =
    go (early d i h) refl
    (λ e. let two = early-true d i h e in
    let up = parent-below d i two.0 in
    let x = exchanged i (parent d i) h l (omega arith) in
    rise-keeps d k (parent d i) (exchange i (parent d i) h) (omega arith) (omega arith)
    (rise-step d i (parent d i) h (exchange i (parent d i) h) x refl two.0 l two.1 m))
  where
    go : (t : Bool) → early d i h ≡ t
        → (early d i h ≡ true → InOrder d (rise d k (parent d i) (exchange i (parent d i) h)))
        → InOrder d (cond t (rise d k (parent d i) (exchange i (parent d i) h)) h)
    go true e rest = rest e
    go false e rest = rise-ends d i h m (early-false d i h e)
