-- A sink puts a heap in order that is in order except that children of one position may be before it.
-- Assumes nothing.
use Prim.Native.Nat.{ℕ, zero, suc, ◌+◌, ◌≤◌, ◌<◌}
use native.Mathlib.Omega.{arith}
use mathlib.Core.Bool.{Bool, true, false, cond}
use mathlib.Core.List.{List}
use mathlib.Core.Logic.{◌≢◌}
use mathlib.Core.Path.{◌≡◌, refl}
use lib.ListN.{length}
use Rattle.cells.proofs.Cases.{same?}
use Rattle.meaning.specs.Entries.{Entry, before}
use Rattle.meaning.specs.Heap.{at, parent, exchange, early, rise, earlier, child, sink, settle}
use Rattle.heap.specs.HeapOrder.{InOrder, InOrderBut, MaySink}
use Rattle.meaning.proofs.Behind.{behind-trans, before-behind}
use Rattle.heap.proofs.Positions.{parent-below}
use Rattle.heap.proofs.Exchanges.{Exchanged, exchanged}
use Rattle.heap.proofs.Children.{earlier-true, earlier-false, child-parent, child-below, child-filled-by, child-first}
use Rattle.heap.proofs.Rising.{early-true, early-false, rise-keeps}

-- A heap in which only children of i may be before it is in order if none is.
pub sink_ends : (d i : ℕ) (h : List Entry) → MaySink d h i
    → ((p : ℕ) → 0 < p → p < length h → parent d p ≡ i → before (at h p) (at h i) ≡ false) → InOrder d h
sink_ends d i h m below = record { behind = each }
  where
    each : (p : ℕ) → 0 < p → p < length h → before (at h p) (at h (parent d p)) ≡ false
    each p z l =
        same? p i
        (λ e. rw e (m.above (omega arith)))
        (λ n. same? (parent d p) i
        (λ e. rw e (below p z l e))
        (λ k. m.but.away p z l n k))

module _ (d i q : ℕ) (h g : List Entry) (x : Exchanged i q h g) (own : parent d q ≡ i) (z : 0 < q) (l : q < length h) where
  -- After an exchange with a child that no child is before, children of that child's position may be before it, and nothing else is wrong.
  pub sink-step : before (at h q) (at h i) ≡ true
      → ((p : ℕ) → 0 < p → p < length h → parent d p ≡ i → before (at h p) (at h q) ≡ false)
      → MaySink d h i → MaySink d g q
  sink-step first least m = record { but = record { away = away'; across = across' }; above = above' }
    where
      down : i < q
      down = omega (arith, parent-below d q z)

      away' : (p : ℕ) → 0 < p → p < length g → p ≢ q → parent d p ≢ q → before (at g p) (at g (parent d p)) ≡ false
      away' p y s n k =
          same? p i
          (λ t. let over = parent-below d p y in
          let side : before (at h q) (at h (parent d i)) ≡ false = m.but.across q z l (omega arith) own in
          cc (x.first, x.other (parent d p) (omega arith) k, side))
          (λ t. same? (parent d p) i
          (λ e. cc (x.other p t n, x.first, least p y (omega arith) e))
          (λ u. cc (x.other p t n, x.other (parent d p) u k, m.but.away p y (omega arith) t u)))

      across' : (p : ℕ) → 0 < p → p < length g → 0 < q → parent d p ≡ q → before (at g p) (at g (parent d q)) ≡ false
      across' p y s w e =
          let under = parent-below d p y in
          cc (own, x.other p (omega (arith, down)) (omega arith), x.first, m.but.away p y (omega arith) (omega (arith, down)) (omega (arith, down)))

      above' : 0 < q → before (at g q) (at g (parent d q)) ≡ false
      above' w = cc (own, x.first, x.second, before-behind (at h q) (at h i) first)

module _ (d : ℕ) (some : 0 < d) where
  -- A sink with enough steps ends in order.
  pub sink-keeps : (k i : ℕ) (h : List Entry) → length h ≤ k + i → MaySink d h i → InOrder d (sink d k i h)
  unfolding sink
  sink-keeps zero i h b m = sink_ends d i h m (λ p z l e. absurd (omega (arith, parent-below d p z)))
  sink-keeps (suc k) i h b m =
      go (earlier h (child d i h) i) refl
      (λ e. let two = earlier-true h (child d i h) i e in
      let down = child-below d some i h in
      let x = exchanged i (child d i h) h (omega arith) two.0 in
      sink-keeps k (child d i h) (exchange i (child d i h) h) (omega arith)
      (sink-step d i (child d i h) h (exchange i (child d i h) h) x (child-parent d some i h) (omega arith) two.0 two.1
      (child-first d some i h) m))
    where
      go : (t : Bool) → earlier h (child d i h) i ≡ t
          → (earlier h (child d i h) i ≡ true → InOrder d (sink d k (child d i h) (exchange i (child d i h) h)))
          → InOrder d (cond t (sink d k (child d i h) (exchange i (child d i h) h)) h)
      go true e rest = rest e
      go false e rest =
          sink_ends d i h m
          (λ p z l u. behind-trans (at h p) (at h (child d i h)) (at h i) (child-first d some i h p z l u)
          (earlier-false h (child d i h) i e (child-filled-by d some i h p z l u)))

  -- An entry that may be out of place both ways settles in order.
  pub settle-keeps : (i : ℕ) (h : List Entry) → i < length h → InOrderBut d h i → InOrder d (settle d i h)
  unfolding settle
  settle-keeps i h l m = go (early d i h) refl
    where
      go : (t : Bool) → early d i h ≡ t → InOrder d (cond t (rise d i i h) (sink d (length h) i h))
      go true e =
          let two = early-true d i h e in
          rise-keeps d i i h (omega arith) l
          (record {
            but = m;
            below = λ p z s u. behind-trans (at h p) (at h (parent d i)) (at h i) (m.across p z s two.0 u)
                (before-behind (at h i) (at h (parent d i)) two.1);
          })
      go false e = sink-keeps (length h) i h (omega arith) (record { but = m; above = early-false d i h e })
