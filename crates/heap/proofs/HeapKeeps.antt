-- Put, remove and rekey keep a heap in order.
-- Assumes nothing.
use Prim.Native.Nat.{ℕ, ◌+◌, ◌-◌, ◌≤◌, ◌<◌}
use native.Mathlib.Omega.{arith}
use mathlib.Core.Bool.{Bool, true, false, cond}
use mathlib.Core.List.{List, [], ◌∷◌, ◌++◌}
use mathlib.Core.Logic.{◌≢◌}
use mathlib.Core.Path.{◌≡◌, refl}
use lib.Dec.{eqb}
use lib.ListN.{length, take, set, length-set, length-append}
use lib.Seq.{length-take-le}
use borrow.Author.Tests.{eqb-false}
use Rattle.meaning.specs.Entries.{Entry, before}
use Rattle.meaning.specs.Heap.{at, parent, settle, heap_put, heap_remove, heap_rekey}
use Rattle.heap.specs.HeapOrder.{InOrder, InOrderBut, MayRise}
use Rattle.meaning.proofs.Behind.{behind-trans}
use Rattle.heap.proofs.Positions.{parent-below}
use Rattle.heap.proofs.Exchanges.{at_set_other, at_take, at-append}
use Rattle.heap.proofs.Rising.{rise-keeps}
use Rattle.heap.proofs.Sinking.{settle-keeps}

-- The empty heap is in order.
pub empty-in-order : (d : ℕ) → InOrder d []
empty-in-order d = record { behind = λ p z l. absurd (omega arith) }

-- A heap cut short is in order.
pub take-in-order : (d n : ℕ) (h : List Entry) → n ≤ length h → InOrder d h → InOrder d (take n h)
take-in-order d n h b o = record { behind = each }
  where
    each : (p : ℕ) → 0 < p → p < length (take n h) → before (at (take n h) p) (at (take n h) (parent d p)) ≡ false
    each p z l =
        let short = length-take-le n h b in
        let up = parent-below d p z in
        cc (at_take n h p (omega arith), at_take n h (parent d p) (omega arith), o.behind p z (omega arith))

-- A heap in order with another entry at p is in order except at p.
pub set-in-order-but : (d p : ℕ) (e : Entry) (h : List Entry) → InOrder d h → InOrderBut d (set h p e) p
set-in-order-but d p e h o = record { away = away'; across = across' }
  where
    away' : (r : ℕ) → 0 < r → r < length (set h p e) → r ≢ p → parent d r ≢ p → before (at (set h p e) r) (at (set h p e) (parent d r)) ≡ false
    away' r z l n k =
        cc (at_set_other h p r e n, at_set_other h p (parent d r) e k, o.behind r z (omega (arith, length-set h p e)))

    across' : (r : ℕ) → 0 < r → r < length (set h p e) → 0 < p → parent d r ≡ p → before (at (set h p e) r) (at (set h p e) (parent d p)) ≡ false
    across' r z l y u =
        let down = parent-below d r z in
        let up = parent-below d p y in
        let same = length-set h p e in
        let low : before (at h r) (at h p) ≡ false = rw u at (o.behind r z (omega arith)) in
        let high = o.behind p y (omega arith) in
        let through = behind-trans (at h r) (at h p) (at h (parent d p)) low high in
        cc (at_set_other h p r e (omega arith), at_set_other h p (parent d p) e (omega arith), through)

-- A heap in order with an entry behind its last may have that entry early, and nothing else is.
pub append-may-rise : (d : ℕ) (e : Entry) (h : List Entry) → InOrder d h → MayRise d (h ++ (e ∷ [])) (length h)
append-may-rise d e h o = record { but = record { away = away'; across = λ p z l y u. none p z l u }; below = λ p z l u. none p z l u }
  where
    long : length (h ++ (e ∷ [])) ≡ length h + 1
    long = length-append h (e ∷ [])

    none : {P : Type 0} (p : ℕ) → 0 < p → p < length (h ++ (e ∷ [])) → parent d p ≡ length h → P
    none p z l u = absurd (omega (arith, long, parent-below d p z))

    away' : (p : ℕ) → 0 < p → p < length (h ++ (e ∷ [])) → p ≢ length h → parent d p ≢ length h
        → before (at (h ++ (e ∷ [])) p) (at (h ++ (e ∷ [])) (parent d p)) ≡ false
    away' p z l n k =
        let in-h : p < length h = omega (arith, long) in
        let up = parent-below d p z in
        cc (at-append h e p in-h, at-append h e (parent d p) (omega arith), o.behind p z in-h)

-- A put keeps the heap in order.
pub put-in-order : (d : ℕ) (e : Entry) (h : List Entry) → InOrder d h → InOrder d (heap_put d e h)
unfolding heap_put
put-in-order d e h o =
    rise-keeps d (length h) (length h) (h ++ (e ∷ [])) (omega arith) (omega (arith, length-append h (e ∷ []))) (append-may-rise d e h o)

module _ (d : ℕ) (some : 0 < d) where
  -- A remove keeps the heap in order.
  pub remove-in-order : (p : ℕ) (h : List Entry) → p < length h → InOrder d h → InOrder d (heap_remove d p h)
  unfolding heap_remove
  remove-in-order p h l o = go (eqb p (length h - 1)) refl
    where
      short : InOrder d (take (length h - 1) h)
      short = take-in-order d (length h - 1) h (omega arith) o

      go : (t : Bool) → eqb p (length h - 1) ≡ t
          → InOrder d (cond t (take (length h - 1) h) (settle d p (set (take (length h - 1) h) p (at h (length h - 1)))))
      go true e = short
      go false e =
          let other : p ≢ length h - 1 = eqb-false _ _ e in
          settle-keeps d some p (set (take (length h - 1) h) p (at h (length h - 1)))
          (omega (arith, length-set (take (length h - 1) h) p (at h (length h - 1)), length-take-le (length h - 1) h (omega arith)))
          (set-in-order-but d p (at h (length h - 1)) (take (length h - 1) h) short)

  -- A rekey keeps the heap in order.
  pub rekey-in-order : (p : ℕ) (e : Entry) (h : List Entry) → p < length h → InOrder d h → InOrder d (heap_rekey d p e h)
  unfolding heap_rekey
  rekey-in-order p e h l o =
      settle-keeps d some p (set h p e) (omega (arith, length-set h p e)) (set-in-order-but d p e h o)
