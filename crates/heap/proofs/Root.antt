-- The root of a heap in order: no entry is before it.
-- Assumes nothing.
use Prim.Native.Nat.{ℕ, zero, suc, ◌≤◌, ◌<◌}
use native.Mathlib.Omega.{arith}
use mathlib.Core.Bool.{false}
use mathlib.Core.List.{List}
use mathlib.Core.Path.{◌≡◌}
use lib.ListN.{length}
use Rattle.cells.proofs.Cases.{same?}
use Rattle.meaning.specs.Entries.{Entry, before}
use Rattle.meaning.specs.Heap.{at, parent}
use Rattle.heap.specs.HeapOrder.{InOrder}
use Rattle.meaning.proofs.Behind.{behind-trans, behind-self}
use Rattle.heap.proofs.Positions.{parent-below}

-- No entry of a heap in order is before the root's.
pub root-first : (d : ℕ) (h : List Entry) → InOrder d h → (p : ℕ) → p < length h → before (at h p) (at h 0) ≡ false
root-first d h o p l = climb p p (omega arith) l
  where
    climb : (k p : ℕ) → p ≤ k → p < length h → before (at h p) (at h 0) ≡ false
    climb zero p b l =
        let e : p ≡ 0 = omega arith in
        rw e (behind-self (at h 0))
    climb (suc k) p b l =
        same? p 0
        (λ e. rw e (behind-self (at h 0)))
        (λ n. let up = parent-below d p (omega arith) in
        behind-trans (at h p) (at h (parent d p)) (at h 0) (o.behind p (omega arith) l) (climb k (parent d p) (omega arith) (omega arith)))
