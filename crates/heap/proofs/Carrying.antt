-- A heap's steps are exchanges only: what every exchange of two filled positions keeps, they keep.
-- Assumes nothing.
use Prim.Native.Nat.{ℕ, zero, suc, ◌<◌}
use native.Mathlib.Omega.{arith}
use mathlib.Core.Bool.{Bool, true, false, cond}
use mathlib.Core.List.{List}
use mathlib.Core.Path.{◌≡◌, refl}
use lib.ListN.{length}
use Rattle.meaning.specs.Entries.{Entry}
use Rattle.meaning.specs.Heap.{parent, exchange, early, rise, earlier, child, sink, settle}
use Rattle.heap.proofs.Positions.{parent-below}
use Rattle.heap.proofs.Exchanges.{length-exchange}
use Rattle.heap.proofs.Children.{earlier-true}
use Rattle.heap.proofs.Rising.{early-true}

module _ (P : List Entry → Type 0)
    (kept : (p q : ℕ) (h : List Entry) → p < length h → q < length h → P h → P (exchange p q h)) where
  -- A rise keeps what exchanges keep.
  pub rise-carries : (d k i : ℕ) (h : List Entry) → i < length h → P h → P (rise d k i h)
  unfolding rise
  rise-carries d zero i h l m = m
  rise-carries d (suc k) i h l m =
      go (early d i h) refl
      (λ e. let up = parent-below d i (early-true d i h e).0 in
      rise-carries d k (parent d i) (exchange i (parent d i) h)
      (omega (arith, length-exchange i (parent d i) h)) (kept i (parent d i) h l (omega arith) m))
    where
      go : (t : Bool) → early d i h ≡ t
          → (early d i h ≡ true → P (rise d k (parent d i) (exchange i (parent d i) h)))
          → P (cond t (rise d k (parent d i) (exchange i (parent d i) h)) h)
      go true e rest = rest e
      go false e rest = m

  -- A sink keeps what exchanges keep.
  pub sink-carries : (d k i : ℕ) (h : List Entry) → i < length h → P h → P (sink d k i h)
  unfolding sink
  sink-carries d zero i h l m = m
  sink-carries d (suc k) i h l m =
      go (earlier h (child d i h) i) refl
      (λ e. let filled = (earlier-true h (child d i h) i e).0 in
      sink-carries d k (child d i h) (exchange i (child d i h) h)
      (omega (arith, length-exchange i (child d i h) h)) (kept i (child d i h) h l filled m))
    where
      go : (t : Bool) → earlier h (child d i h) i ≡ t
          → (earlier h (child d i h) i ≡ true → P (sink d k (child d i h) (exchange i (child d i h) h)))
          → P (cond t (sink d k (child d i h) (exchange i (child d i h) h)) h)
      go true e rest = rest e
      go false e rest = m

  -- Whichever way an entry settles, what exchanges keep is kept.
  pub settle-carries : (d i : ℕ) (h : List Entry) → i < length h → P h → P (settle d i h)
  unfolding settle
  settle-carries d i h l m = go (early d i h)
    where
      go : (t : Bool) → P (cond t (rise d i i h) (sink d (length h) i h))
      go true = rise-carries d i i h l m
      go false = sink-carries d (length h) i h l m
