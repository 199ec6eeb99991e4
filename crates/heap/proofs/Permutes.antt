-- The steps of a heap permute its entries: every number that entries have stands as often after a step as before.
-- Assumes nothing.
use Prim.Native.Nat.{ℕ, zero, suc, ◌-◌, ◌≤◌, ◌<◌}
use native.Mathlib.Nat.{div-le_self}
use native.Mathlib.Omega.{arith}
use mathlib.Core.Bool.{true}
use mathlib.Core.List.{List, [], ◌∷◌, ◌++◌, map}
use mathlib.Core.Path.{◌≡◌, refl, sym, ap, ◌∙◌}
use lib.Dec.{ltb, eqb}
use lib.ListN.{length, get_or, take, set, length-append, length-set}
use lib.Seq.{get_or-set_same, get_or-set_other, get_or-take, length-take-le, take-length, take-suc}
use borrow.Author.Tests.{ltb-true, eqb-true, eqb-false}
use Rattle.cells.specs.Lists.{times}
use Rattle.cells.proofs.Cases.{same?, and-true, by-arms}
use Rattle.cells.proofs.Lists.{times-append}
use Rattle.meaning.specs.Entries.{Entry, before, nobody}
use Rattle.heap.proofs.Exchanges.{length-exchange}
use Rattle.meaning.specs.Heap.{at, parent, exchange, early, rise, earlier, child, sink, settle, heap_put, heap_remove, heap_rekey}
use Rattle.meaning.proofs.Handles.{map-append}

-- A parent stands no further back than its child.
pub parent-at_most : (d p : ℕ) → parent d p ≤ p - 1
unfolding parent
parent-at_most d p = div-le_self (p - 1) d

-- Only a filled position is earlier.
pub earlier-filled : (h : List Entry) (q p : ℕ) → earlier h q p ≡ true → q < length h
unfolding earlier
earlier-filled h q p e = ltb-true q (length h) (and-true (ltb q (length h)) (before (at h q) (at h p)) e).0

-- Only a position that has a parent is early.
pub early-above : (d p : ℕ) (h : List Entry) → early d p h ≡ true → 0 < p
unfolding early
early-above d p h e = ltb-true 0 p (and-true (ltb 0 p) (before (at h p) (at h (parent d p))) e).0

-- Writing the entry of q at p leaves what stands at q.
at-copied : (h : List Entry) (p q : ℕ) → p < length h → at (set h p (at h q)) q ≡ at h q
unfolding at
at-copied h p q i =
    same? q p
    (λ e. rw e (get_or-set_same h p (get_or h p nobody) nobody i))
    (λ n. get_or-set_other h p q (get_or h q nobody) nobody n)

module _ (f : Entry → ℕ) (k : ℕ) where
  -- Where one entry is written over another, it counts and the other does not.
  pub times-set : (h : List Entry) (p : ℕ) (e : Entry) → p < length h
      → times k (f (at h p) ∷ map f (set h p e)) ≡ times k (f e ∷ map f h)
  unfolding times at
  times-set [] p e i = absurd (omega arith)
  times-set (x ∷ xs) zero e i = omega arith
  times-set (x ∷ xs) (suc p) e i = omega (arith, times-set xs p e (omega arith))

  -- An exchange of two entries permutes.
  pub times-exchange : (p q : ℕ) (h : List Entry) → p < length h → q < length h
      → times k (map f (exchange p q h)) ≡ times k (map f h)
  unfolding times exchange
  times-exchange p q h i j =
      let inside : q < length (set h p (at h q)) = simp length-set j in
      let second = times-set (set h p (at h q)) q (at h p) inside in
      omega (arith, times-set h p (at h q) i, rw (at-copied h p q i) at second)

  -- A rise permutes.
  pub times-rise : (d j p : ℕ) (h : List Entry) → p < length h → times k (map f (rise d j p h)) ≡ times k (map f h)
  unfolding rise
  times-rise d zero p h i = refl
  times-rise d (suc j) p h i =
      let q : ℕ = parent d p in
      let filled : q < length h = omega (arith, parent-at_most d p) in
      let inside : q < length (exchange p q h) = rw (length-exchange p q h) filled in
      by-arms (λ (l : List Entry). times k (map f l) ≡ times k (map f h)) (early d p h) _ h
      (λ e. times-rise d j q (exchange p q h) inside ∙ times-exchange p q h i filled)
      (λ e. refl)

  -- A sink permutes.
  pub times-sink : (d j p : ℕ) (h : List Entry) → p < length h → times k (map f (sink d j p h)) ≡ times k (map f h)
  unfolding sink
  times-sink d zero p h i = refl
  times-sink d (suc j) p h i =
      let q : ℕ = child d p h in
      by-arms (λ (l : List Entry). times k (map f l) ≡ times k (map f h)) (earlier h q p) _ h
      (λ e.
      let filled : q < length h = earlier-filled h q p e in
      let inside : q < length (exchange p q h) = rw (length-exchange p q h) filled in
      times-sink d j q (exchange p q h) inside ∙ times-exchange p q h i filled)
      (λ e. refl)

  -- Settling permutes.
  pub times-settle : (d p : ℕ) (h : List Entry) → p < length h → times k (map f (settle d p h)) ≡ times k (map f h)
  unfolding settle
  times-settle d p h i =
      by-arms (λ (l : List Entry). times k (map f l) ≡ times k (map f h)) (early d p h) _ _
      (λ e. times-rise d p p h i)
      (λ e. times-sink d (length h) p h i)

  -- After a put the heap holds what it held, and the new entry.
  pub times-put : (d : ℕ) (e : Entry) (h : List Entry) → times k (map f (heap_put d e h)) ≡ times k (f e ∷ map f h)
  unfolding heap_put times
  times-put d e h =
      let inside : length h < length (h ++ (e ∷ [])) = omega (arith, length-append h (e ∷ [])) in
      times-rise d (length h) (length h) (h ++ (e ∷ [])) inside
      ∙ rw (map-append f h (e ∷ [])) (omega (arith, times-append k (map f h) (f e ∷ [])))

  -- The last entry and those in front of it are all.
  pub times-last : (h : List Entry) → 0 < length h
      → times k (map f h) ≡ times k (f (at h (length h - 1)) ∷ map f (take (length h - 1) h))
  unfolding times at
  times-last h i =
      let n : ℕ = length h - 1 in
      let back : suc n ≡ length h = omega arith in
      let whole : take n h ++ (get_or h n nobody ∷ []) ≡ h =
      sym (take-suc h n nobody (omega arith)) ∙ rw back (take-length h) in
      let parts : map f h ≡ map f (take n h) ++ (f (get_or h n nobody) ∷ []) =
      ap (λ (l : List Entry). map f l) (sym whole) ∙ map-append f (take n h) (get_or h n nobody ∷ []) in
      rw parts (omega (arith, times-append k (map f (take n h)) (f (get_or h n nobody) ∷ [])))

  -- The last entry written over another: what was held stands there, but for the other.
  pub times-fill : (p : ℕ) (h : List Entry) → suc p < length h
      → times k (map f h) ≡ times k (f (at h p) ∷ map f (set (take (length h - 1) h) p (at h (length h - 1))))
  unfolding times at
  times-fill p h i =
      let n : ℕ = length h - 1 in
      let inside : p < length (take n h) = rw (length-take-le n h (omega arith)) (omega arith) in
      let over = times-set (take n h) p (at h n) inside in
      omega (arith, times-last h (omega arith), rw (get_or-take n h p nobody (omega arith)) at over)

  -- After a remove the heap holds what it held, but for the entry removed.
  pub times-remove : (d p : ℕ) (h : List Entry) → p < length h
      → times k (map f h) ≡ times k (f (at h p) ∷ map f (heap_remove d p h))
  unfolding heap_remove times
  times-remove d p h i =
      let n : ℕ = length h - 1 in
      by-arms (λ (l : List Entry). times k (map f h) ≡ times k (f (at h p) ∷ map f l)) (eqb p n) _ _
      (λ e. rw (eqb-true p n e) (times-last h (omega arith)))
      (λ e.
      let g : List Entry = set (take n h) p (at h n) in
      let inner : suc p < length h = omega (arith, eqb-false p n e) in
      let inside : p < length g = simp length-set (rw (length-take-le n h (omega arith)) (omega arith)) in
      omega (arith, times-fill p h inner, times-settle d p g inside))

  -- After a rekey the heap holds what it held, with the entry in its new form for its old.
  pub times-rekey : (d p : ℕ) (e : Entry) (h : List Entry) → p < length h
      → times k (f (at h p) ∷ map f (heap_rekey d p e h)) ≡ times k (f e ∷ map f h)
  unfolding heap_rekey times
  times-rekey d p e h i =
      let within : p < length (set h p e) = simp length-set i in
      omega (arith, times-set h p e i, times-settle d p (set h p e) within)
