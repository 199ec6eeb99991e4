-- Order numbers that rise along each list: then those of equal deadlines do, since these stand in one list.
-- Assumes nothing.
use Prim.Native.Nat.{ℕ, zero, suc, ◌-◌, ◌≤◌, ◌<◌}
use native.Mathlib.Omega.{arith}
use mathlib.Core.Bool.{true}
use mathlib.Core.List.{List, [], ◌∷◌, ◌++◌}
use mathlib.Core.Path.{◌≡◌, refl, ap}
use lib.Dec.{ltb}
use lib.ListN.{length}
use borrow.Author.Tests.{ltb-true}
use Rattle.cells.specs.Lists.{All, times}
use Rattle.cells.specs.Words.{word}
use Rattle.cells.proofs.Cases.{and-true}
use Rattle.cells.proofs.Lists.{all_map, all-times}
use Rattle.audits.specs.AuditTests.{all_below}
use Rattle.audits.proofs.Below.{below_each}
use Rattle.slots.specs.declared.ring.Ends.{Ends}
use Rattle.dial.specs.Turns.{list_of}
use Rattle.wheel_rules.specs.Rules.{Rises}
use Rattle.wheel_rules.specs.AuditTests.{list_cells, noted, order_test, climbs, list_climbs}
use Rattle.wheel_rules.proofs.Rising.{order-decides}
use Rattle.wheel_rules.proofs.Walks.{Own, cells-own}
use Rattle.wheel_rules.proofs.Counting.{gathered, each-rises}

module _ (w : List ℕ) where
  -- Cells along which order numbers rise from above x on have higher ones.
  climbs-above : (x : ℕ) (cs : List ℕ) → climbs w x cs ≡ true → All (λ (c : ℕ). x < word w c 1) cs
  unfolding climbs
  climbs-above x [] e = tt
  climbs-above x (c ∷ cs) e =
      let both = and-true (ltb x (word w c 1)) (climbs w (word w c 1) cs) e in
      let up : x < word w c 1 = ltb-true _ _ both.0 in
      (up, all_map (λ d h. omega arith) cs (climbs-above (word w c 1) cs both.1))

  -- So they rise where deadlines are equal, as everywhere.
  climbs-rises : (x : ℕ) (cs : List ℕ) → climbs w x cs ≡ true → Rises w cs
  unfolding climbs
  climbs-rises x [] e = tt
  climbs-rises x (c ∷ cs) e =
      let rest = (and-true (ltb x (word w c 1)) (climbs w (word w c 1) cs) e).1 in
      (all_map (λ d h same. h) cs (climbs-above (word w c 1) cs rest), climbs-rises (word w c 1) cs rest)

module _ (w : List ℕ) (n t : ℕ) (ends : ℕ → Ends) where
  -- The cells that are noted of list i.
  abbrev pub cells_of : ℕ → List ℕ
  cells_of i = list_cells w n t i (ends i) (n - length (noted w n t ends i))

  -- What is noted of the lists below k is their cells, one list behind the other.
  pub noted-gathered : (k : ℕ) → noted w n t ends k ≡ gathered cells_of k
  unfolding noted gathered
  noted-gathered zero = refl
  noted-gathered (suc k) = ap (λ (xs : List ℕ). xs ++ cells_of k) (noted-gathered k)

  -- A cell that is noted of list i belongs there.
  pub noted-own : (i c : ℕ) → 1 ≤ times c (cells_of i) → Own w n t i c
  noted-own i c h = all-times (Own w n t i) (cells_of i) (cells-own w n t i (ends i) (n - length (noted w n t ends i))) c h

  -- Where order numbers rise along each list no sort is needed.
  pub climbs-order : all_below 385 (list_climbs w n t ends) ≡ true → order_test w (noted w n t ends 385) ≡ true
  climbs-order h =
      (order-decides w (noted w n t ends 385)).1
      (rw (noted-gathered 385)
      (each-rises w cells_of (list_of t) 385 (λ i c k s. (noted-own i c s).stands.place) 385 (omega arith)
      (λ i k. climbs-rises w 0 (cells_of i) (unfold list_climbs in below_each (list_climbs w n t ends) 385 h i k))))
