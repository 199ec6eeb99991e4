-- A wake tick is entered, step by step: from what the calls of each function answer.
-- Assumes nothing.
use Prim.Native.Nat.{ℕ, zero, suc, ◌+◌, ◌≤◌}
use native.Mathlib.Omega.{arith}
use mathlib.Core.Bool.{Bool, true, false, cond}
use mathlib.Core.Path.{◌≡◌, refl}
use lib.Dec.{eqb}
use borrow.Author.Tests.{eq-eqb, ne_eqb}
use Rattle.cells.specs.Stack.{no_cell}
use Rattle.cells.specs.Words.{word}
use Rattle.slots.specs.Stand.{due_list}
use Rattle.dial.specs.Turns.{State, list_of, refile, walk}

-- One cell makes at most one move.
pub refile-moves : (c : ℕ) (z : State) → (refile c z).moves ≤ z.moves + 1
unfolding refile
refile-moves c z = go (eqb (list_of z.clock (word z.lists.words c 2)) due_list)
  where
    go : (t : Bool) → z.moves + cond t 0 1 ≤ z.moves + 1
    go true = omega arith
    go false = omega arith

-- The store stays.
pub refile-store : (c : ℕ) (z : State) → (refile c z).store ≡ z.store
unfolding refile
refile-store c z = refl

-- The same from what the function answers.
pub refile-at-most : (c : ℕ) (z : State) {y : State} → y ≡ refile c z → y.moves ≤ z.moves + 1
refile-at-most c z e = rw e (refile-moves c z)

-- A walk of k cells from c on ends where there is no cell.
pub walk-stop : (k c : ℕ) (z : State) → c ≡ no_cell → walk k c z ≡ z
unfolding walk
walk-stop zero c z e = refl
walk-stop (suc k) c z e = rw (eq-eqb c no_cell e)

-- And where it may take no more.
pub walk_none : (k c : ℕ) (z : State) → k ≡ 0 → walk k c z ≡ z
unfolding walk
walk_none k c z e = rw e

-- Else it takes a cell.
pub walk-on : (k j c : ℕ) (z : State) {x : ℕ} {y : State} → k ≡ j + 1 → (c ≡ no_cell → ⊥) → x ≡ word z.lists.words c 4 → y ≡ refile c z
    → walk k c z ≡ walk j x y
unfolding walk
walk-on k j c z h e a b =
    let more : k ≡ suc j = omega arith in
    rw (more, ne_eqb c no_cell e, a, b)
