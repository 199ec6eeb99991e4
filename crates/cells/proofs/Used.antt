-- A cell is free or in use by its ticket.
-- Assumes nothing.
use Prim.Native.Nat.{ℕ, ◌≤◌}
use native.Mathlib.Omega.{arith}
use mathlib.Core.Bool.{true, false}
use mathlib.Core.List.{List}
use mathlib.Core.Path.{◌≡◌}
use borrow.Author.Tests.{eq-eqb, ne_eqb, not-true}
use Rattle.cells.specs.Words.{word}
use Rattle.cells.specs.Stack.{is_free}
use Rattle.cells.specs.Rules.{in_use}
use Rattle.cells.proofs.Cases.{same?, clash}

-- A cell whose ticket is zero is free.
pub free-by-ticket : (w : List ℕ) (c : ℕ) → word w c 0 ≡ 0 → is_free w c ≡ true
unfolding is_free
free-by-ticket w c e = eq-eqb (word w c 0) 0 e

-- A cell whose ticket is not zero is not free.
pub used-by-ticket : (w : List ℕ) (c : ℕ) → 1 ≤ word w c 0 → is_free w c ≡ false
unfolding is_free
used-by-ticket w c e = ne_eqb (word w c 0) 0 (λ q. omega arith)

-- A cell in use is not free.
pub in-use-free : (w : List ℕ) (c : ℕ) → in_use w c ≡ true → is_free w c ≡ false
unfolding in_use
in-use-free w c e = not-true (is_free w c) e

-- The ticket of a cell in use is not zero.
pub ticket-used : (w : List ℕ) (c : ℕ) → in_use w c ≡ true → 1 ≤ word w c 0
ticket-used w c u =
    same? (word w c 0) 0
    (λ e. clash (free-by-ticket w c e) (in-use-free w c u))
    (λ n. omega arith)

-- A free cell is not in use.
pub free-not-used : (w : List ℕ) (c : ℕ) → is_free w c ≡ true → in_use w c ≡ false
unfolding in_use
free-not-used w c e = rw e

-- A cell that is not free is in use.
pub not-free-used : (w : List ℕ) (c : ℕ) → is_free w c ≡ false → in_use w c ≡ true
unfolding in_use
not-free-used w c e = rw e
