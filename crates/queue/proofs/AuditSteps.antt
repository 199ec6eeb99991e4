-- The table from position count up: one position is zero or is not.
-- Assumes nothing.
use Prim.Native.Nat.{ℕ, ◌≤◌}
use mathlib.Core.Bool.{true, false}
use mathlib.Core.List.{List}
use mathlib.Core.Path.{◌≡◌}
use borrow.Author.Tests.{le-ltb, eq-eqb, ne_eqb}
use Rattle.cells.specs.Words.{word}
use Rattle.queue.specs.AuditTests.{beyond_test}

module _ (w : List ℕ) where
  pub beyond-zero : (count p x : ℕ) → count ≤ p → x ≡ word w p 6 → x ≡ 0 → beyond_test w count p ≡ true
  unfolding beyond_test
  beyond-zero count p x l e z = rw (le-ltb p count l, ← e) (eq-eqb x 0 z)

  pub beyond-other : (count p x : ℕ) → count ≤ p → x ≡ word w p 6 → (x ≡ 0 → ⊥) → beyond_test w count p ≡ false
  unfolding beyond_test
  beyond-other count p x l e z = rw (le-ltb p count l, ← e) (ne_eqb x 0 z)
