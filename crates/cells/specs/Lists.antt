-- Statements about lists that every crate makes.
-- Assumes nothing.
use Rattle.std.specs.Prelude.{ℕ, zero, suc, ◌+◌, ◌≤◌, cond, List, [], ◌∷◌, eqb}

-- Each element has the property.
abbrev pub All : {A : Type 0} → (A → Type 0) → List A → Type 0
All P [] = Unit {0}
All P (x ∷ xs) = P x × All P xs

-- How often a number stands in a list.
unfoldable pub times : ℕ → List ℕ → ℕ
times x [] = zero
times x (y ∷ ys) = cond (eqb y x) 1 0 + times x ys

-- The first is at least a, and each is above the one before it.
abbrev pub Rising : ℕ → List ℕ → Type 0
Rising a [] = Unit {0}
Rising a (x ∷ xs) = (a ≤ x) × Rising (suc x) xs

-- The sum of a number of each element.
unfoldable pub sum_of : {A : Type 0} → (A → ℕ) → List A → ℕ
sum_of f [] = zero
sum_of f (x ∷ xs) = f x + sum_of f xs

-- The sum of a number of each number below n.
unfoldable pub sum_below : (ℕ → ℕ) → ℕ → ℕ
sum_below f zero = zero
sum_below f (suc n) = sum_below f n + f n
