-- Sums over the numbers below n, and how often each of them stands in a list.
-- Assumes nothing.
use Prim.Native.Nat.{ℕ, zero, suc, ◌+◌, ◌≤◌, ◌<◌}
use native.Mathlib.Omega.{arith}
use mathlib.Core.Bool.{Bool, true, false, cond}
use mathlib.Core.List.{List, [], ◌∷◌}
use mathlib.Core.Path.{◌≡◌, refl, subst, ◌∙◌}
use lib.Dec.{ltb, eqb}
use lib.ListN.{length}
use borrow.Author.Tests.{eq-eqb, ne_eqb, le-ltb}
use Rattle.cells.proofs.Cases.{same?, at_most?}
use Rattle.cells.proofs.Lists.{times-here, times-past}
use Rattle.cells.specs.Lists.{All, times, sum_below}

-- Nothing summed is nothing.
pub sum_below-zero : (n : ℕ) → sum_below (λ (x : ℕ). 0) n ≡ 0
unfolding sum_below
sum_below-zero zero = refl
sum_below-zero (suc n) = omega (arith, sum_below-zero n)

module _ (f g : ℕ → ℕ) where
  -- The sum of two numbers of each is the sum of their sums.
  pub sum_below-add : (n : ℕ) → sum_below (λ (x : ℕ). f x + g x) n ≡ sum_below f n + sum_below g n
  unfolding sum_below
  sum_below-add zero = refl
  sum_below-add (suc n) = omega (arith, sum_below-add n)

  -- Numbers that are equal below n have equal sums.
  pub sum_below-same : (n : ℕ) → ((x : ℕ) → x < n → f x ≡ g x) → sum_below f n ≡ sum_below g n
  unfolding sum_below
  sum_below-same zero h = refl
  sum_below-same (suc n) h = omega (arith, h n (omega arith), sum_below-same n (λ x k. h x (omega arith)))

  -- Numbers at most others have a sum at most theirs.
  pub sum_below-most : (n : ℕ) → ((x : ℕ) → x < n → f x ≤ g x) → sum_below f n ≤ sum_below g n
  unfolding sum_below
  sum_below-most zero h = omega arith
  sum_below-most (suc n) h = omega (arith, h n (omega arith), sum_below-most n (λ x k. h x (omega arith)))

  -- Numbers at most others with a sum no less than theirs are equal to them, each.
  pub sum_below-pinned : (n : ℕ) → ((x : ℕ) → x < n → f x ≤ g x) → sum_below g n ≤ sum_below f n → (x : ℕ) → x < n → f x ≡ g x
  unfolding sum_below
  sum_below-pinned zero h s x k = absurd (omega arith)
  sum_below-pinned (suc n) h s x k =
      same? x n
      (λ e. rw e (omega (arith, rest, last)))
      (λ d. sum_below-pinned n before (omega (arith, rest, last)) x (omega arith))
    where
      before : (x : ℕ) → x < n → f x ≤ g x
      before x k = h x (omega arith)

      rest : sum_below f n ≤ sum_below g n
      rest = sum_below-most n before

      last : f n ≤ g n
      last = h n (omega arith)

-- One number below n is counted once, and one from n up not at all.
sum_below-past : (x n : ℕ) → n ≤ x → sum_below (λ (y : ℕ). cond (eqb x y) 1 0) n ≡ 0
unfolding sum_below
sum_below-past x zero h = refl
sum_below-past x (suc n) h = rw (ne_eqb x n (λ e. omega arith)) (omega (arith, sum_below-past x n (omega arith)))

pub sum_below-one : (x n : ℕ) → x < n → sum_below (λ (y : ℕ). cond (eqb x y) 1 0) n ≡ 1
unfolding sum_below
sum_below-one x zero h = absurd (omega arith)
sum_below-one x (suc n) h =
    same? x n
    (λ e. rw (eq-eqb x n e) (omega (arith, sum_below-past x n (omega arith))))
    (λ d. rw (ne_eqb x n d) (omega (arith, sum_below-one x n (omega arith))))

-- A list of numbers below n is as long as they stand in it together.
pub length-times : (n : ℕ) (xs : List ℕ) → All (λ (x : ℕ). x < n) xs → sum_below (λ (c : ℕ). times c xs) n ≡ length xs
unfolding times
length-times n [] a = sum_below-zero n
length-times n (x ∷ xs) a =
    sum_below-add (λ (c : ℕ). cond (eqb x c) 1 0) (λ (c : ℕ). times c xs) n
    ∙ omega (arith, sum_below-one x n a.0, length-times n xs a.1)

-- What no element is does not stand in the list.
pub times_none : (c : ℕ) (xs : List ℕ) → All (λ (x : ℕ). x ≡ c → ⊥) xs → times c xs ≡ 0
times_none c [] a = unfold times in refl
times_none c (x ∷ xs) a = times-past c x xs a.0 ∙ times_none c xs a.1

-- What holds of every number that stands in the list holds of each element.
pub all-standing : (P : ℕ → Type 0) (xs : List ℕ) → ((x : ℕ) → 0 < times x xs → P x) → All P xs
all-standing P [] h = tt
all-standing P (x ∷ xs) h = (h x (omega (arith, times-here x x xs refl)), all-standing P xs (λ y k. h y (more y k)))
  where
    more : (y : ℕ) → 0 < times y xs → 0 < times y (x ∷ xs)
    more y k = same? x y (λ e. omega (arith, times-here y x xs e)) (λ d. omega (arith, times-past y x xs d))

-- The sum of ones.
pub sum_below-ones : (n : ℕ) → sum_below (λ (x : ℕ). 1) n ≡ n
unfolding sum_below
sum_below-ones zero = refl
sum_below-ones (suc n) = omega (arith, sum_below-ones n)

-- A count of one or none is at most one.
pub cond-bit : (t : Bool) → cond t 1 0 ≤ 1
cond-bit true = omega arith
cond-bit false = omega arith

-- What is counted only below n, and is counted, is below n.
pub standing-below : (x n k : ℕ) → k ≤ cond (ltb x n) 1 0 → 0 < k → x < n
standing-below x n k h l =
    at_most? n x (λ i. absurd (omega (arith, l, subst (λ (t : Bool). k ≤ cond t 1 0) (le-ltb x n i) h))) (λ i. i)

-- A list of numbers below n, none of them twice, has at most n.
pub few : (n : ℕ) (xs : List ℕ) → ((x : ℕ) → times x xs ≤ cond (ltb x n) 1 0) → length xs ≤ n
few n xs once =
    let below : All (λ (x : ℕ). x < n) xs = all-standing _ xs (λ x l. standing-below x n (times x xs) (once x) l) in
    omega (
      arith,
      length-times n xs below,
      sum_below-most (λ (x : ℕ). times x xs) (λ (x : ℕ). 1) n (λ x i. omega (arith, once x, cond-bit (ltb x n))),
      sum_below-ones n,
    )
