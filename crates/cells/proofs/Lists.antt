-- Laws of lists that every crate cites.
-- Assumes nothing.
use Prim.Native.Nat.{ℕ, zero, suc, ◌+◌, ◌*◌, ◌≤◌, ◌<◌}
use native.Mathlib.Omega.{arith}
use mathlib.Core.List.{List, [], ◌∷◌, ◌++◌, map}
use mathlib.Core.Path.{◌≡◌, refl, ◌∙◌}
use lib.ListN.{length, take, drop}
use borrow.Author.Tests.{eq-eqb, ne_eqb}
use Rattle.cells.proofs.Cases.{same?}
use Rattle.cells.specs.Lists.{All, times, Rising, sum_of}

module _ {A : Type 0} where
  -- What holds of each element carries over to what follows from it.
  pub all_map : {P Q : A → Type 0} → ((x : A) → P x → Q x) → (xs : List A) → All P xs → All Q xs
  all_map f [] h = tt
  all_map f (x ∷ xs) h = (f x h.0, all_map f xs h.1)

  -- Two properties at once.
  pub all_both : (P Q : A → Type 0) (xs : List A) → All P xs → All Q xs → All (λ (x : A). P x × Q x) xs
  all_both P Q [] h k = tt
  all_both P Q (x ∷ xs) h k = ((h.0, k.0), all_both P Q xs h.1 k.1)

  pub all_take : (P : A → Type 0) (m : ℕ) (xs : List A) → All P xs → All P (take m xs)
  all_take P zero xs h = tt
  all_take P (suc m) [] h = tt
  all_take P (suc m) (x ∷ xs) h = (h.0, all_take P m xs h.1)

  pub all_drop : (P : A → Type 0) (m : ℕ) (xs : List A) → All P xs → All P (drop m xs)
  all_drop P zero xs h = h
  all_drop P (suc m) [] h = tt
  all_drop P (suc m) (x ∷ xs) h = all_drop P m xs h.1

-- The first element counts if it is the number, and does not otherwise.
pub times-here : (x y : ℕ) (ys : List ℕ) → y ≡ x → times x (y ∷ ys) ≡ suc (times x ys)
unfolding times
times-here x y ys e = rw (eq-eqb y x e) (omega arith)

pub times-past : (x y : ℕ) (ys : List ℕ) → (y ≡ x → ⊥) → times x (y ∷ ys) ≡ times x ys
unfolding times
times-past x y ys d = rw (ne_eqb y x d) (omega arith)

-- A number stands as often in two lists joined as in both.
pub times-append : (x : ℕ) (ys zs : List ℕ) → times x (ys ++ zs) ≡ times x ys + times x zs
unfolding times
times-append x [] zs = omega arith
times-append x (y ∷ ys) zs = omega (arith, times-append x ys zs)

-- A rising list holds nothing below its bound, and no number twice.
pub rising-weaken : (a a' : ℕ) (xs : List ℕ) → a ≤ a' → Rising a' xs → Rising a xs
rising-weaken a a' [] h r = tt
rising-weaken a a' (x ∷ xs) h r = (omega (arith, r.0), r.1)

pub rising-above : (k a : ℕ) (xs : List ℕ) → k < a → Rising a xs → times k xs ≡ 0
rising-above k a [] h r = unfold times in refl
rising-above k a (x ∷ xs) h r =
    times-past k x xs (λ e. omega (arith, r.0)) ∙ rising-above k (suc x) xs (omega (arith, r.0)) r.1

pub rising-once : (k a : ℕ) (xs : List ℕ) → Rising a xs → times k xs ≤ 1
rising-once k a [] r = unfold times in omega arith
rising-once k a (x ∷ xs) r =
    same? x k
    (λ e. omega (arith, times-here k x xs e, rising-above k (suc x) xs (omega arith) r.1))
    (λ d. omega (arith, times-past k x xs d, rising-once k (suc x) xs r.1))

module _ {A : Type 0} where
  pub sum_of-append : (f : A → ℕ) (xs ys : List A) → sum_of f (xs ++ ys) ≡ sum_of f xs + sum_of f ys
  unfolding sum_of
  sum_of-append f [] ys = omega arith
  sum_of-append f (x ∷ xs) ys = omega (arith, sum_of-append f xs ys)

  -- Numbers that add up at each element add up in the sum.
  pub sum_of-add : (f g h : A → ℕ) (xs : List A) → All (λ (x : A). f x + g x ≡ h x) xs → sum_of f xs + sum_of g xs ≡ sum_of h xs
  unfolding sum_of
  sum_of-add f g h [] a = refl
  sum_of-add f g h (x ∷ xs) a = omega (arith, a.0, sum_of-add f g h xs a.1)

  -- Numbers that are equal at each element have equal sums.
  pub sum_of-same : (f g : A → ℕ) (xs : List A) → All (λ (x : A). f x ≡ g x) xs → sum_of f xs ≡ sum_of g xs
  unfolding sum_of
  sum_of-same f g [] a = refl
  sum_of-same f g (x ∷ xs) a = omega (arith, a.0, sum_of-same f g xs a.1)

  -- Numbers of at most k have a sum of at most k for each element.
  pub sum_of-bound : (f : A → ℕ) (k : ℕ) (xs : List A) → All (λ (x : A). f x ≤ k) xs → sum_of f xs ≤ k * length xs
  unfolding sum_of
  sum_of-bound f k [] a = omega arith
  sum_of-bound f k (x ∷ xs) a = omega (arith, a.0, sum_of-bound f k xs a.1)

  -- What holds of every element whatever holds of each of a list.
  pub all-every : (P : A → Type 0) → ((x : A) → P x) → (xs : List A) → All P xs
  all-every P f [] = tt
  all-every P f (x ∷ xs) = (f x, all-every P f xs)

  -- What holds of every number read off the elements holds of each element's.
  pub all_read : (P : ℕ → Type 0) (f : A → ℕ) (xs : List A) → All P (map f xs) → All (λ (x : A). P (f x)) xs
  all_read P f [] h = tt
  all_read P f (x ∷ xs) h = (h.0, all_read P f xs h.1)

-- What holds of the image of each element holds of each image,
pub all-image : {A B : Type 0} (P : B → Type 0) (f : A → B) (xs : List A) → All (λ (x : A). P (f x)) xs → All P (map f xs)
all-image P f [] h = tt
all-image P f (x ∷ xs) h = (h.0, all-image P f xs h.1)

-- and what holds in two lists holds in one behind the other.
pub all_append : {A : Type 0} (P : A → Type 0) (xs ys : List A) → All P xs → All P ys → All P (xs ++ ys)
all_append P [] ys h k = k
all_append P (x ∷ xs) ys h k = (h.0, all_append P xs ys h.1 k)

-- What holds of all elements holds of one that stands there.
pub all-times : (P : ℕ → Type 0) (xs : List ℕ) → All P xs → (x : ℕ) → 1 ≤ times x xs → P x
all-times P [] a x h = absurd (unfold times in omega arith)
all-times P (y ∷ ys) a x h =
    same? y x (λ q. rw q at a.0) (λ d. all-times P ys a.1 x (omega (arith, times-past x y ys d)))
