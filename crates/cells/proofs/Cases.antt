-- Splitting a proof by a test.
-- Assumes nothing.
use Prim.Native.Nat.{ℕ, ◌≤◌, ◌<◌}
use mathlib.Core.Bool.{Bool, true, false, cond, ◌&&◌, ◌||◌, true≢false}
use mathlib.Core.Path.{◌≡◌, refl, sym, ◌∙◌}
use lib.Dec.{leb, eqb}
use borrow.Author.Tests.{leb-true, leb-false, eqb-true, eqb-false}

-- A test passes or fails.
pub test {ℓ} : {P : Type ℓ} (t : Bool) → (t ≡ true → P) → (t ≡ false → P) → P
test true f g = f refl
test false f g = g refl

-- What holds of both arms of a test, each where it is taken, holds of the test.
pub by-arms : {A : Type 0} (P : A → Type 0) (t : Bool) (x y : A) → (t ≡ true → P x) → (t ≡ false → P y) → P (cond t x y)
by-arms P true x y f g = f refl
by-arms P false x y f g = g refl

-- Two numbers are equal or not.
pub same? {ℓ} : {P : Type ℓ} (x y : ℕ) → (x ≡ y → P) → ((x ≡ y → ⊥) → P) → P
same? x y f g = test (eqb x y) (λ e. f (eqb-true x y e)) (λ e. g (eqb-false x y e))

-- One number is at most another, or above it.
pub at_most? {ℓ} : {P : Type ℓ} (x y : ℕ) → (x ≤ y → P) → (y < x → P) → P
at_most? x y f g = test (leb x y) (λ e. f (leb-true x y e)) (λ e. g (leb-false x y e))

-- A test does not both pass and fail.
pub clash {ℓ} : {P : Type ℓ} {t : Bool} → t ≡ true → t ≡ false → P
clash e f = absurd (true≢false (sym e ∙ f))

-- Both of two tests pass.
pub and-true : (s t : Bool) → s && t ≡ true → (s ≡ true) × (t ≡ true)
and-true true t e = (refl, e)
and-true false t e = clash e refl

-- One of two tests passes.
pub or-true {ℓ} : {P : Type ℓ} (s t : Bool) → s || t ≡ true → (s ≡ true → P) → (t ≡ true → P) → P
or-true true t e f g = f refl
or-true false t e f g = g e

-- Neither of two tests passes.
pub or-false : (s t : Bool) → s || t ≡ false → (s ≡ false) × (t ≡ false)
or-false true t e = clash refl e
or-false false t e = (refl, e)

-- A test and one that fails do not both pass.
pub and-false : (t : Bool) → t && false ≡ false
and-false true = refl
and-false false = refl

-- A test between two equal things decides nothing.
pub cond_same : {A : Type 0} (t : Bool) (x : A) → cond t x x ≡ x
cond_same true x = refl
cond_same false x = refl
