-- Facts about quotients that the library lacks.
-- Assumes nothing.
use Prim.Native.Nat.{ℕ, zero, suc, ◌+◌, ◌*◌, ◌/◌, ◌%◌, ◌^◌, ◌≤◌, ◌<◌}
use mathlib.Core.Path.{◌≡◌, refl, sym, ap, ◌∙◌}
use native.Mathlib.Nat.{div-zero, div-div-eq-div-mul, div-mul-le_self, le-div_iff_mul-le, le_trans, zero-lt-suc, mul-zero, one-le-pow, pow-suc, pow-zero}
use native.Mathlib.Omega.{arith}
use lib.Pow.{pow-add}

-- A quotient grows with its dividend.
pub div_mono : (k : ℕ) {x y : ℕ} → x ≤ y → x / k ≤ y / k
div_mono zero {x} {y} h = omega (arith, div-zero x, div-zero y)
div_mono (suc k) {x} {y} h = (le-div_iff_mul-le (zero-lt-suc k)).1 (le_trans (div-mul-le_self x (suc k)) h)

-- What lies between two numbers of one quotient has that quotient too.
pub div-between : (k : ℕ) {x y z : ℕ} → x ≤ y → y ≤ z → x / k ≡ z / k → y / k ≡ z / k
div-between k h l s = omega (arith, div_mono k h, div_mono k l)

-- Dividing by a power in two goes.
pub div-pow-add : (b p q x : ℕ) → x / b ^ (p + q) ≡ x / b ^ p / b ^ q
div-pow-add b p q x = ap (λ (d : ℕ). x / d) (pow-add b p q) ∙ sym (div-div-eq-div-mul x (b ^ p) (b ^ q))

-- A power above a number that is above another one is no power of 0,
pub base-positive : (b n : ℕ) {x y : ℕ} → x < y → y < b ^ n → 0 < b
base-positive zero zero h l = omega (arith, pow-zero 0)
base-positive zero (suc n) h l = omega (arith, pow-suc 0 n, mul-zero (0 ^ n))
base-positive (suc b) n h l = omega arith

-- so all powers of its base are positive,
pub power-positive : (b n p : ℕ) {x y : ℕ} → x < y → y < b ^ n → 0 < b ^ p
power-positive b n p h l = one-le-pow p b (base-positive b n h l)

-- and its exponent is not 0.
pub exponent-positive : (b n : ℕ) {x y : ℕ} → x < y → y < b ^ n → 0 < n
exponent-positive b zero h l = absurd (omega (arith, pow-zero b))
exponent-positive b (suc n) h l = omega arith

-- Six bits are a digit.
pub pow-sixes : (p : ℕ) → 2 ^ (6 * p) ≡ 64 ^ p
pow-sixes zero = refl
pow-sixes (suc p) =
    let six : 6 * suc p ≡ 6 * p + 6 = omega arith in
    rw (six, pow-add 2 (6 * p) 6, pow-sixes p, pow-suc 64 p)

-- The lowest digit's worth at a level, as a shift makes it.
pub unit-is : (p : ℕ) → p < 6 → 1 * 2 ^ (6 * p) % 18446744073709551616 ≡ 64 ^ p
unit-is zero h = refl
unit-is (suc zero) h = refl
unit-is (suc (suc zero)) h = refl
unit-is (suc (suc (suc zero))) h = refl
unit-is (suc (suc (suc (suc zero)))) h = refl
unit-is (suc (suc (suc (suc (suc zero))))) h = refl
unit-is (suc (suc (suc (suc (suc (suc p)))))) h = absurd (omega arith)

-- A tick of 64 bits with another digit at a level, and zeros below, has 64 bits.
pub tick_fits : (p t s : ℕ) → p < 6 → s < 64 → t < 18446744073709551616 → t / (64 * 64 ^ p) * (64 * 64 ^ p) + s * 64 ^ p < 18446744073709551616
tick_fits zero t s h k l = omega arith
tick_fits (suc zero) t s h k l = omega arith
tick_fits (suc (suc zero)) t s h k l = omega arith
tick_fits (suc (suc (suc zero))) t s h k l = omega arith
tick_fits (suc (suc (suc (suc zero)))) t s h k l = omega arith
tick_fits (suc (suc (suc (suc (suc zero))))) t s h k l = omega arith
tick_fits (suc (suc (suc (suc (suc (suc p)))))) t s h k l = absurd (omega arith)
