-- Quotients by powers of the base, and the digits between them.
-- Assumes nothing.
use Prim.Native.Nat.{ℕ, zero, suc, ◌+◌, ◌*◌, ◌/◌, ◌%◌, ◌^◌, ◌≤◌, ◌<◌}
use mathlib.Core.Path.{◌≡◌, sym, ap, ◌∙◌}
use native.Mathlib.Nat.{le_dest, add-mul, mul_assoc, pow-zero, pow-suc, pow-succ', one-le-pow}
use native.Mathlib.Nat.{div-one, div-div-eq-div-mul, div-add-mod', div-eq_of_lt, zero-div, mul-div_cancel}
use native.Mathlib.Nat.{mod-lt, mod-mod_of_dvd, dvd-mul_left, mul-mod_left, zero-mod}
use native.Mathlib.Omega.{arith}
use lib.Arith.{mod-mul, digits_div}
use lib.Pow.{pow-add}
use Rattle.places.specs.Ticks.{digit, last_tick}
use Rattle.places.proofs.Numbers.{div-pow-add}

-- At position 0 nothing is divided off.
pub quotient-zero : (b x : ℕ) → x / b ^ zero ≡ x
quotient-zero b x = ap (λ (d : ℕ). x / d) (pow-zero b) ∙ div-one x

-- The quotient at the next position is that of the quotient here.
pub quotient-next : (b p x : ℕ) → x / b ^ suc p ≡ x / b ^ p / b
quotient-next b p x = ap (λ (d : ℕ). x / d) (pow-suc b p) ∙ sym (div-div-eq-div-mul x (b ^ p) b)

-- A quotient is the next one with this position's digit behind it.
pub quotient-digit : (b p x : ℕ) → x / b ^ suc p * b + digit b p x ≡ x / b ^ p
unfolding digit
quotient-digit b p x = rw (quotient-next b p x) (div-add-mod' (x / b ^ p) b)

-- Numbers of one quotient have one digit there.
pub agree-digit : (b p x y : ℕ) → x / b ^ p ≡ y / b ^ p → digit b p x ≡ digit b p y
unfolding digit
agree-digit b p x y s = ap (λ (q : ℕ). q % b) s

-- Numbers of one quotient have one quotient at each higher position.
pub agree-above : (b x y : ℕ) {p q : ℕ} → p ≤ q → x / b ^ p ≡ y / b ^ p → x / b ^ q ≡ y / b ^ q
agree-above b x y {p} h s = go (le_dest h)
  where
    go : {q : ℕ} → (k : ℕ) × (p + k ≡ q) → x / b ^ q ≡ y / b ^ q
    go r = rw (← r.1, div-pow-add b p r.0 x, div-pow-add b p r.0 y, s)

-- Where the quotients above agree and the digits here do, the quotients here agree.
pub agree-here : (b p x y : ℕ) → x / b ^ suc p ≡ y / b ^ suc p → digit b p x ≡ digit b p y → x / b ^ p ≡ y / b ^ p
agree-here b p x y s d = rw (← quotient-digit b p x, ← quotient-digit b p y, s, d)

-- Digits below n are those of the remainder by b ^ n.
pub digit_low : (b x : ℕ) {p n : ℕ} → 0 < b → p < n → digit b p (x % b ^ n) ≡ digit b p x
unfolding digit
digit_low b x {p} hb h = go (le_dest h)
  where
    go : {n : ℕ} → (k : ℕ) × (suc p + k ≡ n) → x % b ^ n / b ^ p % b ≡ x / b ^ p % b
    go {n} r =
        let k : ℕ = r.0 in
        let s : suc k + p ≡ n = omega (arith, r.1) in
        rw (
          ← s,
          pow-add b (suc k) p,
          mod-mul x (one-le-pow (suc k) b hb) (one-le-pow p b hb),
          digits_div (x / b ^ p % b ^ suc k) (mod-lt x (one-le-pow p b hb)),
        )
        (mod-mod_of_dvd b (x / b ^ p) (rw (pow-suc b k) (dvd-mul_left b (b ^ k))))

-- A number below b ^ n has the digit 0 from position n on.
pub digit-high : (b x : ℕ) {n p : ℕ} → x < b ^ n → n ≤ p → digit b p x ≡ 0
unfolding digit
digit-high b x {n} {p} hx h =
    rw (agree-above b x 0 h (div-eq_of_lt hx ∙ sym (zero-div (b ^ n))), zero-div (b ^ p)) (zero-mod b)

-- A multiple of b ^ p has zeros below position p.
pub digit-multiple : (b q : ℕ) {i p : ℕ} → 0 < b → i < p → digit b i (q * b ^ p) ≡ 0
unfolding digit
digit-multiple b q {i} hb h = go (le_dest h)
  where
    go : {p : ℕ} → (k : ℕ) × (suc i + k ≡ p) → q * b ^ p / b ^ i % b ≡ 0
    go {p} r =
        let k : ℕ = r.0 in
        let s : suc k + i ≡ p = omega (arith, r.1) in
        rw (
          ← s,
          pow-add b (suc k) i,
          ← mul_assoc q (b ^ suc k) (b ^ i),
          mul-div_cancel (q * b ^ suc k) (one-le-pow i b hb),
          pow-suc b k,
          ← mul_assoc q (b ^ k) b,
        )
        (mul-mod_left (q * b ^ k) b)

-- The part above a position and the digit there are the part from that position up.
pub floor-digit : (b p x : ℕ) → x / b ^ suc p * b ^ suc p + digit b p x * b ^ p ≡ x / b ^ p * b ^ p
floor-digit b p x =
    let s : x / b ^ suc p * b ^ suc p ≡ x / b ^ suc p * b * b ^ p =
    ap (λ (d : ℕ). x / b ^ suc p * d) (pow-succ' b p) ∙ sym (mul_assoc (x / b ^ suc p) b (b ^ p))
    in
    omega (arith, s, add-mul (x / b ^ suc p * b) (digit b p x) (b ^ p), ap (λ (q : ℕ). q * b ^ p) (quotient-digit b p x))

-- A tick up to the last tick has no digit from position n on,
pub tick-below : (b n x : ℕ) → 0 < b → x ≤ last_tick b n → x < b ^ n
unfolding last_tick
tick-below b n x hb h = omega (arith, one-le-pow n b hb)

-- and a number without one is such a tick.
pub tick-upto : (b n x : ℕ) → x < b ^ n → x ≤ last_tick b n
unfolding last_tick
tick-upto b n x h = omega arith
