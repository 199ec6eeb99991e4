-- When the list in which an entry stands is looked at next.
-- Assumes nothing.
use Prim.Native.Nat.{ℕ, suc, ◌*◌, ◌/◌, ◌^◌, ◌≤◌, ◌<◌}
use mathlib.Core.Path.{◌≡◌, refl, sym}
use mathlib.Core.Logic.{◌≢◌}
use native.Mathlib.Decide.{dec_le}
use native.Mathlib.Nat.{div-lt_iff_lt-mul, div-mul-le_self, mul-le-mul_right}
use native.Mathlib.Omega.{arith}
use borrow.Author.Tests.{eq-eqb, ne_eqb}
use Rattle.cells.proofs.Cases.{same?}
use Rattle.places.specs.Ticks.{digit, level, due, slot, place, wake_tick, wake_of}
use Rattle.places.proofs.Numbers.{div_mono, div-between, power-positive, exponent-positive}
use Rattle.places.proofs.Digits.{floor-digit, agree-above}
use Rattle.places.proofs.Levels.{level-agree, level-below, level-mono, level-only, level-over}

-- An entry whose deadline is the clock is due,
pub place-due : (b n t : ℕ) → place b n t t ≡ due
unfolding place
place-due b n t = rw (eq-eqb t t refl)

-- and any other stands in a slot.
pub place-slot : (b n t e : ℕ) → t ≢ e → place b n t e ≡ slot (level b n t e) (digit b (level b n t e) e)
unfolding place
place-slot b n t e d = rw (ne_eqb e t (λ s. d (sym s)))

-- Only an entry whose deadline is the clock is due.
pub due-only : (b n t e : ℕ) → place b n t e ≡ due → t ≡ e
due-only b n t e s = same? t e (λ k. k) (λ d. absurd (never (place-slot b n t e d)))
  where
    never : place b n t e ≡ slot (level b n t e) (digit b (level b n t e) e) → ⊥
    never k =
        let z : ◌≡◌ {A = ℕ} 0 1 = cc in
        omega arith

-- The due list is looked at now.
pub wake-now : (b n t : ℕ) → wake_of b t (place b n t t) ≡ t
unfolding wake_of
wake-now b n t = rw (place-due b n t)

-- A slot is looked at when the clock has the deadline's digits from the level up, and zeros below.
pub wake-is :
    (b n t e : ℕ)
    → t < b ^ n
    → e < b ^ n
    → t ≢ e
    → wake_of b t (place b n t e) ≡ e / b ^ level b n t e * b ^ level b n t e
unfolding wake_of wake_tick
wake-is b n t e ht he d = rw (place-slot b n t e d, level-agree b n t e ht he) (floor-digit b (level b n t e) e)

-- A tick with a smaller quotient at the deadline's level is below the wake tick.
before-wake :
    (b n t e x : ℕ)
    → t < e
    → e < b ^ n
    → x / b ^ level b n t e < e / b ^ level b n t e
    → x < wake_of b t (place b n t e)
before-wake b n t e x h he q =
    rw (wake-is b n t e (omega arith) he (omega arith)) ((div-lt_iff_lt-mul (power-positive b n (level b n t e) h he)).0 q)

-- The wake tick is no later than the deadline,
pub wake-due : (b n t e : ℕ) → t < b ^ n → e < b ^ n → wake_of b t (place b n t e) ≤ e
wake-due b n t e ht he =
    same?
    t
    e
    (λ s. rw (← s) (omega (arith, wake-now b n t)))
    (λ d. rw (wake-is b n t e ht he d) (div-mul-le_self e (b ^ level b n t e)))

-- and later than the clock.
pub wake-later : (b n t e : ℕ) → t < e → e < b ^ n → t < wake_of b t (place b n t e)
wake-later b n t e h he = before-wake b n t e t h he (level-over b n t e h he)

-- So no entry of the wheel, due or not, wakes before the clock.
pub wake-from : (b n t e : ℕ) → t ≤ e → e < b ^ n → t ≤ wake_of b t (place b n t e)
wake-from b n t e h he =
    same? t e (λ s. rw (← s) (omega (arith, wake-now b n t))) (λ d. omega (arith, wake-later b n t e (omega arith) he))

-- A deadline at a lower level comes before the first wake tick of a higher one, and so does its own wake tick.
pub lower-first :
    (b n t e e' : ℕ)
    → t < e'
    → e < b ^ n
    → e' < b ^ n
    → level b n t e < level b n t e'
    → (wake_of b t (place b n t e) < wake_of b t (place b n t e')) × (e < wake_of b t (place b n t e'))
lower-first b n t e e' h he he' l =
    let s : t / b ^ level b n t e' ≡ e / b ^ level b n t e' = agree-above b t e l (level-agree b n t e (omega arith) he) in
    let k : e < wake_of b t (place b n t e') = before-wake b n t e' e h he' (omega (arith, level-over b n t e' h he')) in
    (omega (arith, wake-due b n t e (omega arith) he), k)

-- Later deadlines wake no earlier.
pub wake-mono :
    (b n t e e' : ℕ)
    → t ≤ e
    → e ≤ e'
    → e' < b ^ n
    → wake_of b t (place b n t e) ≤ wake_of b t (place b n t e')
wake-mono b n t e e' h l he' =
    same?
    t
    e
    (λ s. rw (← s, wake-now b n t) (wake-from b n t e' (omega arith) he'))
    (λ d. go d (dec_le (level b n t e') (level b n t e)))
  where
    go : t ≢ e → Dec (level b n t e' ≤ level b n t e) → wake_of b t (place b n t e) ≤ wake_of b t (place b n t e')
    go d (no k) = omega (arith, lower-first b n t e e' (omega arith) (omega arith) he' (omega arith))
    go d (yes k) =
        let p : ℕ = level b n t e' in
        let s : level b n t e ≡ p = omega (arith, level-mono b n t e e' h l he') in
        rw (
          wake-is b n t e (omega arith) (omega arith) d,
          wake-is b n t e' (omega arith) he' (omega arith),
          s,
        )
        (mul-le-mul_right (b ^ p) (div_mono (b ^ p) l))

-- Until its slot wakes, an entry stays where it is.
pub stands-still :
    (b n t t' e : ℕ)
    → t < b ^ n
    → e < b ^ n
    → t ≤ t'
    → t' < wake_of b t (place b n t e)
    → place b n t' e ≡ place b n t e
stands-still b n t t' e ht he h l = same? t e (λ s. absurd (omega (arith, waits s))) later
  where
    waits : t ≡ e → wake_of b t (place b n t e) ≡ t
    waits s = rw (← s) (wake-now b n t)

    later : t ≢ e → place b n t' e ≡ place b n t e
    later d =
        let p : ℕ = level b n t e in
        let k : t' < e = omega (arith, wake-due b n t e ht he) in
        let l' : t' < e / b ^ p * b ^ p = rw (wake-is b n t e ht he d) at l in
        let q : t' / b ^ p < e / b ^ p = (div-lt_iff_lt-mul (power-positive b n p k he)).1 l' in
        let above : t' / b ^ suc p ≡ e / b ^ suc p = div-between (b ^ suc p) h (omega arith) (level-agree b n t e ht he) in
        let low : p < n = level-below b n t e (exponent-positive b n k he) in
        let s : level b n t' e ≡ p = level-only b n t' e p low above (omega arith) in
        rw (place-slot b n t' e (omega arith), place-slot b n t e d, s)
