-- The level of a deadline: the highest position at which it differs from the clock.
-- Assumes nothing.
use Prim.Native.Nat.{ℕ, zero, suc, ◌-◌, ◌*◌, ◌/◌, ◌%◌, ◌^◌, ◌≤◌, ◌<◌}
use mathlib.Core.Path.{◌≡◌, refl, sym, ap, ◌∙◌}
use mathlib.Core.Logic.{◌≢◌}
use native.Mathlib.Nat.{div-eq_of_lt}
use native.Mathlib.Decide.{dec_le}
use native.Mathlib.Omega.{arith}
use borrow.Author.Tests.{eq-eqb, ne_eqb}
use Rattle.cells.proofs.Cases.{same?}
use Rattle.places.specs.Ticks.{digit, level}
use Rattle.places.proofs.Numbers.{div_mono, div-between}
use Rattle.places.proofs.Digits.{quotient-zero, quotient-digit, agree-digit, agree-above, agree-here, digit_low}

-- The top position is passed over where the digits there agree,
pub level-pass : (b p t e : ℕ) → digit b p t ≡ digit b p e → level b (suc p) t e ≡ level b p t e
unfolding level
level-pass b p t e s = rw (eq-eqb (digit b p t) (digit b p e) s)

-- and is the level where they differ.
pub level-stop : (b p t e : ℕ) → digit b p t ≢ digit b p e → level b (suc p) t e ≡ p
unfolding level
level-stop b p t e d = rw (ne_eqb (digit b p t) (digit b p e) d)

-- Of n levels the top one is n - 1 (and 0 where there is none).
pub level-bound : (b n t e : ℕ) → level b n t e ≤ n - 1
unfolding level
level-bound b zero t e = omega arith
level-bound b (suc p) t e =
    let low : level b p t e ≤ p - 1 = level-bound b p t e in
    same? (digit b p t) (digit b p e) (λ s. omega (arith, low, level-pass b p t e s)) (λ d. omega (arith, level-stop b p t e d))

-- There are n levels.
pub level-below : (b n t e : ℕ) → 0 < n → level b n t e < n
level-below b n t e h = omega (arith, level-bound b n t e)

-- A number does not differ from itself.
pub level-self : (b n t : ℕ) → level b n t t ≡ 0
unfolding level
level-self b zero t = refl
level-self b (suc p) t = level-pass b p t t refl ∙ level-self b p t

-- The level is at most a position above which all agrees.
pub level-most : (b n t e p : ℕ) → t / b ^ suc p ≡ e / b ^ suc p → level b n t e ≤ p
unfolding level
level-most b zero t e p s = omega arith
level-most b (suc m) t e p s =
    let lower : level b m t e ≤ p = level-most b m t e p s in
    same? (digit b m t) (digit b m e) (λ k. rw (level-pass b m t e k) lower) (λ k. rw (level-stop b m t e k) (reach k (dec_le (suc p) m)))
  where
    reach : digit b m t ≢ digit b m e → Dec (suc p ≤ m) → m ≤ p
    reach k (yes h) = absurd (k (agree-digit b m t e (agree-above b t e h s)))
    reach k (no h) = omega arith

-- So it is below a position from which on all agrees, unless the numbers are equal.
pub level-under : (b n t e p : ℕ) → t ≢ e → t / b ^ p ≡ e / b ^ p → level b n t e < p
level-under b n t e zero d s = absurd (d (sym (quotient-zero b t) ∙ s ∙ quotient-zero b e))
level-under b n t e (suc p) d s = omega (arith, level-most b n t e p s)

-- Above the level all digits agree: numbers that agree above n agree above the level.
agree-over : (b n t e : ℕ) → t / b ^ n ≡ e / b ^ n → t / b ^ suc (level b n t e) ≡ e / b ^ suc (level b n t e)
unfolding level
agree-over b zero t e s = agree-above b t e (omega arith) s
agree-over b (suc p) t e s =
    let lower : t / b ^ p ≡ e / b ^ p → t / b ^ suc (level b p t e) ≡ e / b ^ suc (level b p t e) = agree-over b p t e in
    same?
    (digit b p t)
    (digit b p e)
    (λ d. rw (level-pass b p t e d) (lower (agree-here b p t e s d)))
    (λ d. rw (level-stop b p t e d) s)

-- The digits differ at the level, of numbers that agree above n and are not equal.
differ-at : (b n t e : ℕ) → t / b ^ n ≡ e / b ^ n → t ≢ e → digit b (level b n t e) t ≢ digit b (level b n t e) e
unfolding level
differ-at b zero t e s d = absurd (omega (arith, level-under b zero t e zero d s))
differ-at b (suc p) t e s d =
    let lower : t / b ^ p ≡ e / b ^ p → digit b (level b p t e) t ≢ digit b (level b p t e) e = λ a. differ-at b p t e a d in
    same?
    (digit b p t)
    (digit b p e)
    (λ k. rw (level-pass b p t e k) (lower (agree-here b p t e s k)))
    (λ k. rw (level-stop b p t e k) k)

-- The level is at least each position below n at which the digits differ.
pub level-least : (b n t e p : ℕ) → p < n → digit b p t ≢ digit b p e → p ≤ level b n t e
unfolding level
level-least b zero t e p h d = omega arith
level-least b (suc m) t e p h d =
    let lower : p < m → p ≤ level b m t e = λ l. level-least b m t e p l d in
    same? (digit b m t) (digit b m e) (λ k. rw (level-pass b m t e k) (lower (under k))) (λ k. rw (level-stop b m t e k) (omega arith))
  where
    under : digit b m t ≡ digit b m e → p < m
    under k = same? p m (λ i. absurd (d (rw i k))) (λ i. omega arith)

-- One position alone has agreement above it and none from it on: the level.
pub level-only : (b n t e p : ℕ) → p < n → t / b ^ suc p ≡ e / b ^ suc p → t / b ^ p ≢ e / b ^ p → level b n t e ≡ p
level-only b n t e p h s d =
    omega (arith, level-most b n t e p s, level-least b n t e p h (λ k. d (agree-here b p t e s k)))

-- Ticks below the wheel's end agree above its top position.
pub ticks-agree : (b n t e : ℕ) → t < b ^ n → e < b ^ n → t / b ^ n ≡ e / b ^ n
ticks-agree b n t e ht he = div-eq_of_lt ht ∙ sym (div-eq_of_lt he)

-- Clock and deadline agree above the level.
pub level-agree : (b n t e : ℕ) → t < b ^ n → e < b ^ n → t / b ^ suc (level b n t e) ≡ e / b ^ suc (level b n t e)
level-agree b n t e ht he = agree-over b n t e (ticks-agree b n t e ht he)

-- They differ at the level, unless they are equal.
pub level-differ : (b n t e : ℕ) → t < b ^ n → e < b ^ n → t ≢ e → digit b (level b n t e) t ≢ digit b (level b n t e) e
level-differ b n t e ht he = differ-at b n t e (ticks-agree b n t e ht he)

-- A later deadline has the higher digit at the level,
pub level-rise : (b n t e : ℕ) → t < e → e < b ^ n → digit b (level b n t e) t < digit b (level b n t e) e
level-rise b n t e h he =
    let p : ℕ = level b n t e in
    let k : t / b ^ p ≤ e / b ^ p = div_mono (b ^ p) (omega arith) in
    let s : t / b ^ suc p * b ≡ e / b ^ suc p * b = ap (λ (q : ℕ). q * b) (level-agree b n t e (omega arith) he) in
    let d : digit b p t ≢ digit b p e = level-differ b n t e (omega arith) he (omega arith) in
    omega (arith, quotient-digit b p t, quotient-digit b p e)

-- and so the higher quotient.
pub level-over : (b n t e : ℕ) → t < e → e < b ^ n → t / b ^ level b n t e < e / b ^ level b n t e
level-over b n t e h he =
    let p : ℕ = level b n t e in
    let s : t / b ^ suc p * b ≡ e / b ^ suc p * b = ap (λ (q : ℕ). q * b) (level-agree b n t e (omega arith) he) in
    omega (arith, level-rise b n t e h he, quotient-digit b p t, quotient-digit b p e)

-- A deadline does not rise as the clock nears it.
pub level-falls : (b n a c e : ℕ) → a ≤ c → c ≤ e → e < b ^ n → level b n c e ≤ level b n a e
level-falls b n a c e h l he =
    level-most b n c e (level b n a e) (div-between (b ^ suc (level b n a e)) h l (level-agree b n a e (omega arith) he))

-- A later deadline stands no lower.
pub level-mono : (b n t e e' : ℕ) → t ≤ e → e ≤ e' → e' < b ^ n → level b n t e ≤ level b n t e'
level-mono b n t e e' h l he' =
    let p : ℕ = level b n t e' in
    let s : t / b ^ suc p ≡ e' / b ^ suc p = level-agree b n t e' (omega arith) he' in
    level-most b n t e p (s ∙ sym (div-between (b ^ suc p) h l s))

-- Where ticks differ in what stands from position p up, the level is at least p.
pub level-reach : (b n t e p : ℕ) → t < b ^ n → e < b ^ n → t / b ^ p ≢ e / b ^ p → p ≤ level b n t e
level-reach b n t e p ht he d = go (dec_le p (level b n t e))
  where
    go : Dec (p ≤ level b n t e) → p ≤ level b n t e
    go (yes h) = h
    go (no h) = absurd (d (agree-above b t e (omega arith) (level-agree b n t e ht he)))

-- The level depends on the n low digits only.
level-digits :
    (b n t e t' e' : ℕ)
    → ((p : ℕ) → p < n → digit b p t ≡ digit b p t')
    → ((p : ℕ) → p < n → digit b p e ≡ digit b p e')
    → level b n t e ≡ level b n t' e'
unfolding level
level-digits b zero t e t' e' st se = refl
level-digits b (suc p) t e t' e' st se =
    rw (
      st p (omega arith),
      se p (omega arith),
      level-digits b p t e t' e' (λ i h. st i (omega arith)) (λ i h. se i (omega arith)),
    )

-- What stands above the n low digits does not matter to the level.
pub level-low : (b n t e : ℕ) → 0 < b → level b n (t % b ^ n) (e % b ^ n) ≡ level b n t e
level-low b n t e hb =
    level-digits b n (t % b ^ n) (e % b ^ n) t e (λ p h. digit_low b t hb h) (λ p h. digit_low b e hb h)
