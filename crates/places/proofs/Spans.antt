-- The deadlines of one slot: b ^ p ticks from its wake tick on, where the slot is above the clock's digit, and none where it is not.
-- Assumes nothing.
use Prim.Native.Nat.{ℕ, suc, ◌+◌, ◌-◌, ◌*◌, ◌/◌, ◌%◌, ◌^◌, ◌≤◌, ◌<◌}
use mathlib.Core.Path.{◌≡◌, sym, ap, ◌∙◌}
use native.Mathlib.Nat.{add-mul, div-eq_of_lt, div-lt_iff_lt-mul, lt-div-mul-add, div-mul-le_self, mul_assoc, one-le-pow, pow-succ'}
use native.Mathlib.Omega.{arith}
use lib.Arith.{digits_div, digits_mod}
use Rattle.cells.proofs.Cases.{at_most?}
use Rattle.places.specs.Ticks.{digit, level, slot, place, wake_tick}
use Rattle.places.proofs.Numbers.{div_mono, power-positive}
use Rattle.places.proofs.Digits.{quotient-next, quotient-digit, agree-above, floor-digit}
use Rattle.places.proofs.Levels.{level-agree, level-only, level-rise}
use Rattle.places.proofs.Wakes.{place-slot}

-- Tick e lies in the span of slot s at level p: the slot is above the clock's digit there, and e is one of the ticks from its wake tick on.
pub record Spanned (b t p s e : ℕ) : Type 0 where
  pub over : digit b p t < s
  pub from : wake_tick b t p s ≤ e
  pub until : e < wake_tick b t p s + b ^ p

-- A deadline after the clock lies in the span of its own level and slot.
pub own-span : (b n t e : ℕ) → t < e → e < b ^ n → Spanned b t (level b n t e) (digit b (level b n t e) e) e
unfolding wake_tick
own-span b n t e h he =
    let p : ℕ = level b n t e in
    let wake : t / b ^ suc p * b ^ suc p + digit b p e * b ^ p ≡ e / b ^ p * b ^ p =
    rw (level-agree b n t e (omega arith) he) (floor-digit b p e) in
    record {
      over = level-rise b n t e h he;
      from = omega (arith, wake, div-mul-le_self e (b ^ p));
      until = omega (arith, wake, lt-div-mul-add {a = e} (power-positive b n p h he));
    }

-- A wake tick's quotient has the slot for its last digit.
wake-quotient : (b t p s : ℕ) → wake_tick b t p s ≡ (t / b ^ suc p * b + s) * b ^ p
unfolding wake_tick
wake-quotient b t p s =
    let high : t / b ^ suc p * b ^ suc p ≡ t / b ^ suc p * b * b ^ p =
    ap (λ (d : ℕ). t / b ^ suc p * d) (pow-succ' b p) ∙ sym (mul_assoc (t / b ^ suc p) b (b ^ p)) in
    omega (arith, high, add-mul (t / b ^ suc p * b) s (b ^ p))

module _ (b n t p s : ℕ) (hb : 0 < b) (ht : t < b ^ n) (low : p < n) (small : s < b) where
  module _ (e : ℕ) (r : Spanned b t p s e) where
    -- The deadline has the clock's digits above p, and s there.
    here : e / b ^ p ≡ t / b ^ suc p * b + s
    here =
        let q : ℕ = t / b ^ suc p * b + s in
        let split : e ≡ q * b ^ p + (e - q * b ^ p) = omega (arith, wake-quotient b t p s, r.from) in
        let rest : e - q * b ^ p < b ^ p = omega (arith, wake-quotient b t p s, r.from, r.until) in
        ap (λ (x : ℕ). x / b ^ p) split ∙ digits_div q rest

    -- So the quotients above agree,
    above : t / b ^ suc p ≡ e / b ^ suc p
    above = sym (quotient-next b p e ∙ ap (λ (q : ℕ). q / b) here ∙ digits_div (t / b ^ suc p) small)

    -- its digit is the slot,
    digit-here : digit b p e ≡ s
    unfolding digit
    digit-here = ap (λ (q : ℕ). q % b) here ∙ digits_mod (t / b ^ suc p) small

    -- and its quotient is the higher.
    higher : t / b ^ p < e / b ^ p
    higher = omega (arith, here, quotient-digit b p t, r.over)

    -- So it is after the clock,
    pub span-after : t < e
    span-after = at_most? e t (λ h. absurd (omega (arith, div_mono (b ^ p) h, higher))) (λ h. h)

    -- a tick,
    pub span-tick : e < b ^ n
    span-tick =
        let none : e / b ^ n ≡ 0 = sym (agree-above b t e low above) ∙ div-eq_of_lt ht in
        omega (arith, (div-lt_iff_lt-mul {x = e} {y = 1} (one-le-pow n b hb)).0 (omega arith))

    -- and stands in that slot.
    pub span-place : place b n t e ≡ slot p s
    span-place =
        let here-only : level b n t e ≡ p = level-only b n t e p low above (λ q. omega (arith, higher)) in
        place-slot b n t e (λ q. omega (arith, span-after)) ∙ rw (here-only, digit-here)

  -- The span of a slot ends with the ticks at the latest.
  pub span-ends : digit b p t < s → wake_tick b t p s + b ^ p ≤ b ^ n
  span-ends h =
      let some : 0 < b ^ p = one-le-pow p b hb in
      omega (arith, span-tick (wake_tick b t p s + b ^ p - 1) (record { over = h; from = omega arith; until = omega arith }))
