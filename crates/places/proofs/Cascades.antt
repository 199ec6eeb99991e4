-- What happens to an entry when its slot wakes: it goes to a lower place, and has one move less left; or it is due, and had none.
-- Assumes nothing.
use Prim.Native.Nat.{ℕ, suc, ◌/◌, ◌^◌, ◌<◌}
use mathlib.Core.Path.{◌≡◌, sym, ap, ◌∙◌}
use mathlib.Core.Logic.{◌≢◌}
use native.Mathlib.Nat.{mul-div_cancel}
use native.Mathlib.Omega.{arith}
use Rattle.places.specs.Ticks.{digit, level, nonzeros, place, wake_of}
use Rattle.places.proofs.Numbers.{base-positive, power-positive}
use Rattle.places.proofs.Digits.{agree-digit, agree-above, digit-multiple}
use Rattle.places.proofs.Levels.{level-agree, level-differ, level-under}
use Rattle.places.proofs.Wakes.{wake-is}
use Rattle.places.proofs.Counts.{left, nonzeros-more, nonzeros-none, nonzeros-zero, nonzeros-join}

module _ (b n t e : ℕ) (h : t < e) (he : e < b ^ n) where
  -- At its wake tick a slot's entries agree with the clock from their level up,
  pub wake-agrees : wake_of b t (place b n t e) / b ^ level b n t e ≡ e / b ^ level b n t e
  wake-agrees =
      rw
      (wake-is b n t e (omega arith) he (omega arith))
      (mul-div_cancel (e / b ^ level b n t e) (power-positive b n (level b n t e) h he))

  -- and the clock has zeros below that level.
  pub wake-zeros : (i : ℕ) → i < level b n t e → digit b i (wake_of b t (place b n t e)) ≡ 0
  wake-zeros i l =
      rw
      (wake-is b n t e (omega arith) he (omega arith))
      (digit-multiple b (e / b ^ level b n t e) (base-positive b n h he) l)

  -- An entry that is not due when its slot wakes goes to a lower level.
  pub cascade-level : wake_of b t (place b n t e) < e → level b n (wake_of b t (place b n t e)) e < level b n t e
  cascade-level l = level-under b n (wake_of b t (place b n t e)) e (level b n t e) (omega arith) wake-agrees

  -- That is one of the moves that it has left.
  pub cascade-one : wake_of b t (place b n t e) < e → left b n t e ≡ suc (left b n (wake_of b t (place b n t e)) e)
  unfolding left
  cascade-one l =
      let w : ℕ = wake_of b t (place b n t e) in
      let p : ℕ = level b n t e in
      let q : ℕ = level b n w e in
      let lower : q < p = cascade-level l in
      let hw : w < b ^ n = omega arith in
      let same : w / b ^ suc q ≡ e / b ^ suc q = level-agree b n w e hw he in
      let high : nonzeros b (suc q) p e ≡ 0 =
      nonzeros-zero b (suc q) p e (λ i m k. sym (agree-digit b i w e (agree-above b w e m same)) ∙ wake-zeros i k)
      in
      let here : digit b q e ≢ 0 = λ z. level-differ b n w e hw he (omega arith) (wake-zeros q lower ∙ sym z) in
      omega (
        arith,
        high,
        nonzeros-more b q q e (omega arith) here,
        nonzeros-none b q q e (omega arith),
        nonzeros-join b q (suc q) p e (omega arith) lower,
        nonzeros-join b 0 q p e (omega arith) (omega arith),
      )

  -- An entry that is due when its slot wakes had no move left.
  pub cascade-last : wake_of b t (place b n t e) ≡ e → left b n t e ≡ 0
  unfolding left
  cascade-last s = nonzeros-zero b 0 (level b n t e) e (λ i m k. ap (digit b i) (sym s) ∙ wake-zeros i k)
