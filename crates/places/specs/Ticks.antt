-- "Places on the wheel" of document 01, over the base `b` (64) and the number of levels `n` (6). Each definition has its sentence above it.
-- Assumes nothing.
use Rattle.std.specs.Prelude.{ℕ, zero, suc, ◌+◌, ◌-◌, ◌*◌, ◌/◌, ◌%◌, ◌^◌, cond, not, ◌&&◌, leb, ltb, eqb}

-- "Write ticks with six base-64 digits, position 0 the lowest."
unfoldable pub digit : ℕ → ℕ → ℕ → ℕ
digit b i x = x / b ^ i % b

-- "Ticks are 0 to 68,719,476,735 (2^36 - 1, 'the last tick')."
unfoldable pub last_tick : ℕ → ℕ → ℕ
last_tick b n = b ^ n - 1

-- "p is the highest position at which e and t differ": of the positions below n, looked at from the top (0 if none differs).
unfoldable pub level : ℕ → ℕ → ℕ → ℕ → ℕ
level b zero t e = zero
level b (suc p) t e = cond (eqb (digit b p t) (digit b p e)) (level b p t e) p

-- "in the due list if e = t; otherwise at level p, slot s"
pub data Place : Type 0 where
  due : Place
  slot : (p s : ℕ) → Place

-- "An entry with deadline e at clock t stands": "s is e's digit there".
unfoldable pub place : ℕ → ℕ → ℕ → ℕ → Place
place b n t e = cond (eqb e t) due (slot (level b n t e) (digit b (level b n t e) e))

-- "The wake tick of an occupied slot s at level p has the clock's digits above p, s at p and zeros below."
unfoldable pub wake_tick : ℕ → ℕ → ℕ → ℕ → ℕ
wake_tick b t p s = t / b ^ suc p * b ^ suc p + s * b ^ p

-- When the list in which an entry stands is looked at next: the clock for the due list, else its slot's wake tick.
unfoldable pub wake_of : ℕ → ℕ → Place → ℕ
wake_of b t due = t
wake_of b t (slot p s) = wake_tick b t p s

-- "the non-zero digits of e at positions below p", "only those at or above" q
unfoldable pub nonzeros : ℕ → ℕ → ℕ → ℕ → ℕ
nonzeros b q zero e = zero
nonzeros b q (suc p) e = nonzeros b q p e + cond (leb q p && not (eqb (digit b p e) 0)) 1 0

-- "For an advance from clock a to clock c, an entry with deadline e counts: 0 if e = a; otherwise, with p the highest position where a and e differ:
-- the non-zero digits of e at positions below p, and if e > c only those at or above the highest position where c and e differ."
unfoldable pub moves : ℕ → ℕ → ℕ → ℕ → ℕ → ℕ
moves b n a c e = cond (eqb e a) 0 (nonzeros b (cond (ltb c e) (level b n c e) 0) (level b n a e) e)
