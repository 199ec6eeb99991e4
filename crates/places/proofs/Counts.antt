-- How often an entry moves. All of it goes through `left`: what is left at the start is what an advance makes and what is left after it.
-- Assumes nothing.
use Prim.Native.Nat.{ℕ, zero, suc, ◌+◌, ◌-◌, ◌^◌, ◌≤◌, ◌<◌}
use mathlib.Core.Bool.{Bool, true, false, cond, not, ◌&&◌, and-false}
use mathlib.Core.Path.{◌≡◌, refl, sym, ap, ◌∙◌}
use mathlib.Core.Logic.{◌≢◌}
use native.Mathlib.Decide.{dec_le}
use native.Mathlib.Omega.{arith}
use lib.Dec.{leb, ltb, eqb}
use borrow.Author.Tests.{eq-eqb, ne_eqb, le-leb, lt-leb, lt-ltb, le-ltb}
use Rattle.cells.proofs.Cases.{same?}
use Rattle.places.specs.Ticks.{digit, level, nonzeros, moves}
use Rattle.places.proofs.Levels.{level-bound, level-self, level-falls}

-- The moves that an entry with deadline e still has to make at clock a.
unfoldable pub left : ℕ → ℕ → ℕ → ℕ → ℕ
left b n a e = nonzeros b 0 (level b n a e) e

-- A position adds at most one to the count.
count-bound : (r z : Bool) → cond (r && not z) 1 0 ≤ 1
count-bound true true = omega arith
count-bound true false = omega arith
count-bound false true = omega arith
count-bound false false = omega arith

-- A position in reach whose digit is not zero counts once.
pub nonzeros-more : (b q p e : ℕ) → q ≤ p → digit b p e ≢ 0 → nonzeros b q (suc p) e ≡ suc (nonzeros b q p e)
unfolding nonzeros
nonzeros-more b q p e h d = rw (le-leb q p h, ne_eqb (digit b p e) 0 d) (omega arith)

-- A zero does not count.
pub nonzeros-pass : (b q p e : ℕ) → digit b p e ≡ 0 → nonzeros b q (suc p) e ≡ nonzeros b q p e
unfolding nonzeros
nonzeros-pass b q p e z = rw (eq-eqb (digit b p e) 0 z, and-false) (omega arith)

-- Positions below q are out of reach.
pub nonzeros-none : (b q p e : ℕ) → p ≤ q → nonzeros b q p e ≡ 0
unfolding nonzeros
nonzeros-none b q zero e h = refl
nonzeros-none b q (suc p) e h =
    let lower : nonzeros b q p e ≡ 0 = nonzeros-none b q p e (omega arith) in
    rw (lower, lt-leb q p (omega arith))

-- Where all digits of a stretch are zero none counts.
pub nonzeros-zero : (b q p e : ℕ) → ((i : ℕ) → q ≤ i → i < p → digit b i e ≡ 0) → nonzeros b q p e ≡ 0
nonzeros-zero b q zero e z = nonzeros-none b q zero e (omega arith)
nonzeros-zero b q (suc p) e z = go (dec_le q p) (nonzeros-zero b q p e (λ i h l. z i h (omega arith)))
  where
    go : Dec (q ≤ p) → nonzeros b q p e ≡ 0 → nonzeros b q (suc p) e ≡ 0
    go (yes h) lower = nonzeros-pass b q p e (z p h (omega arith)) ∙ lower
    go (no h) lower = nonzeros-none b q (suc p) e (omega arith)

-- Counts of neighbouring stretches of positions add up.
pub nonzeros-join : (b r q p e : ℕ) → r ≤ q → q ≤ p → nonzeros b q p e + nonzeros b r q e ≡ nonzeros b r p e
nonzeros-join b r q zero e h l =
    let s : q ≡ 0 = omega arith in
    rw (s, nonzeros-none b zero zero e (omega arith)) (omega arith)
nonzeros-join b r q (suc p) e h l = same? q (suc p) whole (λ d. part (omega arith) (nonzeros-join b r q p e h (omega arith)))
  where
    whole : q ≡ suc p → nonzeros b q (suc p) e + nonzeros b r q e ≡ nonzeros b r (suc p) e
    whole s = omega (arith, nonzeros-none b q (suc p) e (omega arith), ap (λ (i : ℕ). nonzeros b r i e) s)

    part :
        q ≤ p
        → nonzeros b q p e + nonzeros b r q e ≡ nonzeros b r p e
        → nonzeros b q (suc p) e + nonzeros b r q e ≡ nonzeros b r (suc p) e
    part k lower =
        same?
        (digit b p e)
        0
        (λ z. rw (nonzeros-pass b q p e z, nonzeros-pass b r p e z) lower)
        (λ d. omega (arith, lower, nonzeros-more b q p e k d, nonzeros-more b r p e (omega arith) d))

-- Of p positions at most p are not zero.
pub nonzeros-bound : (b q p e : ℕ) → nonzeros b q p e ≤ p
unfolding nonzeros
nonzeros-bound b q zero e = omega arith
nonzeros-bound b q (suc p) e = omega (arith, nonzeros-bound b q p e, count-bound (leb q p) (eqb (digit b p e) 0))

-- At most one move for each level but the top one is left.
pub left-bound : (b n a e : ℕ) → left b n a e ≤ n - 1
unfolding left
left-bound b n a e = omega (arith, nonzeros-bound b 0 (level b n a e) e, level-bound b n a e)

-- An entry that is due has no move left.
pub left-self : (b n e : ℕ) → left b n e e ≡ 0
unfolding left nonzeros
left-self b n e = rw (level-self b n e)

-- An advance that reaches an entry's deadline takes all the moves that the entry has left,
pub moves-all : (b n a c e : ℕ) → e ≤ c → moves b n a c e ≡ left b n a e
unfolding moves left
moves-all b n a c e h =
    same?
    e
    a
    (λ s. rw (← s, eq-eqb e e refl) (sym (left-self b n e)))
    (λ d. rw (ne_eqb e a d, le-ltb c e h))

-- and one that ends before takes those down to the entry's level there.
moves-later : (b n a c e : ℕ) → e ≢ a → c < e → moves b n a c e ≡ nonzeros b (level b n c e) (level b n a e) e
unfolding moves
moves-later b n a c e d h = rw (ne_eqb e a d, lt-ltb c e h)

-- What is left at the start is what an advance makes and what is left at its end.
pub moves-part : (b n a c e : ℕ) → a ≤ c → c ≤ e → e < b ^ n → moves b n a c e + left b n c e ≡ left b n a e
unfolding left
moves-part b n a c e h l he =
    same?
    e
    c
    (λ s. omega (arith, moves-all b n a c e (omega arith), ap (λ (x : ℕ). left b n x e) s, left-self b n e))
    (λ d. rw (moves-later b n a c e (omega arith) (omega arith)) (nonzeros-join b 0 (level b n c e) (level b n a e) e (omega arith) (level-falls b n a c e h l he)))

-- Two advances, one after the other, make the moves of one.
pub moves-join : (b n a c d e : ℕ) → a ≤ c → c ≤ e → c ≤ d → e < b ^ n → moves b n a c e + moves b n c d e ≡ moves b n a d e
moves-join b n a c d e h l k he = go (dec_le e d)
  where
    first : moves b n a c e + left b n c e ≡ left b n a e
    first = moves-part b n a c e h l he

    go : Dec (e ≤ d) → moves b n a c e + moves b n c d e ≡ moves b n a d e
    go (yes r) = omega (arith, first, moves-all b n a d e r, moves-all b n c d e r)
    go (no r) = omega (arith, first, moves-part b n a d e (omega arith) (omega arith) he, moves-part b n c d e k (omega arith) he)

-- No advance makes more than one move for each level but the top one.
pub moves-bound : (b n a c e : ℕ) → moves b n a c e ≤ n - 1
unfolding moves
moves-bound b n a c e =
    same?
    e
    a
    (λ s. rw (eq-eqb e a s) (omega arith))
    (λ d. rw (ne_eqb e a d) (omega (arith, nonzeros-bound b (cond (ltb c e) (level b n c e) 0) (level b n a e) e, level-bound b n a e)))
