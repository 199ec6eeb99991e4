-- Numbers to the base 2, digit by digit.
-- Assumes nothing.
use Prim.Native.Nat.{ℕ, zero, suc, ◌+◌, ◌-◌, ◌*◌, ◌/◌, ◌%◌, ◌^◌, ◌≤◌, ◌<◌}
use native.Mathlib.Nat.{zero-mul, one-mul, div-one, div-div-eq-div-mul, pow-zero, pow-suc, pow-succ'}
use native.Mathlib.Omega.{arith}
use mathlib.Core.Bool.{true, false}
use mathlib.Core.Logic.{◌≢◌}
use mathlib.Core.Path.{◌≡◌, refl, sym, ap, ◌∙◌}
use lib.Dec.{eqb}
use borrow.Author.Tests.{eqb-true, eqb-false, eq-eqb, ne_eqb}
use Rattle.cells.proofs.Cases.{test}
use Rattle.slots.specs.Rings.{is_marked, marked, unmarked}

-- Digit t of m.
unfoldable bit : ℕ → ℕ → ℕ
bit t m = m / 2 ^ t % 2

-- The digit at 0 is the remainder, and those above it are the digits of the half.
bit-zero : (m : ℕ) → bit zero m ≡ m % 2
unfolding bit
bit-zero m = ap (λ (d : ℕ). m / d % 2) (pow-zero 2) ∙ ap (λ (q : ℕ). q % 2) (div-one m)

bit-suc : (t m : ℕ) → bit (suc t) m ≡ bit t (m / 2)
unfolding bit
bit-suc t m = ap (λ (d : ℕ). m / d % 2) (pow-succ' 2 t) ∙ ap (λ (q : ℕ). q % 2) (sym (div-div-eq-div-mul m 2 (2 ^ t)))

-- A digit is 0 or 1.
bit-most : (t m : ℕ) → bit t m < 2
unfolding bit
bit-most t m = omega arith

-- A power of 2 is added where its digit is 0: the digit becomes 1,
bit-put : (s m : ℕ) → bit s m ≡ 0 → bit s (m + 2 ^ s) ≡ 1
bit-put zero m h = bit-zero (m + 2 ^ zero) ∙ omega (arith, bit-zero m, pow-zero 2)
bit-put (suc s) m h =
    bit-suc s (m + 2 ^ suc s)
    ∙ ap (bit s) half
    ∙ bit-put s (m / 2) (sym (bit-suc s m) ∙ h)
  where
    half : (m + 2 ^ suc s) / 2 ≡ m / 2 + 2 ^ s
    half = omega (arith, pow-suc 2 s)

-- and all others stay.
bit-keep : (s t m : ℕ) → bit s m ≡ 0 → t ≢ s → bit t (m + 2 ^ s) ≡ bit t m
bit-keep zero zero m h d = absurd (d refl)
bit-keep zero (suc t) m h d =
    bit-suc t (m + 2 ^ zero) ∙ ap (bit t) (omega (arith, bit-zero m, pow-zero 2)) ∙ sym (bit-suc t m)
bit-keep (suc s) zero m h d = bit-zero (m + 2 ^ suc s) ∙ omega (arith, bit-zero m, pow-suc 2 s)
bit-keep (suc s) (suc t) m h d =
    bit-suc t (m + 2 ^ suc s)
    ∙ ap (bit t) half
    ∙ bit-keep s t (m / 2) (sym (bit-suc s m) ∙ h) (λ e. d (ap suc e))
    ∙ sym (bit-suc t m)
  where
    half : (m + 2 ^ suc s) / 2 ≡ m / 2 + 2 ^ s
    half = omega (arith, pow-suc 2 s)

-- A number with the digit 1 at s is at least that power of 2, and without it the digit is 0.
bit-least : (s m : ℕ) → bit s m ≡ 1 → 2 ^ s ≤ m
bit-least zero m h = omega (arith, bit-zero m, pow-zero 2)
bit-least (suc s) m h = omega (arith, bit-least s (m / 2) (sym (bit-suc s m) ∙ h), pow-suc 2 s)

bit-clear : (s m : ℕ) → bit s m ≡ 1 → bit s (m - 2 ^ s) ≡ 0
bit-clear zero m h = bit-zero (m - 2 ^ zero) ∙ omega (arith, bit-zero m, pow-zero 2)
bit-clear (suc s) m h =
    bit-suc s (m - 2 ^ suc s) ∙ ap (bit s) half ∙ bit-clear s (m / 2) there
  where
    there : bit s (m / 2) ≡ 1
    there = sym (bit-suc s m) ∙ h

    half : (m - 2 ^ suc s) / 2 ≡ m / 2 - 2 ^ s
    half = omega (arith, pow-suc 2 s, bit-least s (m / 2) there)

-- Numbers below 2 ^ n with the same n digits are the same.
bits-ext : (n x y : ℕ) → x < 2 ^ n → y < 2 ^ n → ((t : ℕ) → t < n → bit t x ≡ bit t y) → x ≡ y
bits-ext zero x y hx hy same = omega (arith, pow-zero 2)
bits-ext (suc n) x y hx hy same =
    omega (
      arith,
      same 0 (omega arith),
      bit-zero x,
      bit-zero y,
      bits-ext n (x / 2) (y / 2) (omega (arith, pow-suc 2 n)) (omega (arith, pow-suc 2 n))
          (λ t h. sym (bit-suc t x) ∙ same (suc t) (omega arith) ∙ bit-suc t y),
    )

-- A digit 0 below n leaves room for the power of 2.
bit-fits : (n s m : ℕ) → s < n → m < 2 ^ n → bit s m ≡ 0 → m + 2 ^ s < 2 ^ n
bit-fits zero s m k h z = absurd (omega arith)
bit-fits (suc n) zero m k h z = omega (arith, bit-zero m, pow-zero 2, pow-suc 2 n)
bit-fits (suc n) (suc s) m k h z =
    omega (
      arith,
      pow-suc 2 s,
      pow-suc 2 n,
      bit-fits n s (m / 2) (omega arith) (omega (arith, pow-suc 2 n)) (sym (bit-suc s m) ∙ z),
    )

-- A mark is a digit 1, and no mark a digit 0.
mark-one : (m s : ℕ) → is_marked m s ≡ true → bit s m ≡ 1
unfolding is_marked bit
mark-one m s h = eqb-true (m / 2 ^ s % 2) 1 h

mark-zero : (m s : ℕ) → is_marked m s ≡ false → bit s m ≡ 0
unfolding is_marked
mark-zero m s h = omega (arith, unmarked-digit, bit-most s m)
  where
    unmarked-digit : bit s m ≢ 1
    unmarked-digit = unfold bit in eqb-false (m / 2 ^ s % 2) 1 h

-- What a number has in common with the power of 2 of a mark: all of it, or nothing.
pub mark-masked : (m s : ℕ) → is_marked m s ≡ true → m / 2 ^ s % 2 * 2 ^ s ≡ 2 ^ s
unfolding is_marked
mark-masked m s h = ap (λ (d : ℕ). d * 2 ^ s) (eqb-true (m / 2 ^ s % 2) 1 h) ∙ one-mul (2 ^ s)

pub unmark-masked : (m s : ℕ) → is_marked m s ≡ false → m / 2 ^ s % 2 * 2 ^ s ≡ 0
unfolding is_marked
unmark-masked m s h =
    let clear : m / 2 ^ s % 2 ≡ 0 = omega (arith, eqb-false (m / 2 ^ s % 2) 1 h) in ap (λ (d : ℕ). d * 2 ^ s) clear ∙ zero-mul (2 ^ s)

one-mark : (m s : ℕ) → bit s m ≡ 1 → is_marked m s ≡ true
unfolding is_marked bit
one-mark m s h = eq-eqb (m / 2 ^ s % 2) 1 h

zero-mark : (m s : ℕ) → bit s m ≡ 0 → is_marked m s ≡ false
unfolding is_marked bit
zero-mark m s h = ne_eqb (m / 2 ^ s % 2) 1 (λ e. omega arith)

same-mark : (m m' s : ℕ) → bit s m ≡ bit s m' → is_marked m s ≡ is_marked m' s
unfolding is_marked bit
same-mark m m' s h = ap (λ (d : ℕ). eqb d 1) h

-- No slot is marked in 0.
pub zero-unmarked : (s : ℕ) → is_marked 0 s ≡ false
zero-unmarked s = zero-mark 0 s (go s)
  where
    go : (s : ℕ) → bit s 0 ≡ 0
    go zero = bit-zero 0
    go (suc s) = bit-suc s 0 ∙ go s

-- A marked slot is marked, and each other as before.
pub marked-here : (m s : ℕ) → is_marked (marked m s) s ≡ true
unfolding marked
marked-here m s =
    test (is_marked m s)
    (λ e. rw e e)
    (λ e. rw e (one-mark (m + 2 ^ s) s (bit-put s m (mark-zero m s e))))

pub marked_other : (m s t : ℕ) → t ≢ s → is_marked (marked m s) t ≡ is_marked m t
unfolding marked
marked_other m s t d =
    test (is_marked m s)
    (λ e. rw e)
    (λ e. rw e (same-mark (m + 2 ^ s) m t (bit-keep s t m (mark-zero m s e) d)))

-- An unmarked slot is not marked, and each other as before.
pub unmarked-here : (m s : ℕ) → is_marked (unmarked m s) s ≡ false
unfolding unmarked
unmarked-here m s =
    test (is_marked m s)
    (λ e. rw e (zero-mark (m - 2 ^ s) s (bit-clear s m (mark-one m s e))))
    (λ e. rw e e)

pub unmarked-other : (m s t : ℕ) → t ≢ s → is_marked (unmarked m s) t ≡ is_marked m t
unfolding unmarked
unmarked-other m s t d =
    test (is_marked m s)
    (λ e.
    let one : bit s m ≡ 1 = mark-one m s e in
    let back : m - 2 ^ s + 2 ^ s ≡ m = omega (arith, bit-least s m one) in
    let kept : bit t (m - 2 ^ s + 2 ^ s) ≡ bit t (m - 2 ^ s) = bit-keep s t (m - 2 ^ s) (bit-clear s m one) d in
    rw e (same-mark (m - 2 ^ s) m t (sym (rw back at kept))))
    (λ e. rw e)

-- A mark can be set within n digits.
pub mark-fits : (n m s : ℕ) → s < n → m < 2 ^ n → is_marked m s ≡ false → m + 2 ^ s < 2 ^ n
mark-fits n m s k h e = bit-fits n s m k h (mark-zero m s e)

-- The word of a level keeps its 64 digits.
pub marked-narrow : (n m s : ℕ) → s < n → m < 2 ^ n → marked m s < 2 ^ n
unfolding marked
marked-narrow n m s k h =
    test (is_marked m s) (λ e. rw e h) (λ e. rw e (mark-fits n m s k h e))

pub unmarked-narrow : (n m s : ℕ) → m < 2 ^ n → unmarked m s < 2 ^ n
unfolding unmarked
unmarked-narrow n m s h = test (is_marked m s) (λ e. rw e (omega arith)) (λ e. rw e h)

-- Two words with the same marks are the same.
pub marks-same : (n x y : ℕ) → x < 2 ^ n → y < 2 ^ n → ((t : ℕ) → t < n → is_marked x t ≡ is_marked y t) → x ≡ y
marks-same n x y hx hy same =
    bits-ext n x y hx hy
    (λ t h.
    test (is_marked x t)
    (λ e. mark-one x t e ∙ sym (mark-one y t (sym (same t h) ∙ e)))
    (λ e. mark-zero x t e ∙ sym (mark-zero y t (sym (same t h) ∙ e))))
