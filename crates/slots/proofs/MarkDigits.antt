-- Marks as binary digits: setting and clearing one within 64, and the search for the lowest.
-- Assumes nothing.
use Prim.Native.Nat.{ℕ, zero, suc, ◌+◌, ◌-◌, ◌*◌, ◌/◌, ◌%◌, ◌^◌, ◌<◌}
use native.Mathlib.Nat.{add-zero, add-suc, zero-add, suc-add, one-mul, zero-div, div-eq_of_lt, lt_of_lt_of_le}
use native.Mathlib.Omega.{arith}
use mathlib.Core.Bool.{Bool, true, false, cond}
use mathlib.Core.List.{List}
use mathlib.Core.Path.{◌≡◌, refl, sym, ap, ◌∙◌}
use Rattle.std.proofs.Common.{bit_and, bit_or}
use Rattle.std.proofs.Math.Pow.{pow-lt}
use Rattle.std.proofs.lemmas.Nat.{and_comm, and-not}
use Rattle.std.proofs.lemmas.Nat.Bits.{and_pow}
use Rattle.std.specs.Int.Bits.{or_add_and}
use lib.Dec.{eqb, lit<}
use lib.ListN.{get_or}
use lib.Pow.{pow_mono, shl_exact}
use Rattle.std.specs.Prelude.{Some, None}
use borrow.Author.Tests.{eq-eqb, ne_eqb, lt-ltb}
use Rattle.cells.proofs.Cases.{at_most?, test}
use Rattle.slots.specs.Rings.{is_marked, marked, unmarked, scan, slot_marked, slot_found}
use Rattle.slots.proofs.Binary.{mark-masked, unmark-masked}

-- `1 << s` at 64 digits.
pub one_shl : (s : ℕ) → s < 64 → (1 * 2 ^ s) % 2 ^ 64 ≡ 2 ^ s
one_shl s h = shl_exact {a = 1} 1 s 64 (lit< tt) (omega arith) ∙ one-mul (2 ^ s)

-- The bits `m | 1 << s` are m with its mark s, and `m & !(1 << s)` is m without.
pub or-marked : (m s : ℕ) → bit_or m (2 ^ s) ≡ marked m s
unfolding marked
or-marked m s =
    test (is_marked m s)
    (λ e. rw e (omega (arith, or_add_and m (2 ^ s), and_pow m s, mark-masked m s e)))
    (λ e. rw e (omega (arith, or_add_and m (2 ^ s), and_pow m s, unmark-masked m s e)))

pub and-unmarked : (m s : ℕ) → s < 64 → m < 2 ^ 64 → bit_and m (2 ^ 64 - 1 - 2 ^ s) ≡ unmarked m s
unfolding unmarked
and-unmarked m s h k =
    let parts = and-not 64 (2 ^ s) m (pow-lt h) k in
    test (is_marked m s)
    (λ e. rw e (omega (arith, parts, and_comm m (2 ^ 64 - 1 - 2 ^ s), and_comm (2 ^ s) m, and_pow m s, mark-masked m s e)))
    (λ e. rw e (omega (arith, parts, and_comm m (2 ^ 64 - 1 - 2 ^ s), and_comm (2 ^ s) m, and_pow m s, unmark-masked m s e)))

-- The search goes on behind numbers that do not pass.
scan-skip : (f : ℕ → Bool) (k n i : ℕ) → ((j : ℕ) → j < k → f (i + j) ≡ false) → scan f (k + n) i ≡ scan f n (i + k)
unfolding scan
scan-skip f zero n i h = rw (zero-add n, add-zero i)
scan-skip f (suc k) n i h =
    let here : f i ≡ false = rw add-zero at (h 0 (omega arith)) in
    rw (suc-add k n, here)
    (scan-skip f k n (suc i) (λ j l. let same : suc i + j ≡ i + suc j = omega arith in rw same (h (suc j) (omega arith)))
    ∙ rw (suc-add i k, add-suc i k))

-- The search ends at a number that passes.
scan-here : (f : ℕ → Bool) (n i : ℕ) → f i ≡ true → scan f (suc n) i ≡ i
unfolding scan
scan-here f n i h = rw h

-- What is found among the first numbers is found among more.
scan-found : (f : ℕ → Bool) (n m i : ℕ) → scan f n i < i + n → scan f (n + m) i ≡ scan f n i
unfolding scan
scan-found f zero m i h = absurd (omega arith)
scan-found f (suc n) m i h = rw (suc-add n m) (go (f i) h (scan-found f n m (suc i)))
  where
    go : (t : Bool) → cond t i (scan f n (suc i)) < i + suc n → (scan f n (suc i) < suc i + n → scan f (n + m) (suc i) ≡ scan f n (suc i))
        → cond t i (scan f (n + m) (suc i)) ≡ cond t i (scan f n (suc i))
    go true l more = refl
    go false l more = more (omega arith)

-- Tests that agree d further on find the same, d further on.
scan-shift : (f g : ℕ → Bool) (d n i : ℕ) → ((j : ℕ) → j < i + n → f (d + j) ≡ g j) → scan f n (d + i) ≡ d + scan g n i
unfolding scan
scan-shift f g d zero i h = refl
scan-shift f g d (suc n) i h =
    rw (h i (omega arith), ← add-suc d i) (go (g i) (scan-shift f g d n (suc i) (λ j l. h j (omega arith))))
  where
    go : (t : Bool) → scan f n (d + suc i) ≡ d + scan g n (suc i) → cond t (d + i) (scan f n (d + suc i)) ≡ d + cond t i (scan g n (suc i))
    go true e = refl
    go false e = e

-- The search for the lowest digit 1 of x finds its count of trailing zeros.
pub lowest-counted : (x n : ℕ) → n < 64 → x / 2 ^ n % 2 ≡ 1 → ((i : ℕ) → i < n → x / 2 ^ i % 2 ≡ 0) → n ≡ scan (is_marked x) 64 0
unfolding is_marked
lowest-counted x n h one none =
    let parts : 64 ≡ n + suc (63 - n) = omega arith in
    let here : eqb (x / 2 ^ n % 2) 1 ≡ true = eq-eqb (x / 2 ^ n % 2) 1 one in
    sym
    (ap (λ (k : ℕ). scan (is_marked x) k 0) parts
    ∙ scan-skip (is_marked x) n (suc (63 - n)) 0
    (λ j k. rw zero-add (ne_eqb (x / 2 ^ j % 2) 1 (λ e. omega (arith, none j k))))
    ∙ rw zero-add (scan-here (is_marked x) (63 - n) n here))

-- Digits of a number of 64 of which what is left is not 0: they are less than 64.
pub halved-small : (x s rest : ℕ) → x < 2 ^ 64 → 0 < rest → rest ≡ x / 2 ^ s → s < 64
halved-small x s rest h left is =
    at_most? 64 s (λ k. let none = div-eq_of_lt (lt_of_lt_of_le h (pow_mono k)) in absurd (omega (arith, left, is))) (λ k. k)

-- A digit of a level's word is the mark of a slot.
pub slot-digit : (marks : List ℕ) (p t : ℕ) → t < 64 → slot_marked marks (p * 64 + t) ≡ is_marked (get_or marks p 0) t
unfolding slot_marked
slot-digit marks p t h =
    let level : (p * 64 + t) / 64 ≡ p = omega arith in let slot : (p * 64 + t) % 64 ≡ t = omega arith in rw (level, slot)

-- A level's marks are 64 slots.
module _ (marks : List ℕ) (p m : ℕ) (h : p < 6) (e : m ≡ get_or marks p 0) where
  -- A level without marks is passed.
  pub level-none : m ≡ 0 → scan (slot_marked marks) (384 - p * 64) (p * 64) ≡ scan (slot_marked marks) (384 - (p + 1) * 64) ((p + 1) * 64)
  unfolding is_marked
  level-none z =
      let parts : 384 - p * 64 ≡ 64 + (384 - (p + 1) * 64) = omega arith in
      let after : (p + 1) * 64 ≡ p * 64 + 64 = omega arith in
      rw (parts, after)
      (scan-skip (slot_marked marks) 64 (384 - (p * 64 + 64)) (p * 64)
      (λ j k. slot-digit marks p j k ∙ rw (← e, z, zero-div (2 ^ j))))

  -- The lowest mark of the first level that has one is the first.
  pub level-found : (r : ℕ) → r ≡ scan (is_marked m) 64 0 → r < 64 → p * 64 + r ≡ scan (slot_marked marks) (384 - p * 64) (p * 64)
  level-found r is k =
      let parts : 384 - p * 64 ≡ 64 + (320 - p * 64) = omega arith in
      let there : scan (slot_marked marks) 64 (p * 64) ≡ p * 64 + r
      = ap (scan (slot_marked marks) 64) (sym (add-zero (p * 64)))
      ∙ scan-shift (slot_marked marks) (is_marked m) (p * 64) 64 0 (λ j l. slot-digit marks p j (omega arith) ∙ ap (λ (n : ℕ). is_marked n j) (sym e))
      ∙ ap (λ (n : ℕ). p * 64 + n) (sym is) in
      sym (rw parts (scan-found (slot_marked marks) 64 (320 - p * 64) (p * 64) (omega arith) ∙ there))

-- Behind the last level nothing is marked.
pub level-end : (marks : List ℕ) (p : ℕ) → p ≡ 6 → scan (slot_marked marks) (384 - p * 64) (p * 64) ≡ 384
unfolding scan
level-end marks p e = rw e

-- A number below 384 is a slot's, and 384 is none's.
pub found-is : (i n : ℕ) → i ≡ n → i < 384 → Some i ≡ slot_found n
unfolding slot_found
found-is i n e h = rw (← e, lt-ltb i 384 h)

pub found-out : (n : ℕ) → n ≡ 384 → None ≡ slot_found n
unfolding slot_found
found-out n e = rw e
