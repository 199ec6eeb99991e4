-- Laws of a number's decimal digits.
-- Assumes nothing.
use Prim.Native.Nat.{ℕ, zero, suc, ◌+◌, ◌-◌, ◌/◌, ◌%◌, ◌^◌, ◌≤◌, ◌<◌}
use native.Mathlib.Omega.{arith}
use native.Mathlib.Nat.{pow-suc}
use mathlib.Core.List.{List, [], ◌∷◌, ◌++◌}
use mathlib.Core.Path.{◌≡◌, sym, ap, ◌∙◌}
use lib.ListN.{length, take, drop, set, length-append, length-drop, length-set}
use lib.Seq.{take_all, drop-cons, get_or-set_same, drop-set-lt, append_snoc}
use borrow.Author.Tests.{lt-ltb, le-ltb}
use Rattle.cells.proofs.Cases.{at_most?}
use Rattle.script.specs.Answers.{decimal_in, decimal}

-- A number of one digit, and one of more.
pub in_small : (k n : ℕ) → n < 10 → decimal_in (suc k) n ≡ (48 + n) ∷ []
unfolding decimal_in
in_small k n h = rw (lt-ltb n 10 h)

pub in-more : (k n : ℕ) → 10 ≤ n → decimal_in (suc k) n ≡ decimal_in k (n / 10) ++ ((48 + n % 10) ∷ [])
unfolding decimal_in
in-more k n h = rw (le-ltb n 10 h)

-- Places that are enough are as good as one more.
in-enough : (k n : ℕ) → n < 10 ^ suc k → decimal_in (suc (suc k)) n ≡ decimal_in (suc k) n
in-enough zero n h = let s : n < 10 = omega (arith, pow-suc 10 0) in in_small 1 n s ∙ sym (in_small 0 n s)
in-enough (suc k) n h =
    at_most? 10 n
    (λ m.
    rw (in-more (suc (suc k)) n m, in-more (suc k) n m)
    (ap (λ (xs : List ℕ). xs ++ ((48 + n % 10) ∷ [])) (in-enough k (n / 10) (omega (arith, pow-suc 10 (suc k))))))
    (λ s. in_small (suc (suc k)) n s ∙ sym (in_small (suc k) n s))

pub decimal-small : (n : ℕ) → n < 10 → decimal n ≡ (48 + n) ∷ []
unfolding decimal
decimal-small n h = in_small 19 n h

pub decimal-more :
    (n : ℕ)
    → 10 ≤ n
    → n ≤ 18446744073709551615
    → decimal n ≡ decimal (n / 10) ++ ((48 + n % 10) ∷ [])
unfolding decimal
decimal-more n h f =
    in-more 19 n h ∙ ap (λ (xs : List ℕ). xs ++ ((48 + n % 10) ∷ [])) (sym (in-enough 18 (n / 10) (omega arith)))

-- No more than 20 digits.
in-length : (k n : ℕ) → length (decimal_in k n) ≤ k
in-length zero n = unfold decimal_in in omega arith
in-length (suc k) n =
    at_most? 10 n
    (λ m. rw (in-more k n m, length-append (decimal_in k (n / 10)) ((48 + n % 10) ∷ [])) (omega (arith, in-length k (n / 10))))
    (λ s. rw (in_small k n s) (omega arith))

pub decimal-length : (n : ℕ) → length (decimal n) ≤ 20
unfolding decimal
decimal-length n = in-length 20 n

-- Digits are put in from the last to the first: those of what is left, and those that stand from i on, are the number's.
pub record Spelling (n : ℕ) (d : List ℕ) (rest i : ℕ) : Type 0 where
  pub fits : rest ≤ 18446744073709551615
  pub long : length d ≡ 20
  pub digits : decimal rest ++ drop i d ≡ decimal n
  pub place : i ≤ 20

-- There is room for the digits of what is left, of which there is one at least.
pub decimal-some : (n : ℕ) → n ≤ 18446744073709551615 → 1 ≤ length (decimal n)
decimal-some n h =
    at_most? 10 n
    (λ m. rw (decimal-more n m h, length-append (decimal (n / 10)) ((48 + n % 10) ∷ [])) (omega arith))
    (λ s. rw (decimal-small n s) (omega arith))

pub spelling-room : (n : ℕ) (d : List ℕ) (rest i : ℕ) → Spelling n d rest i → 1 ≤ i
spelling-room n d rest i s =
    omega (
      arith,
      decimal-some rest s.fits,
      decimal-length n,
      ap length s.digits,
      length-append (decimal rest) (drop i d),
      length-drop i d,
    )

-- A digit put in before those that stand there.
digit-before : (xs d : List ℕ) (i y : ℕ) → 1 ≤ i → i ≤ length d → xs ++ drop (i - 1) (set d (i - 1) y) ≡ (xs ++ (y ∷ [])) ++ drop i d
digit-before xs d i y h k =
    let e : suc (i - 1) ≡ i = omega arith in
    let l : i - 1 < length d = omega arith in
    rw (
      drop-cons (set d (i - 1) y) (i - 1) 0 (rw (length-set d (i - 1) y) l),
      get_or-set_same d (i - 1) y 0 l,
      drop-set-lt (suc (i - 1)) d (i - 1) y (omega arith),
      e,
      append_snoc xs y (drop i d),
    )

pub spelling-more :
    (n : ℕ) (d : List ℕ) (rest i y : ℕ)
    → Spelling n d rest i
    → 10 ≤ rest
    → y ≡ 48 + rest % 10
    → Spelling n (set d (i - 1) y) (rest / 10) (i - 1)
spelling-more n d rest i y s h e = record {
  fits = omega (arith, s.fits);
  long = length-set d (i - 1) y ∙ s.long;
  digits =
      digit-before (decimal (rest / 10)) d i y (spelling-room n d rest i s) (omega (arith, s.place, s.long))
      ∙ (rw (decimal-more rest h s.fits, ← e) at s.digits);
  place = omega (arith, s.place);
}

pub spelling-last :
    (n : ℕ) (d : List ℕ) (rest i y : ℕ)
    → Spelling n d rest i
    → rest < 10
    → y ≡ 48 + rest
    → (i - 1 ≤ 20) × (drop (i - 1) (set d (i - 1) y) ≡ decimal n)
spelling-last n d rest i y s h e = (
  omega (arith, s.place),
  digit-before [] d i y (spelling-room n d rest i s) (omega (arith, s.place, s.long))
      ∙ (rw (decimal-small rest h, ← e) at s.digits),
)

-- The digits, as the code cuts them out.
pub spelt-part :
    (n : ℕ) (d : List ℕ) (from k : ℕ)
    → k ≡ length d - from
    → drop from d ≡ decimal n
    → take k (drop from d) ≡ decimal n
spelt-part n d from k e s = take_all k (drop from d) (omega (arith, length-drop from d)) ∙ s
