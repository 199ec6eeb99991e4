-- A number that is written is read back.
-- Assumes nothing.
use Prim.Native.Nat.{ℕ, zero, suc, ◌+◌, ◌-◌, ◌*◌, ◌/◌, ◌%◌, ◌^◌, ◌≤◌, ◌<◌}
use native.Mathlib.Omega.{arith}
use native.Mathlib.Nat.{pow-suc}
use mathlib.Core.Bool.{Bool, true}
use mathlib.Core.List.{List, [], ◌∷◌, ◌++◌}
use mathlib.Core.Path.{◌≡◌, refl}
use lib.ListN.{length}
use borrow.Author.Tests.{le-leb}
use Rattle.cells.proofs.Cases.{test, at_most?, clash}
use Rattle.script.specs.Grammar.{every, numeral, is_digit, value_of, is_number}
use Rattle.script.specs.Steps.{given, number_field}
use Rattle.script.specs.Answers.{decimal_in, decimal}
use Rattle.std.specs.Prelude.{Some}
use Rattle.script.proofs.Fields.{digit-yes}
use Rattle.script.proofs.Decimals.{in_small, in-more, decimal-length, decimal-some}

-- Digits joined are read one part after the other.
pub numeral-append :
    (base z v : ℕ) (xs ys : List ℕ)
    → numeral base z v (xs ++ ys) ≡ numeral base z (numeral base z v xs) ys
unfolding numeral
numeral-append base z v [] ys = refl
numeral-append base z v (x ∷ xs) ys = numeral-append base z (v * base + (x - z)) xs ys

pub every_append : {A : Type 0} (p : A → Bool) (xs ys : List A) → every p xs ≡ true → every p ys ≡ true → every p (xs ++ ys) ≡ true
unfolding every
every_append p [] ys h k = k
every_append p (x ∷ xs) ys h k =
    test (p x) (λ e. rw e (every_append p xs ys (rw e at h) k)) (λ e. clash (rw e at h) refl)

-- One digit at the end.
one_value : (v d : ℕ) → numeral 10 48 v ((48 + d) ∷ []) ≡ v * 10 + d
one_value v d = unfold numeral in omega arith

one-digit : (d : ℕ) → d < 10 → every is_digit ((48 + d) ∷ []) ≡ true
one-digit d h = unfold every in rw (digit-yes (48 + d) (omega arith) (omega arith))

-- The digits of a number have its value.
in-value : (k n : ℕ) → n < 10 ^ k → numeral 10 48 0 (decimal_in k n) ≡ n
in-value zero n h = unfold decimal_in numeral in omega (arith, h)
in-value (suc k) n h =
    at_most? 10 n
    (λ m.
    rw (
      in-more k n m,
      numeral-append 10 48 0 (decimal_in k (n / 10)) ((48 + n % 10) ∷ []),
      in-value k (n / 10) (omega (arith, pow-suc 10 k)),
      one_value (n / 10) (n % 10),
    )
    (omega arith))
    (λ s. rw (in_small k n s, one_value 0 n) (omega arith))

in-digits : (k n : ℕ) → every is_digit (decimal_in k n) ≡ true
in-digits zero n = unfold decimal_in every in refl
in-digits (suc k) n =
    at_most? 10 n
    (λ m.
    rw (in-more k n m)
    (every_append is_digit (decimal_in k (n / 10)) ((48 + n % 10) ∷ []) (in-digits k (n / 10)) (one-digit (n % 10) (omega arith))))
    (λ s. rw (in_small k n s) (one-digit n s))

pub decimal-value : (n : ℕ) → n ≤ 18446744073709551615 → value_of (decimal n) ≡ n
unfolding value_of decimal
decimal-value n h = in-value 20 n (omega arith)

pub decimal-digits : (n : ℕ) → every is_digit (decimal n) ≡ true
unfolding decimal
decimal-digits n = in-digits 20 n

pub decimal-number : (n : ℕ) → n ≤ 18446744073709551615 → is_number (decimal n) ≡ true
decimal-number n h =
    unfold is_number in
    rw (
      le-leb 1 (length (decimal n)) (decimal-some n h),
      le-leb (length (decimal n)) 20 (decimal-length n),
      decimal-digits n,
      decimal-value n h,
      le-leb n 18446744073709551615 h,
    )

-- What is written is read back.
pub number-back : (n : ℕ) → n ≤ 18446744073709551615 → number_field (decimal n) ≡ Some n
number-back n h = unfold number_field given in rw (decimal-number n h, decimal-value n h)
