-- Laws of one field: a number read digit by digit, and a word read byte by byte.
-- Assumes nothing.
use Prim.Native.Nat.{ℕ, suc, ◌+◌, ◌-◌, ◌*◌, ◌^◌, ◌≤◌, ◌<◌}
use native.Mathlib.Omega.{arith}
use native.Mathlib.Numerals.{add-one}
use native.Mathlib.Nat.{pow-suc, sub-zero}
use mathlib.Core.Bool.{true, false, ◌&&◌}
use mathlib.Core.List.{List, [], ◌∷◌}
use mathlib.Core.Path.{◌≡◌, refl, sym, ◌∙◌}
use lib.ListN.{length, drop, get_or, drop_of_length-le}
use lib.Seq.{drop-cons}
use lib.Dec.{leb, ltb}
use borrow.Author.Tests.{le-leb, lt-leb, le-ltb, lt-ltb}
use Rattle.cells.proofs.Cases.{test, at_most?, and-false}
use Rattle.script.specs.Grammar.{every, numeral, is_digit, value_of, is_number, is_word, word_number}
use Rattle.script.specs.Steps.{given, number_field, word_field, one_digit}
use Rattle.std.specs.Prelude.{Option, None, Some, SomeIff}

-- A field that is none has no value.
pub no_value : (x : ℕ) → None ≡ Some x → ⊥
no_value x q = cc

-- A digit lies from 48 to 57.
pub digit_low : (b : ℕ) → b < 48 → is_digit b ≡ false
unfolding is_digit
digit_low b h = rw (lt-leb 48 b h)

pub digit-high : (b : ℕ) → 57 < b → is_digit b ≡ false
unfolding is_digit
digit-high b h = rw (lt-leb b 57 h) (and-false (leb 48 b))

pub digit-yes : (b : ℕ) → 48 ≤ b → b ≤ 57 → is_digit b ≡ true
unfolding is_digit
digit-yes b h k = rw (le-leb 48 b h, le-leb b 57 k)

-- One more digit is refused where the byte is none, or the number would be too large.
pub one-digit-none : (v b : ℕ) → is_digit b ≡ false → one_digit v b ≡ None
unfolding one_digit given
one-digit-none v b e = rw e

-- The same of the byte, for the check to find.
pub below_digits : (v b : ℕ) → b < 48 → None ≡ one_digit v b
below_digits v b h = sym (one-digit-none v b (digit_low b h))

pub above_digits : (v b : ℕ) → 57 < b → None ≡ one_digit v b
above_digits v b h = sym (one-digit-none v b (digit-high b h))

pub one-digit-large : (v b : ℕ) → 18446744073709551615 < v * 10 + (b - 48) → one_digit v b ≡ None
unfolding one_digit given
one-digit-large v b h =
    rw (lt-leb (v * 10 + (b - 48)) 18446744073709551615 h, and-false (is_digit b))

-- The same of the number, for the check to find: ten times it is too large already.
pub above_tenth : (v b : ℕ) → 1844674407370955161 < v → None ≡ one_digit v b
above_tenth v b h = sym (one-digit-large v b (omega arith))

pub one-digit-fits :
    (v b : ℕ)
    → is_digit b ≡ true
    → v * 10 + (b - 48) ≤ 18446744073709551615
    → one_digit v b ≡ Some (v * 10 + (b - 48))
unfolding one_digit given
one-digit-fits v b e h = rw (e, le-leb (v * 10 + (b - 48)) 18446744073709551615 h)

-- Ten times the number and the digit, added where that fits.
pub one-digit-sum :
    (v b tens d : ℕ) (r : Option ℕ)
    → is_digit b ≡ true
    → tens ≡ v * 10
    → d ≡ b - 48
    → SomeIff r (tens + d < 18446744073709551616) (tens + d)
    → r ≡ one_digit v b
one-digit-sum v b tens d None y t e s =
    at_most? (tens + d) 18446744073709551615
    (λ h. absurd (s (omega arith)))
    (λ h. sym (one-digit-large v b (omega arith)))
one-digit-sum v b tens d (Some x) y t e s =
    let same : x ≡ v * 10 + (b - 48) = omega arith in
    rw same (sym (one-digit-fits v b y (omega arith)))

-- A number with digits to come, from the value v of those before.
unfoldable pub digits_from : ℕ → List ℕ → Option ℕ
digits_from v s = given (every is_digit s && leb (numeral 10 48 v s) 18446744073709551615) (numeral 10 48 v s)

-- Digits only make a number larger.
pub numeral-grows : (v : ℕ) (s : List ℕ) → v ≤ numeral 10 48 v s
unfolding numeral
numeral-grows v [] = omega arith
numeral-grows v (b ∷ s) = omega (arith, numeral-grows (v * 10 + (b - 48)) s)

-- The first digit goes into the value.
pub digits_step : (v v' b : ℕ) (s : List ℕ) → Some v' ≡ one_digit v b → digits_from v (b ∷ s) ≡ digits_from v' s
digits_step v v' b s e =
    test (is_digit b)
    (λ d.
    at_most? (v * 10 + (b - 48)) 18446744073709551615
    (λ h.
    let q : Some v' ≡ Some (v * 10 + (b - 48)) = e ∙ one-digit-fits v b d h in
    let r : v' ≡ v * 10 + (b - 48) = cc in
    rw r (unfold digits_from every numeral in rw d))
    (λ h. absurd (no_value v' (sym (one-digit-large v b h) ∙ sym e))))
    (λ d. absurd (no_value v' (sym (one-digit-none v b d) ∙ sym e)))

-- A first byte that is refused makes the whole bad.
pub digits-bad : (v b : ℕ) (s : List ℕ) → None ≡ one_digit v b → None ≡ digits_from v (b ∷ s)
unfolding digits_from every numeral given
digits-bad v b s e =
    test (is_digit b)
    (λ d.
    at_most? (v * 10 + (b - 48)) 18446744073709551615
    (λ h. absurd (no_value (v * 10 + (b - 48)) (e ∙ one-digit-fits v b d h)))
    (λ h.
    let l : 18446744073709551615 < numeral 10 48 (v * 10 + (b - 48)) s = omega (arith, numeral-grows (v * 10 + (b - 48)) s) in
    rw (lt-leb (numeral 10 48 (v * 10 + (b - 48)) s) 18446744073709551615 l, and-false (is_digit b && every is_digit s))))
    (λ d. rw d)

-- What is read fits.
pub digit-fits : (v v' b : ℕ) → Some v' ≡ one_digit v b → v' ≤ 18446744073709551615
digit-fits v v' b e =
    test (is_digit b)
    (λ d.
    at_most? (v * 10 + (b - 48)) 18446744073709551615
    (λ h.
    let q : Some v' ≡ Some (v * 10 + (b - 48)) = e ∙ one-digit-fits v b d h in
    let r : v' ≡ v * 10 + (b - 48) = cc in
    omega arith)
    (λ h. absurd (no_value v' (sym (one-digit-large v b h) ∙ sym e))))
    (λ d. absurd (no_value v' (sym (one-digit-none v b d) ∙ sym e)))

-- A number has 1 to 20 digits, and is then read digit by digit.
pub number_empty : (s : List ℕ) → length s ≡ 0 → None ≡ number_field s
unfolding number_field is_number given
number_empty s e = rw (lt-leb 1 (length s) (omega arith))

pub number_long : (s : List ℕ) → 20 < length s → None ≡ number_field s
unfolding number_field is_number given
number_long s h = rw (lt-leb (length s) 20 h, and-false (leb 1 (length s)))

pub number_digits : (s : List ℕ) → (length s ≡ 0 → ⊥) → length s ≤ 20 → number_field s ≡ digits_from 0 s
unfolding number_field is_number value_of digits_from
number_digits s d h = rw (le-leb 1 (length s) (omega arith), le-leb (length s) 20 h)

-- The digits from i on, one of which is read or refused.
pub digits-again :
    (s : List ℕ) (v v' i : ℕ)
    → i < length s
    → Some v' ≡ one_digit v (get_or s i 0)
    → digits_from v (drop i s) ≡ digits_from 0 s
    → digits_from v' (drop (i + 1) s) ≡ digits_from 0 s
digits-again s v v' i h e k =
    rw (add-one i) (sym (digits_step v v' (get_or s i 0) (drop (suc i) s) e) ∙ (rw (drop-cons s i 0 h) at k))

pub digits-refused :
    (s : List ℕ) (v i : ℕ)
    → i < length s
    → None ≡ one_digit v (get_or s i 0)
    → digits_from v (drop i s) ≡ digits_from 0 s
    → None ≡ digits_from 0 s
digits-refused s v i h e k = digits-bad v (get_or s i 0) (drop (suc i) s) e ∙ (rw (drop-cons s i 0 h) at k)

pub digits-over :
    (s : List ℕ) (v i : ℕ)
    → length s ≤ i
    → v ≤ 18446744073709551615
    → digits_from v (drop i s) ≡ digits_from 0 s
    → Some v ≡ digits_from 0 s
digits-over s v i h f k = sym (last v f) ∙ (rw (drop_of_length-le s h) at k)
  where
    last : (v : ℕ) → v ≤ 18446744073709551615 → digits_from v [] ≡ Some v
    last v f = unfold digits_from every numeral given in rw (le-leb v 18446744073709551615 f)

-- A word with bytes to come, from the value v of those before.
unfoldable pub word_from : ℕ → List ℕ → Option ℕ
word_from v s = given (every (ltb 32) s) (numeral 256 0 v s)

-- A word has 1 to 8 bytes, and is then read byte by byte.
pub word_empty : (s : List ℕ) → length s ≡ 0 → None ≡ word_field s
unfolding word_field is_word given
word_empty s e = rw (lt-leb 1 (length s) (omega arith))

pub word_long : (s : List ℕ) → 8 < length s → None ≡ word_field s
unfolding word_field is_word given
word_long s h = rw (lt-leb (length s) 8 h, and-false (leb 1 (length s)))

pub word_bytes : (s : List ℕ) → (length s ≡ 0 → ⊥) → length s ≤ 8 → word_field s ≡ word_from 0 s
unfolding word_field is_word word_number word_from
word_bytes s d h = rw (le-leb 1 (length s) (omega arith), le-leb (length s) 8 h)

-- The bytes from i on, one of which is read or refused.
pub word-again :
    (s : List ℕ) (v b i : ℕ)
    → i < length s
    → b ≡ get_or s i 0
    → 32 < b
    → word_from v (drop i s) ≡ word_from 0 s
    → word_from (v * 256 + b) (drop (i + 1) s) ≡ word_from 0 s
word-again s v b i h e l k = rw (add-one i) (sym (step v b (drop (suc i) s) l) ∙ (rw (drop-cons s i 0 h, ← e) at k))
  where
    step : (v b : ℕ) (t : List ℕ) → 32 < b → word_from v (b ∷ t) ≡ word_from (v * 256 + b) t
    step v b t l = unfold word_from every numeral in rw (lt-ltb 32 b l, sub-zero b)

word-refused :
    (s : List ℕ) (v i : ℕ)
    → i < length s
    → get_or s i 0 ≤ 32
    → word_from v (drop i s) ≡ word_from 0 s
    → None ≡ word_from 0 s
word-refused s v i h l k = bad v (get_or s i 0) (drop (suc i) s) l ∙ (rw (drop-cons s i 0 h) at k)
  where
    bad : (v b : ℕ) (t : List ℕ) → b ≤ 32 → None ≡ word_from v (b ∷ t)
    bad v b t l = unfold word_from every numeral given in rw (le-ltb 32 b l)

pub word_refused :
    (s : List ℕ) (v i : ℕ)
    → i < length s
    → get_or s i 0 ≤ 32
    → word_from v (drop i s) ≡ word_from 0 s
    → (length s ≡ 0 → ⊥)
    → length s ≤ 8
    → None ≡ word_field s
word_refused s v i h l k d m = word-refused s v i h l k ∙ sym (word_bytes s d m)

pub word_over :
    (s : List ℕ) (v i : ℕ)
    → length s ≤ i
    → word_from v (drop i s) ≡ word_from 0 s
    → Some v ≡ word_from 0 s
word_over s v i h k = last v ∙ (rw (drop_of_length-le s h) at k)
  where
    last : (v : ℕ) → Some v ≡ word_from v []
    last v = unfold word_from every numeral given in refl

-- So many bytes make less than that power of 256.
pub word-larger : (v b i : ℕ) → v < 256 ^ i → b < 256 → v * 256 + b < 256 ^ (i + 1)
word-larger v b i h k = rw (add-one i) (omega (arith, pow-suc 256 i))
