-- Two words of one number are the same word, so a program may tell its commands apart by their numbers.
-- Assumes nothing.
use Prim.Native.Nat.{ℕ, suc, ◌+◌, ◌-◌, ◌*◌, ◌^◌, ◌≤◌, ◌<◌}
use native.Mathlib.Omega.{arith}
use native.Mathlib.Nat.{pow-suc, pow-le-pow_right}
use mathlib.Core.Bool.{true, ◌&&◌}
use mathlib.Core.List.{List, [], ◌∷◌}
use mathlib.Core.Path.{◌≡◌, refl, sym}
use lib.ListN.{length}
use lib.Dec.{leb, ltb}
use borrow.Author.Tests.{ltb-true}
use Rattle.cells.proofs.Cases.{and-true, at_most?}
use Rattle.cells.specs.Lists.{All}
use Rattle.script.specs.Grammar.{every, numeral, is_word, word_number}

abbrev Bytes : List ℕ → Type 0
Bytes s = All (λ (b : ℕ). b < 256) s

-- So many bytes after a number below a power of 256, and after one that reaches it.
below_power : (k v : ℕ) (s : List ℕ) → Bytes s → v < 256 ^ k → numeral 256 0 v s < 256 ^ (k + length s)
unfolding numeral
below_power k v [] h l = let e : k + 0 ≡ k = omega arith in rw e l
below_power k v (b ∷ s) h l =
    let e : k + suc (length s) ≡ suc k + length s = omega arith in
    rw e (below_power (suc k) (v * 256 + (b - 0)) s h.1 (omega (arith, h.0, pow-suc 256 k)))

from-power : (k v : ℕ) (s : List ℕ) → 256 ^ k ≤ v → 256 ^ (k + length s) ≤ numeral 256 0 v s
unfolding numeral
from-power k v [] l = let e : k + 0 ≡ k = omega arith in rw e l
from-power k v (b ∷ s) l =
    let e : k + suc (length s) ≡ suc k + length s = omega arith in
    rw e (from-power (suc k) (v * 256 + (b - 0)) s (omega (arith, pow-suc 256 k)))

-- The first byte of a word is above the space.
first_byte : (b : ℕ) (t : List ℕ) → is_word (b ∷ t) ≡ true → 32 < b
unfolding is_word every
first_byte b t w =
    ltb-true 32 b
    (and-true (ltb 32 b) (every (ltb 32) t)
    (and-true (leb (suc (length t)) 8) (ltb 32 b && every (ltb 32) t)
    (and-true (leb 1 (suc (length t))) (leb (suc (length t)) 8 && (ltb 32 b && every (ltb 32) t)) w).1).1).0

-- Words of one number are equally long.
no_longer :
    (s t : List ℕ)
    → Bytes s
    → is_word t ≡ true
    → numeral 256 0 0 s ≡ numeral 256 0 0 t
    → length t ≤ length s
no_longer s [] h w e = omega arith
no_longer s (b ∷ t) h w e =
    at_most? (suc (length t)) (length s)
    (λ k. k)
    (λ k.
    let low : 32 < b = first_byte b t w in
    let up : numeral 256 0 0 s < 256 ^ (0 + length s) = below_power 0 0 s h (omega arith) in
    let down : 256 ^ (0 + length t) ≤ numeral 256 0 (0 * 256 + (b - 0)) t = from-power 0 (0 * 256 + (b - 0)) t (omega arith) in
    let powers : 256 ^ (0 + length s) ≤ 256 ^ (0 + length t) =
    pow-le-pow_right {n = 256} (omega arith) {i = 0 + length s} {j = 0 + length t} (omega arith) in
    let same : numeral 256 0 0 s ≡ numeral 256 0 (0 * 256 + (b - 0)) t = (unfold numeral in e) in
    absurd (omega arith))

-- Equally long bytes of one number are the same.
same_bytes :
    (v w : ℕ) (s t : List ℕ)
    → Bytes s
    → Bytes t
    → length s ≡ length t
    → numeral 256 0 v s ≡ numeral 256 0 w t
    → (v ≡ w) × (s ≡ t)
unfolding numeral
same_bytes v w [] [] h k l e = (e, refl)
same_bytes v w [] (c ∷ t) h k l e = absurd (omega arith)
same_bytes v w (b ∷ s) [] h k l e = absurd (omega arith)
same_bytes v w (b ∷ s) (c ∷ t) h k l e =
    let both = same_bytes (v * 256 + (b - 0)) (w * 256 + (c - 0)) s t h.1 k.1 (omega arith) e in
    let first : b ≡ c = omega (arith, both.0, h.0, k.0) in
    (omega (arith, both.0, h.0, k.0), rw (first, both.1))

pub word-of-number :
    (s t : List ℕ)
    → Bytes s
    → Bytes t
    → is_word s ≡ true
    → is_word t ≡ true
    → word_number s ≡ word_number t
    → s ≡ t
word-of-number s t h k v w e =
    let n : numeral 256 0 0 s ≡ numeral 256 0 0 t = (unfold word_number in e) in
    (same_bytes 0 0 s t h k (omega (arith, no_longer s t h w n, no_longer t s k v (sym n))) n).1
