-- Numbers as text, and the answer lines of the script programs, written into lent bytes.
-- Assumes nothing.
use Rattle.std.specs.Prelude.{ℕ, zero, suc, ◌+◌, ◌/◌, ◌%◌, min, cond, List, [], ◌∷◌, ◌++◌, ◌≡◌, length, ltb}
use Rattle.std.proofs.lemmas.List.Edits.{sets}

-- The decimal digits of n with no zero in front, in at most so many places.
unfoldable pub decimal_in : ℕ → ℕ → List ℕ
decimal_in zero n = []
decimal_in (suc k) n = cond (ltb n 10) ((48 + n) ∷ []) (decimal_in k (n / 10) ++ ((48 + n % 10) ∷ []))

-- "Numbers are decimal": 20 places hold every number of 64 bits.
unfoldable pub decimal : ℕ → List ℕ
decimal n = decimal_in 20 n

-- Numbers, each after a space.
unfoldable pub spaced : List ℕ → List ℕ
spaced [] = []
spaced (n ∷ ns) = (32 ∷ decimal n) ++ spaced ns

-- A text and numbers, as `put 0 1` or ` moves 2`.
unfoldable pub phrase : List ℕ → List ℕ → List ℕ
phrase text ns = text ++ spaced ns

-- Two phrases, a last text and the line feed, as `clock 4161 moves 4 more`.
unfoldable pub answer_line : List ℕ → List ℕ → List ℕ → List ℕ → List ℕ → List ℕ
answer_line head ns tail ms last = ((phrase head ns ++ phrase tail ms) ++ last) ++ (10 ∷ [])

-- `bad line`
abbrev pub bad_text : List ℕ
bad_text = answer_line (98 ∷ 97 ∷ 100 ∷ 32 ∷ 108 ∷ 105 ∷ 110 ∷ 101 ∷ []) [] [] [] []

-- `refused i`
abbrev pub refused_text : ℕ → List ℕ
refused_text i = answer_line (114 ∷ 101 ∷ 102 ∷ 117 ∷ 115 ∷ 101 ∷ 100 ∷ []) (i ∷ []) [] [] []

-- A text is laid over the bytes from `at` on; what would stand past their end is cut off. `end` is where the text ends.
pub record Laid (out : List ℕ) (at : ℕ) (text out' : List ℕ) (end : ℕ) : Type 0 where
  pub bytes : out' ≡ sets out at text
  pub stop : end ≡ min (at + length text) (length out)
