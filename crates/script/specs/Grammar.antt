-- The line grammar of document 01, "The script program", over bytes as numbers: 32 is the space, 10 the line feed, 48 to 57 the digits.
-- Assumes nothing.
use Rattle.std.specs.Prelude.{ℕ, ◌+◌, ◌-◌, ◌*◌, Bool, true, cond, ◌&&◌, List, [], ◌∷◌, length, leb, ltb, eqb, Option, None, Some}
use Rattle.script.specs.declared.reading.Line.{Line}
use Rattle.script.specs.declared.reading.Numbers.{Numbers}
use Rattle.script.specs.declared.reading.Numbers.TheVariants as numbers

-- The bytes before the first separator.
unfoldable pub up_to : ℕ → List ℕ → List ℕ
up_to sep [] = []
up_to sep (b ∷ s) = cond (eqb b sep) [] (b ∷ up_to sep s)

-- A byte in front of the first piece.
unfoldable pub in_front : ℕ → List (List ℕ) → List (List ℕ)
in_front b [] = (b ∷ []) ∷ []
in_front b (p ∷ ps) = (b ∷ p) ∷ ps

-- "single spaces, line feed": the pieces between separators, empty ones too.
unfoldable pub pieces : ℕ → List ℕ → List (List ℕ)
pieces sep [] = [] ∷ []
pieces sep (b ∷ s) = cond (eqb b sep) ([] ∷ pieces sep s) (in_front b (pieces sep s))

-- The pieces after a separator, of what stands from it on.
unfoldable pub after : ℕ → List ℕ → List (List ℕ)
after sep [] = []
after sep (b ∷ s) = pieces sep s

-- Each element passes a test.
unfoldable pub every : {A : Type 0} → (A → Bool) → List A → Bool
every p [] = true
every p (x ∷ xs) = p x && every p xs

-- Digits read on from the number v; z is the byte of the digit 0.
unfoldable pub numeral : ℕ → ℕ → ℕ → List ℕ → ℕ
numeral base z v [] = v
numeral base z v (b ∷ s) = numeral base z (v * base + (b - z)) s

-- "Numbers are decimal"
unfoldable pub is_digit : ℕ → Bool
is_digit b = leb 48 b && leb b 57

unfoldable pub value_of : List ℕ → ℕ
value_of f = numeral 10 48 0 f

-- "1 to 20 digits, at most 2^64 - 1"
unfoldable pub is_number : List ℕ → Bool
is_number f = leb 1 (length f) && (leb (length f) 20 && (every is_digit f && leb (value_of f) 18446744073709551615))

-- A command word is 1 to 8 bytes above the space; as a number to the base 256 it can be told from every other word.
unfoldable pub is_word : List ℕ → Bool
is_word f = leb 1 (length f) && (leb (length f) 8 && every (ltb 32) f)

unfoldable pub word_number : List ℕ → ℕ
word_number f = numeral 256 0 0 f

-- The numbers of at most three fields.
unfoldable pub numbers_of : List (List ℕ) → Numbers
numbers_of [] = numbers.Zero
numbers_of (f ∷ []) = numbers.One (value_of f)
numbers_of (f ∷ (g ∷ [])) = numbers.Two (value_of f) (value_of g)
numbers_of (f ∷ (g ∷ (h ∷ fs))) = numbers.Three (value_of f) (value_of g) (value_of h)

-- A word and 0 to 3 numbers; "any other line, an empty one .. too, gives `bad line`".
unfoldable pub line_of : List (List ℕ) → Option Line
line_of [] = None
line_of (w ∷ ns) =
    cond (is_word w && (leb (length ns) 3 && every is_number ns)) (Some (record { word = word_number w; numbers = numbers_of ns })) None

-- "A line is at most 128 bytes before its line feed"
unfoldable pub read_line : List ℕ → Option Line
read_line s = cond (leb (length s) 128) (line_of (pieces 32 s)) None
