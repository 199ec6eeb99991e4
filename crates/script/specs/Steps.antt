-- What the steps of reading a line answer, in the grammar's words.
-- Assumes nothing.
use Rattle.std.specs.Prelude.{ℕ, ◌+◌, ◌-◌, ◌*◌, Bool, cond, ◌&&◌, List, [], ◌∷◌, leb, Option, None, Some}
use Rattle.script.specs.Grammar.{is_digit, is_number, value_of, is_word, word_number}
use Rattle.script.specs.declared.reading.Line.{Line}
use Rattle.script.specs.declared.reading.Numbers.{Numbers}
use Rattle.script.specs.declared.reading.Numbers.TheVariants as numbers

-- A field that passes its test has a value.
unfoldable pub given : Bool → ℕ → Option ℕ
given t v = cond t (Some v) None

unfoldable pub number_field : List ℕ → Option ℕ
number_field f = given (is_number f) (value_of f)

unfoldable pub word_field : List ℕ → Option ℕ
word_field f = given (is_word f) (word_number f)

-- The number v with one more digit.
unfoldable pub one_digit : ℕ → ℕ → Option ℕ
one_digit v b = given (is_digit b && leb (v * 10 + (b - 48)) 18446744073709551615) (v * 10 + (b - 48))

-- One more number after those before, of which there are two at most.
unfoldable pub onto : Option Numbers → ℕ → Option Numbers
onto None v = None
onto (Some numbers.Zero) v = Some (numbers.One v)
onto (Some (numbers.One a)) v = Some (numbers.Two a v)
onto (Some (numbers.Two a b)) v = Some (numbers.Three a b v)
onto (Some (numbers.Three a b c)) v = None

-- The numbers before and those of the fields to come, each of which has to be a number.
unfoldable pub fields_from : Option Numbers → List (List ℕ) → Option Numbers
fields_from n [] = n
fields_from n (f ∷ fs) = fields_from (cond (is_number f) (onto n (value_of f)) None) fs

-- A line of a word and such numbers.
unfoldable pub line_with : ℕ → Option Numbers → Option Line
line_with w None = None
line_with w (Some n) = Some (record { word = w; numbers = n })
