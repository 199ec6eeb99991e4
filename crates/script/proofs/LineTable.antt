-- Lines read and answers written, worked out: document 01's examples, and what gives `bad line`.
-- Assumes nothing.
use Prim.Native.Nat.{ℕ}
use mathlib.Core.List.{List, [], ◌∷◌, map}
use mathlib.Core.Path.{◌≡◌, refl}
use Rattle.script.specs.Grammar.{read_line, line_of, numbers_of, pieces, in_front, every, numeral, is_digit, value_of, is_number, is_word, word_number}
use Rattle.script.specs.Answers.{decimal_in, decimal, spaced, phrase, answer_line}
use Rattle.script.specs.Chunks.{ended, rest, ending, lines_of}
use Rattle.std.specs.Prelude.{Option, None, Some}
use Rattle.script.specs.declared.reading.Line.{Line}
use Rattle.script.specs.declared.reading.Numbers.TheVariants as numbers

-- `wheel 2 0`, `A 4161 7`, `M 1 2 68719476735`, `G 4161 1`, `T`, `queue 4096 8`, `A 18446744073709551615 00000000000000000007`
pub good : List (List ℕ)
good =
    (119 ∷ 104 ∷ 101 ∷ 101 ∷ 108 ∷ 32 ∷ 50 ∷ 32 ∷ 48 ∷ [])
    ∷ (65 ∷ 32 ∷ 52 ∷ 49 ∷ 54 ∷ 49 ∷ 32 ∷ 55 ∷ [])
    ∷ (77 ∷ 32 ∷ 49 ∷ 32 ∷ 50 ∷ 32 ∷ 54 ∷ 56 ∷ 55 ∷ 49 ∷ 57 ∷ 52 ∷ 55 ∷ 54 ∷ 55 ∷ 51 ∷ 53 ∷ [])
    ∷ (71 ∷ 32 ∷ 52 ∷ 49 ∷ 54 ∷ 49 ∷ 32 ∷ 49 ∷ [])
    ∷ (84 ∷ [])
    ∷ (113 ∷ 117 ∷ 101 ∷ 117 ∷ 101 ∷ 32 ∷ 52 ∷ 48 ∷ 57 ∷ 54 ∷ 32 ∷ 56 ∷ [])
    ∷ (65 ∷ 32 ∷ 49 ∷ 56 ∷ 52 ∷ 52 ∷ 54 ∷ 55 ∷ 52 ∷ 52 ∷ 48 ∷ 55 ∷ 51 ∷ 55 ∷ 48 ∷ 57 ∷ 53 ∷ 53 ∷ 49 ∷ 54 ∷ 49 ∷ 53 ∷ 32 ∷ 48 ∷ 48 ∷ 48 ∷ 48 ∷ 48 ∷ 48 ∷ 48 ∷ 48 ∷ 48 ∷ 48 ∷ 48 ∷ 48 ∷ 48 ∷ 48 ∷ 48 ∷ 48 ∷ 48 ∷ 48 ∷ 48 ∷ 55 ∷ [])
    ∷ []

pub readings : List (Option Line)
readings =
    Some (record { word = 512852583788; numbers = numbers.Two 2 0 })
    ∷ Some (record { word = 65; numbers = numbers.Two 4161 7 })
    ∷ Some (record { word = 77; numbers = numbers.Three 1 2 68719476735 })
    ∷ Some (record { word = 71; numbers = numbers.Two 4161 1 })
    ∷ Some (record { word = 84; numbers = numbers.Zero })
    ∷ Some (record { word = 487300887909; numbers = numbers.Two 4096 8 })
    ∷ Some (record { word = 65; numbers = numbers.Two 18446744073709551615 7 })
    ∷ []

pub good-lines : map read_line good ≡ readings
unfolding good readings read_line line_of numbers_of pieces in_front every numeral is_digit value_of is_number is_word word_number
good-lines = refl

-- ``, `A `, `A  1`, ` A 1`, `A 1<CR>`, `A<TAB>1`, `A 1 `, `A -1`, `A +1`, `A 1x`, `A 18446744073709551616`, `A 000000000000000000001`, `A 1 2 3 4`, `commanded 1`, `<NUL>A 1`
pub bad : List (List ℕ)
bad =
    ([])
    ∷ (65 ∷ 32 ∷ [])
    ∷ (65 ∷ 32 ∷ 32 ∷ 49 ∷ [])
    ∷ (32 ∷ 65 ∷ 32 ∷ 49 ∷ [])
    ∷ (65 ∷ 32 ∷ 49 ∷ 13 ∷ [])
    ∷ (65 ∷ 9 ∷ 49 ∷ [])
    ∷ (65 ∷ 32 ∷ 49 ∷ 32 ∷ [])
    ∷ (65 ∷ 32 ∷ 45 ∷ 49 ∷ [])
    ∷ (65 ∷ 32 ∷ 43 ∷ 49 ∷ [])
    ∷ (65 ∷ 32 ∷ 49 ∷ 120 ∷ [])
    ∷ (65 ∷ 32 ∷ 49 ∷ 56 ∷ 52 ∷ 52 ∷ 54 ∷ 55 ∷ 52 ∷ 52 ∷ 48 ∷ 55 ∷ 51 ∷ 55 ∷ 48 ∷ 57 ∷ 53 ∷ 53 ∷ 49 ∷ 54 ∷ 49 ∷ 54 ∷ [])
    ∷ (65 ∷ 32 ∷ 48 ∷ 48 ∷ 48 ∷ 48 ∷ 48 ∷ 48 ∷ 48 ∷ 48 ∷ 48 ∷ 48 ∷ 48 ∷ 48 ∷ 48 ∷ 48 ∷ 48 ∷ 48 ∷ 48 ∷ 48 ∷ 48 ∷ 48 ∷ 49 ∷ [])
    ∷ (65 ∷ 32 ∷ 49 ∷ 32 ∷ 50 ∷ 32 ∷ 51 ∷ 32 ∷ 52 ∷ [])
    ∷ (99 ∷ 111 ∷ 109 ∷ 109 ∷ 97 ∷ 110 ∷ 100 ∷ 101 ∷ 100 ∷ 32 ∷ 49 ∷ [])
    ∷ (0 ∷ 65 ∷ 32 ∷ 49 ∷ [])
    ∷ []

pub bad-lines : map read_line bad ≡ map (λ (s : List ℕ). None) bad
unfolding bad read_line line_of numbers_of pieces in_front every numeral is_digit value_of is_number is_word word_number
bad-lines = refl

-- `put 0 1 moves 2`, `took 18446744073709551615 3 4 0 moves 10`, `bad line`, `load 9 moves 10`, `clock 4161 moves 4 more`
pub answers : List (List ℕ)
answers =
    answer_line (112 ∷ 117 ∷ 116 ∷ []) (0 ∷ 1 ∷ []) (32 ∷ 109 ∷ 111 ∷ 118 ∷ 101 ∷ 115 ∷ []) (2 ∷ []) ([])
    ∷ answer_line (116 ∷ 111 ∷ 111 ∷ 107 ∷ []) (18446744073709551615 ∷ 3 ∷ 4 ∷ 0 ∷ []) (32 ∷ 109 ∷ 111 ∷ 118 ∷ 101 ∷ 115 ∷ []) (10 ∷ []) ([])
    ∷ answer_line (98 ∷ 97 ∷ 100 ∷ 32 ∷ 108 ∷ 105 ∷ 110 ∷ 101 ∷ []) ([]) ([]) ([]) ([])
    ∷ answer_line (108 ∷ 111 ∷ 97 ∷ 100 ∷ []) (9 ∷ []) (32 ∷ 109 ∷ 111 ∷ 118 ∷ 101 ∷ 115 ∷ []) (10 ∷ []) []
    ∷ answer_line (99 ∷ 108 ∷ 111 ∷ 99 ∷ 107 ∷ []) (4161 ∷ []) (32 ∷ 109 ∷ 111 ∷ 118 ∷ 101 ∷ 115 ∷ []) (4 ∷ []) (32 ∷ 109 ∷ 111 ∷ 114 ∷ 101 ∷ [])
    ∷ []

pub written : List (List ℕ)
written =
    (112 ∷ 117 ∷ 116 ∷ 32 ∷ 48 ∷ 32 ∷ 49 ∷ 32 ∷ 109 ∷ 111 ∷ 118 ∷ 101 ∷ 115 ∷ 32 ∷ 50 ∷ 10 ∷ [])
    ∷ (116 ∷ 111 ∷ 111 ∷ 107 ∷ 32 ∷ 49 ∷ 56 ∷ 52 ∷ 52 ∷ 54 ∷ 55 ∷ 52 ∷ 52 ∷ 48 ∷ 55 ∷ 51 ∷ 55 ∷ 48 ∷ 57 ∷ 53 ∷ 53 ∷ 49 ∷ 54 ∷ 49 ∷ 53 ∷ 32 ∷ 51 ∷ 32 ∷ 52 ∷ 32 ∷ 48 ∷ 32 ∷ 109 ∷ 111 ∷ 118 ∷ 101 ∷ 115 ∷ 32 ∷ 49 ∷ 48 ∷ 10 ∷ [])
    ∷ (98 ∷ 97 ∷ 100 ∷ 32 ∷ 108 ∷ 105 ∷ 110 ∷ 101 ∷ 10 ∷ [])
    ∷ (108 ∷ 111 ∷ 97 ∷ 100 ∷ 32 ∷ 57 ∷ 32 ∷ 109 ∷ 111 ∷ 118 ∷ 101 ∷ 115 ∷ 32 ∷ 49 ∷ 48 ∷ 10 ∷ [])
    ∷ (99 ∷ 108 ∷ 111 ∷ 99 ∷ 107 ∷ 32 ∷ 52 ∷ 49 ∷ 54 ∷ 49 ∷ 32 ∷ 109 ∷ 111 ∷ 118 ∷ 101 ∷ 115 ∷ 32 ∷ 52 ∷ 32 ∷ 109 ∷ 111 ∷ 114 ∷ 101 ∷ 10 ∷ [])
    ∷ []

pub answer-lines : answers ≡ written
unfolding answers written answer_line phrase spaced decimal decimal_in
answer-lines = refl

-- ``, `A<LF>`, `A`, `A<LF><LF>B<LF>`, `<LF>`: "the last line may lack it"; "Empty input prints nothing."
pub inputs : List (List ℕ)
inputs =
    ([])
    ∷ (65 ∷ 10 ∷ [])
    ∷ (65 ∷ [])
    ∷ (65 ∷ 10 ∷ 10 ∷ 66 ∷ 10 ∷ [])
    ∷ (10 ∷ [])
    ∷ []

pub split : List (List (List ℕ))
split =
    ([])
    ∷ ((65 ∷ []) ∷ [])
    ∷ ((65 ∷ []) ∷ [])
    ∷ ((65 ∷ []) ∷ ([]) ∷ (66 ∷ []) ∷ [])
    ∷ (([]) ∷ [])
    ∷ []

pub input-lines : map lines_of inputs ≡ split
unfolding inputs split lines_of ended rest ending pieces in_front
input-lines = refl
