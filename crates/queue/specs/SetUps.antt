-- What the ready queue's set-up answers and what words it leaves, on any words and any arity whatever.
-- Assumes nothing.
use Rattle.std.specs.Prelude.{ℕ, ◌/◌, List, [], ◌∷◌, length, Result, Ok, Err}
use Rattle.cells.specs.Causes.{refusal_of}
use Rattle.cells.specs.declared.refusal.Refusal.{Refusal}
use Rattle.cells.specs.Store.{fresh_words}
use Rattle.meaning.specs.Refusals.{Cause, first_of, bad_size, bad_arity}
use Rattle.queue.specs.declared.head.Head.{Head}

-- "Queue set-up: 1, 2."
unfoldable pub set_up_causes : List ℕ → ℕ → List Cause
set_up_causes w d = bad_size (length w / 8) ∷ bad_arity d ∷ []

-- "With L words there are N = floor(L/8) cells"; "A counter starts at 1"; "cell 0 is on top"; there is no entry yet.
abbrev pub fresh_head : List ℕ → ℕ → Head
fresh_head w d = record { arity = d; count = 0; store = record { cells = length w / 8; free = 0; counter = 1 } }

-- "The first that applies, in the order listed here, is given."
unfoldable pub set_up_answer : List ℕ → ℕ → Result Head Refusal
set_up_answer w d = first_of (set_up_causes w d) (λ i. Err (refusal_of i)) (Ok (fresh_head w d))

-- "it rewrites every whole cell"; "A refusal hands back .. every lent word unchanged".
unfoldable pub set_up_words : List ℕ → ℕ → List ℕ
set_up_words w d = first_of (set_up_causes w d) (λ i. w) (fresh_words w)
