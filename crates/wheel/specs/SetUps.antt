-- What the wheel's set-up answers, and the head and the words afterwards.
-- Assumes nothing.
use Rattle.std.specs.Prelude.{ℕ, ◌/◌, List, [], ◌∷◌, length, replicate, Result, Ok, Err}
use Rattle.cells.specs.Stack.{no_cell}
use Rattle.cells.specs.Store.{fresh_words}
use Rattle.cells.specs.declared.store.Store.{Store}
use Rattle.cells.specs.Causes.{refusal_of}
use Rattle.cells.specs.declared.refusal.Refusal.{Refusal}
use Rattle.meaning.specs.Refusals.{Cause, first_of, bad_size, beyond}
use Rattle.wheel.specs.declared.head.Head.{Head}

-- "Wheel set-up: 1, 5."
unfoldable pub set_up_causes : List ℕ → ℕ → List Cause
set_up_causes w t = bad_size (length w / 8) ∷ beyond 64 6 t ∷ []

-- A head with empty lists: "arrays of 384 indices, set up by one repeat of the empty mark".
unfoldable pub empty_head : ℕ → Store → Head
empty_head t s =
    record {
      first = replicate 384 no_cell;
      last = replicate 384 no_cell;
      marks = replicate 6 0;
      dial = record { clock = t; due = record { first = no_cell; last = no_cell }; store = s };
    }

-- "A counter starts at 1"; "cell 0 is on top".
abbrev pub fresh_store : List ℕ → Store
fresh_store w = record { cells = length w / 8; free = 0; counter = 1 }

-- The head of a set-up that is accepted.
abbrev pub set_up_head : List ℕ → ℕ → Head
set_up_head w t = empty_head t (fresh_store w)

-- "The first that applies, in the order listed here, is given."
unfoldable pub set_up_answer : List ℕ → ℕ → Result Head Refusal
set_up_answer w t = first_of (set_up_causes w t) (λ i. Err (refusal_of i)) (Ok (set_up_head w t))

-- "it rewrites every whole cell"; "A refusal hands back .. every lent word unchanged"
unfoldable pub set_up_words : List ℕ → ℕ → List ℕ
set_up_words w t = first_of (set_up_causes w t) (λ i. w) (fresh_words w)
