-- Runs of the ready queue's code.
-- Assumes nothing.
use Rattle.std.specs.Prelude.{ℕ, ◌/◌, List, [], ◌∷◌, ◌≡◌, length, Ok}
use Rattle.meaning.specs.Plain.{Plain, fresh}
use Rattle.meaning.specs.Calls.{Call, Put, Answer, result}
use Rattle.meaning.specs.Runs.{after}
use Rattle.meaning.specs.Kept.{Kept}
use Rattle.queue.specs.Model.{Model, step, step_moves}
use Rattle.queue.specs.Means.{Means, OfQueue}
use Rattle.queue.specs.Shows.{Shows}
use Rattle.queue.specs.Answers.{Told}
use Rattle.queue.specs.Promise.{Promise, Checked}
use Rattle.queue.specs.SetUps.{set_up_answer, set_up_words}
use Rattle.queue.specs.declared.head.Head.{Head}
use Rattle.promises.specs.Made.{Lent, Made, Runs, calls_of, told_by, left_by}

-- "Every operation comes twice": one call of the code, quick or checked.
pub data OneCall (call : Call) (s : Lent Head) (t : Told) (s' : Lent Head) : Type 0 where
  quick : OfQueue call → Promise call s.head s.words t s'.head s'.words → OneCall call s t s'
  checked : OfQueue call → Checked call s.head s.words t s'.head s'.words → OneCall call s t s'

-- Head and memory after a set-up of the words w with arity d that answered with the head h.
abbrev pub begun : List ℕ → ℕ → Head → Lent Head
begun w d h = record { head = h; words = set_up_words w d }

-- "From a set-up on": the set-up was accepted, and then the calls xs were made.
pub record FromSetUp (w : List ℕ) (d : ℕ) (h : Head) (xs : List (Made Head Told)) : Type 0 where
  pub ready : set_up_answer w d ≡ Ok h
  pub run : Runs OneCall (begun w d h) xs

-- The answers that were told, and the moves.
abbrev pub answers_of : List (Made Head Told) → List Answer
answers_of xs = told_by (λ (t : Told). t.answer) xs

abbrev pub moves_of : List (Made Head Told) → List ℕ
moves_of xs = told_by (λ (t : Told). t.moves) xs

-- Head and memory after a set-up and calls, and the plain list after the same set-up and calls.
abbrev pub state_now : List ℕ → ℕ → Head → List (Made Head Told) → Lent Head
state_now w d h xs = left_by (begun w d h) xs

abbrev pub list_now : List ℕ → List (Made Head Told) → Plain
list_now w xs = after 64 6 (calls_of xs) (fresh (length w / 8) 0)

-- The plain list after one put more.
abbrev pub put_now : List ℕ → List (Made Head Told) → ℕ → ℕ → Plain
put_now w xs key load = (result 64 6 (Put key load) (list_now w xs)).next

-- "The meaning of both engines is a list of entries": head and memory show a model that means this list.
pub record Holds (s : Lent Head) (p : Plain) : Type 0 where
  pub model : Model
  pub shows : Shows s.head s.words model
  pub means : Means model p
  pub kept : Kept p

-- The heap after the calls, and the moves of each: "A queue's counts, such as its moves, follow from its memory by their own rules and not from the list."
unfoldable pub model_after : List Call → Model → Model
model_after [] m = m
model_after (call ∷ calls) m = model_after calls (step call m).next

unfoldable pub model_moves : List Call → Model → List ℕ
model_moves [] m = []
model_moves (call ∷ calls) m = step_moves call m ∷ model_moves calls (step call m).next
