-- Runs of the wheel's code.
-- Assumes nothing.
use Rattle.std.specs.Prelude.{ℕ, ◌/◌, List, ◌≡◌, length, Result, Ok}
use Rattle.meaning.specs.Plain.{Plain, fresh}
use Rattle.meaning.specs.Calls.{Call, Arm, Advance, OfWheel, Answer, result}
use Rattle.meaning.specs.Runs.{after}
use Rattle.slots.specs.Rings.{Lists}
use Rattle.dial.specs.Joined.{listed}
use Rattle.wheel.specs.Answers.{told_advance}
use Rattle.wheel.specs.Promise.{head_lists, DialShows, Promise, Advances, Checked, CheckedAdvance}
use Rattle.wheel.specs.SetUps.{set_up_answer, set_up_head, set_up_words}
use Rattle.dial.specs.declared.state.Dial.{Dial}
use Rattle.wheel.specs.declared.head.Head.{Head}
use Rattle.cells.specs.declared.refusal.Refusal.{Refusal}
use Rattle.wheel.specs.declared.head.Advanced.{Advanced}
use Rattle.promises.specs.Demand3.{TellsAsOne}
use Rattle.promises.specs.Made.{Lent, Made, Runs, calls_of, told_by, left_by}

-- The head of the arrays that a call in place is lent and its numbers.
abbrev pub head_of : List ℕ → List ℕ → List ℕ → Dial → Head
head_of first last marks d = record { first = first; last = last; marks = marks; dial = d }

-- The lists of head and memory.
abbrev pub lists : Lent Head → Lists
lists s = head_lists s.head s.words

-- "Every operation comes twice": one call of the code, quick or checked; an advance has its lent output besides, which its room is taken from.
-- A call in place promises what the quick one does, of the head that its lent arrays and its numbers are.
pub data OneCall (call : Call) (s : Lent Head) (a : Answer) (s' : Lent Head) : Type 0 where
  quick : OfWheel call → Promise call (lists s) s.head.dial a (lists s') s'.head.dial → OneCall call s a s'
  checked : OfWheel call → Checked call s.head s.words a s'.head s'.words → OneCall call s a s'
  quick_advance :
      (target : ℕ) (out out' : List ℕ) (r : Result Advanced Refusal)
      → call ≡ Advance target (length out / 4)
      → a ≡ told_advance r out'
      → Advances target (lists s) s.head.dial out r (lists s') s'.head.dial out'
      → OneCall call s a s'
  checked_advance :
      (target : ℕ) (out out' : List ℕ) (r : Result Advanced Refusal)
      → call ≡ Advance target (length out / 4)
      → a ≡ told_advance r out'
      → CheckedAdvance target s.head s.words out r s'.head s'.words out'
      → OneCall call s a s'

-- Head and memory after a set-up of the words w at start t.
abbrev pub begun : List ℕ → ℕ → Lent Head
begun w t = record { head = set_up_head w t; words = set_up_words w t }

-- "From a set-up on": the set-up was accepted, and then the calls xs were made.
pub record FromSetUp (w : List ℕ) (t : ℕ) (xs : List (Made Head Answer)) : Type 0 where
  pub ready : set_up_answer w t ≡ Ok (set_up_head w t)
  pub run : Runs OneCall (begun w t) xs

-- The answers that were told.
abbrev pub answers_of : List (Made Head Answer) → List Answer
answers_of xs = told_by (λ (a : Answer). a) xs

-- Head and memory after a set-up and calls, and the plain list after the same set-up and calls.
abbrev pub state_now : List ℕ → ℕ → List (Made Head Answer) → Lent Head
state_now w t xs = left_by (begun w t) xs

abbrev pub list_now : List ℕ → ℕ → List (Made Head Answer) → Plain
list_now w t xs = after 64 6 (calls_of xs) (fresh (length w / 8) t)

-- The plain list after one arm more.
abbrev pub armed_now : List ℕ → ℕ → List (Made Head Answer) → ℕ → ℕ → Plain
armed_now w t xs e load = (result 64 6 (Arm e load) (list_now w t xs)).next

-- "The meaning of both engines is a list of entries": head and memory show a model whose plain list is this.
pub record Holds (s : Lent Head) (p : Plain) : Type 0 where
  pub model : Plain
  pub shows : DialShows (lists s) s.head.dial model
  pub list : listed model ≡ p

-- Demand 3: from head and memory that are the list p, advances of the code told `told` and left s₁; one advance of the code to u told `one` and left s₂.
pub record CodeAsOne (u : ℕ) (p : Plain) (told : List Answer) (s₁ : Lent Head) (one : Answer) (s₂ : Lent Head) : Type 0 where
  pub tells : TellsAsOne 64 6 u p told one
  -- "the entries left": what both left is one list.
  pub left : Plain
  pub many : Holds s₁ left
  pub alone : Holds s₂ left
  -- "every later answer": whatever is called afterwards, quick or checked.
  pub later :
      (xs ys : List (Made Head Answer))
      → Runs OneCall s₁ xs
      → Runs OneCall s₂ ys
      → calls_of xs ≡ calls_of ys
      → answers_of xs ≡ answers_of ys
