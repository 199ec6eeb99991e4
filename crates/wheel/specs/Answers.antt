-- What the calls' answers say, in document 01's numbers and values.
-- Assumes nothing.
use Rattle.std.specs.Prelude.{ℕ, zero, suc, Bool, true, false, List, [], ◌∷◌, get_or, drop, Option, Some, None, Result, Ok, Err}
use Rattle.std.proofs.Math.Option.{none, some}
use Rattle.cells.specs.Causes.{number_of}
use Rattle.cells.specs.declared.refusal.Refusal.{Refusal}
use Rattle.cells.specs.declared.store.Handle as cells_handle
use Rattle.meaning.specs.Calls as calls
use Rattle.meaning.specs.Calls.{Shown, Answer, Refused, Ready, Changed, Load, Wakes}
use Rattle.wheel.specs.declared.head.Head.{Head}
use Rattle.wheel.specs.declared.head.Advanced.{Advanced}
use Rattle.wheel.specs.declared.head.Advanced.TheVariants as advanced

-- "An answer is either a refusal by its number or the result with its data."
unfoldable pub told : {A : Type 0} → (A → Answer) → Result A Refusal → Answer
told say (Ok x) = say x
told say (Err r) = Refused (number_of r)

unfoldable pub told_set_up : Result Head Refusal → Answer
told_set_up a = told (λ h. Ready) a

unfoldable pub told_arm : Result cells_handle.Handle Refusal → Answer
told_arm a = told (λ h. calls.Handle h.cell h.ticket) a

unfoldable pub told_move : Result Unit Refusal → Answer
told_move a = told (λ u. Changed) a

unfoldable pub told_cancel : Result ℕ Refusal → Answer
told_cancel a = told Load a

-- The tick of the next wake, if there is one.
unfoldable pub wakes_at : Option ℕ → Answer
wakes_at (Some t) = Wakes (some t)
wakes_at None = Wakes none

unfoldable pub told_wake : Result (Option ℕ) Refusal → Answer
told_wake a = told wakes_at a

-- "A fired record is four words: cell, ticket, deadline, load": the first of an output's.
unfoldable pub record_in : List ℕ → Shown
record_in out = record { cell = get_or out 0 0; ticket = get_or out 1 0; key = get_or out 2 0; load = get_or out 3 0 }

-- The first k records of an output.
unfoldable pub records_in : ℕ → List ℕ → List Shown
records_in zero out = []
records_in (suc k) out = record_in out ∷ records_in k (drop 4 out)

-- "The answer also gives the number fired, the clock and the moves."
unfoldable pub report : Bool → ℕ → ℕ → ℕ → List ℕ → Answer
report done k c v out = calls.Advanced (record { fired = records_in k out; clock = c; moves = v; done = done })

-- What an advance that was accepted says, by the output that it left.
unfoldable pub reported : List ℕ → Advanced → Answer
reported out (advanced.Done k c v) = report true k c v out
reported out (advanced.More k c v) = report false k c v out

unfoldable pub told_advance : Result Advanced Refusal → List ℕ → Answer
told_advance a out = told (reported out) a

-- How many records it wrote.
unfoldable pub written : Result Advanced Refusal → ℕ
written (Err r) = 0
written (Ok (advanced.Done k c v)) = k
written (Ok (advanced.More k c v)) = k
