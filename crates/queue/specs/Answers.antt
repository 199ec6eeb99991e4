-- What each case of the calls' answers says, in document 01's numbers and values.
-- Assumes nothing.
use Rattle.std.specs.Prelude.{ℕ, Result, Ok, Err}
use Rattle.cells.specs.Causes.{number_of}
use Rattle.cells.specs.declared.refusal.Refusal.{Refusal}
use Rattle.meaning.specs.Calls.{Answer, Refused, Handle, Changed, Load, Shows}
use Rattle.queue.specs.declared.head.Found.{Found}
use Rattle.queue.specs.declared.head.Entered.{Entered}
use Rattle.queue.specs.declared.head.Taken.{Taken}
use Rattle.queue.specs.declared.head.Removed.{Removed}

-- An answer, and the moves reported with it: a refusal moves nothing, and so does a look.
pub record Told : Type 0 where
  pub answer : Answer
  pub moves : ℕ

unfoldable pub told : Answer → ℕ → Told
told a m = record { answer = a; moves = m }

unfoldable pub refusal : ℕ → Told
refusal i = told (Refused i) 0

unfoldable pub handed : Found → Answer
handed f = Shows (record { cell = f.at.cell; ticket = f.at.ticket; key = f.key; load = f.load })

unfoldable pub told_put : Result Entered Refusal → Told
told_put (Err r) = refusal (number_of r)
told_put (Ok e) = told (Handle e.at.cell e.at.ticket) e.moves

unfoldable pub told_first : Result Found Refusal → Told
told_first (Err r) = refusal (number_of r)
told_first (Ok f) = told (handed f) 0

unfoldable pub told_take : Result Taken Refusal → Told
told_take (Err r) = refusal (number_of r)
told_take (Ok t) = told (handed t.found) t.moves

unfoldable pub told_rekey : Result ℕ Refusal → Told
told_rekey (Err r) = refusal (number_of r)
told_rekey (Ok m) = told Changed m

unfoldable pub told_remove : Result Removed Refusal → Told
told_remove (Err r) = refusal (number_of r)
told_remove (Ok x) = told (Load x.load) x.moves
