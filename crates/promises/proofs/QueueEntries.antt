-- Entries of the ready queue's code, from an accepted set-up on: handles and moves, by what the calls told.
-- Assumes nothing.
use Prim.Native.Nat.{ℕ, ◌≤◌}
use native.Mathlib.Omega.{arith}
use mathlib.Core.Bool.{true, cond}
use mathlib.Core.List.{List}
use mathlib.Core.Option.{none, some}
use mathlib.Core.Path.{◌≡◌, sym, ◌∙◌}
use Rattle.meaning.specs.Entries.{named}
use Rattle.meaning.specs.Heap.{levels}
use Rattle.meaning.specs.Calls.{Call, Put, Rekey, Remove, Refused, Handle, Load}
use Rattle.meaning.specs.Runs.{after}
use Rattle.queue.specs.Model.{Model}
use Rattle.queue.specs.Answers.{Told}
use Rattle.queue.specs.declared.head.Head.{Head}
use Rattle.queue.proofs.Meets.{means-tickets}
use Rattle.queue.proofs.MovesLevels.{put-levels, other-levels}
use Rattle.promises.specs.Handles.{ended, load_of}
use Rattle.promises.specs.Made.{Lent, Made, Runs, calls_of, left_by}
use Rattle.promises.specs.QueueRuns.{OneCall, FromSetUp, state_now, list_now, put_now, Holds}
use Rattle.promises.proofs.CodeRuns.{run_holds}
use Rattle.promises.proofs.Lives.{put-files}
use Rattle.promises.proofs.ToldHandles.{Filed, told-handle, filed-life, told-remove, told-stale}
use Rattle.promises.proofs.QueueDemands.{promised, queue-follows, queue-left}

module _ (w : List ℕ) (d : ℕ) (h : Head) (xs : List (Made Head Told)) (from : FromSetUp w d h xs) where
  held : Holds (state_now w d h xs) (list_now w xs)
  held = queue-left w d h xs from

  -- An entry that the code put in, and what was called later.
  module _
      (key load c k : ℕ)
      (t : Told)
      (s : Lent Head)
      (puts : OneCall (Put key load) (state_now w d h xs) t s)
      (handle : t.answer ≡ Handle c k)
      (later : List (Made Head Told))
      (run : Runs OneCall s later)
    where
      puts-as : Filed (Put key load) key load c k (list_now w xs)
      puts-as =
          told-handle (Put key load) key load c k (list_now w xs) (put-files 64 6 key load (list_now w xs))
          (sym handle ∙ (queue-follows (Put key load) (state_now w d h xs) t s (list_now w xs) puts held).0)

      holds_later : Holds (left_by s later) (after 64 6 (calls_of later) (put_now w xs key load))
      holds_later =
          run_holds OneCall (λ (t : Told). t.answer) Holds queue-follows later s (put_now w xs key load) run
          (queue-follows (Put key load) (state_now w d h xs) t s (list_now w xs) puts held).1

      -- Demand 2: "A handle names its own entry until that is fired, taken, cancelled or removed, and nothing afterwards."
      pub queue-names : load_of (named c k (after 64 6 (calls_of later) (put_now w xs key load)).entries)
          ≡ cond (ended 64 6 c k (calls_of later) (put_now w xs key load)) none (some load)
      queue-names = filed-life (Put key load) key load c k (list_now w xs) held.kept puts-as (calls_of later)

      -- So a remove by the handle that the put told is told the entry's load, and 7 once a call has taken or removed the entry.
      pub queue-removes : (t' : Told) (s' : Lent Head) → OneCall (Remove c k) (left_by s later) t' s'
          → t'.answer ≡ cond (ended 64 6 c k (calls_of later) (put_now w xs key load)) (Refused 7) (Load load)
      queue-removes t' s' one =
          (queue-follows (Remove c k) (left_by s later) t' s' (after 64 6 (calls_of later) (put_now w xs key load)) one holds_later).0
          ∙ told-remove c k (after 64 6 (calls_of later) (put_now w xs key load)) (ended 64 6 c k (calls_of later) (put_now w xs key load)) load queue-names

      -- So is a rekey once the entry has ended.
      pub queue-stale : ended 64 6 c k (calls_of later) (put_now w xs key load) ≡ true → (key' : ℕ) (t' : Told) (s' : Lent Head)
          → OneCall (Rekey c k key') (left_by s later) t' s'
          → t'.answer ≡ Refused 7
      queue-stale over key' t' s' one =
          (queue-follows (Rekey c k key') (left_by s later) t' s' (after 64 6 (calls_of later) (put_now w xs key load)) one holds_later).0
          ∙ (told-stale c k (after 64 6 (calls_of later) (put_now w xs key load)) (ended 64 6 c k (calls_of later) (put_now w xs key load)) load queue-names over
          ).rekey key'

  -- "Moves are at most the levels of the heap, taken before the call, or after it for put."
  pub queue-put-levels : (key load : ℕ) (t : Told) (s : Lent Head) → OneCall (Put key load) (state_now w d h xs) t s
      → t.moves ≤ levels (state_now w d h xs).head.arity s.head.count
  queue-put-levels key load t s one =
      let m : Model = held.model in
      let done = (promised (Put key load) (state_now w d h xs) t s one).1.shown m held.shows in
      rw (done.moves, held.shows.arity, done.next.count)
      (put-levels m (omega (arith, held.means.some)) (means-tickets m (list_now w xs) held.kept held.means) key load)

  pub queue-levels : (call : Call) (t : Told) (s : Lent Head) → OneCall call (state_now w d h xs) t s
      → ((key load : ℕ) → call ≡ Put key load → ⊥)
      → t.moves ≤ levels (state_now w d h xs).head.arity (state_now w d h xs).head.count
  queue-levels call t s one other =
      let m : Model = held.model in
      let done = (promised call (state_now w d h xs) t s one).1.shown m held.shows in
      rw (done.moves, held.shows.arity, held.shows.count)
      (other-levels m (omega (arith, held.means.some)) (means-tickets m (list_now w xs) held.kept held.means) call other)
