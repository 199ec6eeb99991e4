-- Timers of the wheel's code, from an accepted set-up on: handles, firing and moves, by what the calls told.
-- Assumes nothing.
use Prim.Native.Nat.{ℕ, suc, ◌/◌, ◌≤◌, ◌<◌}
use native.Mathlib.Omega.{arith}
use mathlib.Core.Bool.{true, false, cond}
use mathlib.Core.List.{List}
use mathlib.Core.Option.{none, some}
use mathlib.Core.Logic.{◌≢◌}
use mathlib.Core.Path.{◌≡◌, ap, ◌∙◌}
use lib.Dec.{leb}
use lib.ListN.{length, replicate}
use Rattle.cells.specs.Lists.{All, times}
use Rattle.places.specs.Ticks.{last_tick}
use Rattle.meaning.specs.Entries.{named}
use Rattle.meaning.specs.Plain.{fresh, filed}
use Rattle.meaning.specs.Calls.{
  Call,
  due_by,
  report_of,
  Arm,
  Move,
  Cancel,
  Advance,
  Answer,
  Refused,
  Handle,
  Load,
  is_refused,
  result,
}
use Rattle.meaning.specs.Runs.{after}
use Rattle.wheel.specs.declared.head.Head.{Head}
use Rattle.promises.specs.Bounds.{moves_over}
use Rattle.promises.specs.Fires.{Fires, moved}
use Rattle.promises.specs.Handles.{ended, load_of}
use Rattle.promises.specs.Rounds.{ceil, done_after}
use Rattle.promises.specs.Tickets.{fired_tickets}
use Rattle.promises.specs.Made.{Lent, Made, Runs, calls_of, left_by}
use Rattle.promises.specs.WheelRuns.{OneCall, begun, FromSetUp, answers_of, state_now, list_now, armed_now, Holds}
use Rattle.promises.proofs.Bounds.{timer-bound}
use Rattle.promises.proofs.CodeRuns.{run_holds}
use Rattle.promises.proofs.Fires.{fires, passed}
use Rattle.promises.proofs.Rounds.{rounds}
use Rattle.promises.proofs.Tickets.{once}
use Rattle.promises.proofs.FiredOnce.{fired-ends, ended-fired}
use Rattle.promises.proofs.Lives.{arm-files}
use Rattle.promises.proofs.ToldHandles.{Filed, told-handle, filed-new, filed-life, told-cancel, told-stale}
use Rattle.promises.proofs.WheelDemands.{ours, wheel-follows, holds_kept, holds-timed, holds-clock, told-plain, wheel-begins, wheel-answers, wheel-left}

module _ (w : List ℕ) (t : ℕ) (xs : List (Made Head Answer)) (from : FromSetUp w t xs) where
  held : Holds (state_now w t xs) (list_now w t xs)
  held = wheel-left w t xs from

  -- A timer that the code armed, and what was called later.
  module _
      (e load c k : ℕ)
      (s : Lent Head)
      (arms : OneCall (Arm e load) (state_now w t xs) (Handle c k) s)
      (later : List (Made Head Answer))
      (run : Runs OneCall s later)
    where
      arms-as : Filed (Arm e load) e load c k (list_now w t xs)
      arms-as =
          told-handle (Arm e load) e load c k (list_now w t xs) (arm-files 64 6 e load (list_now w t xs))
          (wheel-follows (Arm e load) (state_now w t xs) (Handle c k) s (list_now w t xs) arms held).0

      holds-armed : Holds s (armed_now w t xs e load)
      holds-armed = (wheel-follows (Arm e load) (state_now w t xs) (Handle c k) s (list_now w t xs) arms held).1

      -- The list after the later calls.
      holds_later : Holds (left_by s later) (after 64 6 (calls_of later) (armed_now w t xs e load))
      holds_later = run_holds OneCall (λ (a : Answer). a) Holds wheel-follows later s (armed_now w t xs e load) run holds-armed

      -- Demand 2: "A handle names its own entry until that is fired, taken, cancelled or removed, and nothing afterwards."
      pub wheel-names : load_of (named c k (after 64 6 (calls_of later) (armed_now w t xs e load)).entries)
          ≡ cond (ended 64 6 c k (calls_of later) (armed_now w t xs e load)) none (some load)
      wheel-names =
          filed-life (Arm e load) e load c k (list_now w t xs) (holds_kept (state_now w t xs) (list_now w t xs) held) arms-as (calls_of later)

      -- So a cancel by the handle that the arm told is told the timer's load, and 7 once a call has fired or cancelled the timer.
      pub wheel-cancels : (a : Answer) (s' : Lent Head) → OneCall (Cancel c k) (left_by s later) a s'
          → a ≡ cond (ended 64 6 c k (calls_of later) (armed_now w t xs e load)) (Refused 7) (Load load)
      wheel-cancels a s' one =
          (wheel-follows (Cancel c k) (left_by s later) a s' (after 64 6 (calls_of later) (armed_now w t xs e load)) one holds_later).0
          ∙ told-cancel c k (after 64 6 (calls_of later) (armed_now w t xs e load)) (ended 64 6 c k (calls_of later) (armed_now w t xs e load)) load wheel-names

      -- So is a move once the timer has ended.
      pub wheel-stale : ended 64 6 c k (calls_of later) (armed_now w t xs e load) ≡ true → (e' : ℕ) (a : Answer) (s' : Lent Head)
          → OneCall (Move c k e') (left_by s later) a s'
          → a ≡ Refused 7
      wheel-stale over e' a s' one =
          (wheel-follows (Move c k e') (left_by s later) a s' (after 64 6 (calls_of later) (armed_now w t xs e load)) one holds_later).0
          ∙ (told-stale c k (after 64 6 (calls_of later) (armed_now w t xs e load)) (ended 64 6 c k (calls_of later) (armed_now w t xs e load)) load wheel-names over
          ).move e'

      -- Demand 2: "Nothing fires .. never once the clock is brought past it":
      -- a timer that no call moved has ended by the time the head's clock is past its deadline.
      pub wheel-passed : moved 64 6 c k (calls_of later) (armed_now w t xs e load) ≡ false → e < (left_by s later).head.dial.clock
          → ended 64 6 c k (calls_of later) (armed_now w t xs e load) ≡ true
      wheel-passed still past =
          passed 64 6 c k (filed e load (list_now w t xs)) (calls_of later) (armed_now w t xs e load) (ours later s run)
          (holds_kept s (armed_now w t xs e load) holds-armed)
          (holds-timed s (armed_now w t xs e load) holds-armed) new still
          (unfold filed in omega (arith, holds-clock (left_by s later) (after 64 6 (calls_of later) (armed_now w t xs e load)) holds_later))
        where
          new : named c k (armed_now w t xs e load).entries ≡ some (filed e load (list_now w t xs))
          new = filed-new (Arm e load) e load c k (list_now w t xs) (holds_kept (state_now w t xs) (list_now w t xs) held) arms-as

      -- So a timer that no call moved or cancelled has been told fired, and once, by the time the head's clock is past its deadline.
      pub wheel-fired : moved 64 6 c k (calls_of later) (armed_now w t xs e load) ≡ false → All (λ (call : Call). call ≢ Cancel c k) (calls_of later)
          → e < (left_by s later).head.dial.clock
          → times k (fired_tickets (answers_of later)) ≡ 1
      wheel-fired still kept past =
          rw (told-plain s (armed_now w t xs e load) holds-armed later run)
          (omega (
            arith,
            ended-fired 64 6 c k (calls_of later) (armed_now w t xs e load) (ours later s run) kept (wheel-passed still past),
            fired-ends 64 6 k (calls_of later) (armed_now w t xs e load),
            once 64 6 k (calls_of later) (armed_now w t xs e load) (holds_kept s (armed_now w t xs e load) holds-armed),
          ))

  -- Demand 2: "Nothing fires early", and after *done* nothing at or below the target is left.
  pub wheel-fires : (u r : ℕ) (a : Answer) (s : Lent Head) → OneCall (Advance u r) (state_now w t xs) a s → is_refused a ≡ false
      → Fires u (list_now w t xs) a (result 64 6 (Advance u r) (list_now w t xs)).next
  wheel-fires u r a s one ok =
      let told = (wheel-follows (Advance u r) (state_now w t xs) a s (list_now w t xs) one held).0 in
      rw told
      (fires 64 6 u r (list_now w t xs) (holds_kept (state_now w t xs) (list_now w t xs) held) (holds-timed (state_now w t xs) (list_now w t xs) held)
      (rw told at ok))

  -- Demand 3: "at most five for each timer since it was last armed or moved", which is known by its order number o.
  pub wheel-bound : (o : ℕ) (later : List (Made Head Answer)) → Runs OneCall (state_now w t xs) later
      → moves_over 64 6 o (calls_of later) (list_now w t xs) ≤ 5
  wheel-bound o later run =
      timer-bound 64 6 o (omega arith) (calls_of later) (list_now w t xs) (ours later (state_now w t xs) run)
      (holds_kept (state_now w t xs) (list_now w t xs) held) (holds-timed (state_now w t xs) (list_now w t xs) held)

  -- "With r at least 1 and k entries in D, repeated calls to the same target, with nothing between, answer *done* at call ceil(k/r), or at the first call
  -- when k is 0": the call after i equal ones is told *done* exactly if ceil(k/r) is at most its number, i + 1.
  pub wheel-rounds : (u r i : ℕ) (same : List (Made Head Answer)) → Runs OneCall (state_now w t xs) same
      → calls_of same ≡ replicate i (Advance u r)
      → (a : Answer) (s : Lent Head)
      → OneCall (Advance u r) (left_by (state_now w t xs) same) a s
      → 0 < r
      → u ≤ last_tick 64 6
      → (state_now w t xs).head.dial.clock ≤ u
      → (report_of a).done ≡ leb (ceil (due_by u (list_now w t xs).entries) r) (suc i)
  unfolding done_after
  wheel-rounds u r i same run calls a s one roomy inside forward =
      let before = run_holds OneCall (λ (a : Answer). a) Holds wheel-follows same (state_now w t xs) (list_now w t xs) run held in
      ap (λ (x : Answer). (report_of x).done)
      (wheel-follows (Advance u r) (left_by (state_now w t xs) same) a s (after 64 6 (calls_of same) (list_now w t xs)) one before).0
      ∙ ap (λ (l : List Call). (report_of (result 64 6 (Advance u r) (after 64 6 l (list_now w t xs))).answer).done) calls
      ∙ rounds 64 6 u r inside i (list_now w t xs) roomy (omega (arith, holds-clock (state_now w t xs) (list_now w t xs) held))

  -- Demand 2: "Nothing fires .. twice": no ticket is told fired twice, over all calls since the set-up.
  pub wheel-once : (k : ℕ) → times k (fired_tickets (answers_of xs)) ≤ 1
  wheel-once k =
      rw (wheel-answers w t xs from)
      (omega (
        arith,
        fired-ends 64 6 k (calls_of xs) (fresh (length w / 8) t),
        once 64 6 k (calls_of xs) (fresh (length w / 8) t)
            (holds_kept (begun w t) (fresh (length w / 8) t) (wheel-begins w t from.ready)),
      ))
