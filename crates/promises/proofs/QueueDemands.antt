-- Demand 2 of the ready queue's code: over any calls, quick or checked, from an accepted set-up on.
-- Assumes nothing.
use Prim.Native.Nat.{ℕ, ◌/◌}
use native.Mathlib.Omega.{arith}
use mathlib.Core.List.{List, [], ◌∷◌}
use mathlib.Core.Path.{◌≡◌, refl, ap₂, ◌∙◌}
use lib.ListN.{length}
use Rattle.meaning.specs.Plain.{Plain, fresh}
use Rattle.meaning.specs.Calls.{Call, result}
use Rattle.meaning.specs.Runs.{answers}
use Rattle.meaning.proofs.Reached.{kept_fresh, kept-call}
use Rattle.queue.specs.Model.{Model, step, fresh_model}
use Rattle.queue.specs.Means.{OfQueue}
use Rattle.queue.specs.Shows.{Shows}
use Rattle.queue.specs.Answers.{Told}
use Rattle.queue.specs.Promise.{Promise}
use Rattle.queue.specs.SetUps.{set_up_answer}
use Rattle.queue.specs.declared.head.Head.{Head}
use Rattle.std.specs.Prelude.{Ok}
use Rattle.queue.proofs.Meets.{meets}
use Rattle.queue.proofs.ModelRuns.{means-fresh}
use Rattle.queue.proofs.SetUpShown.{set-up-ready}
use Rattle.promises.specs.Made.{Lent, Made, Runs, calls_of, told_by, left_by}
use Rattle.promises.specs.QueueRuns.{OneCall, quick, checked, begun, FromSetUp, state_now, list_now, answers_of, moves_of, Holds, model_after, model_moves}
use Rattle.promises.specs.Refusals.{NeverNine}
use Rattle.promises.proofs.CodeRuns.{run-answers, run_holds, never-nine}

-- What both kinds of calls promise.
pub promised : (call : Call) (s : Lent Head) (t : Told) (s' : Lent Head) → OneCall call s t s'
    → OfQueue call × Promise call s.head s.words t s'.head s'.words
promised call s t s' (quick q p) = (q, p)
promised call s t s' (checked q p) = (q, p.promise)

-- One call of the code answers as the plain list that it found, and leaves that list changed as the call changes it.
pub queue-follows : (call : Call) (s : Lent Head) (t : Told) (s' : Lent Head) (p : Plain) → OneCall call s t s' → Holds s p
    → (t.answer ≡ (result 64 6 call p).answer) × Holds s' (result 64 6 call p).next
queue-follows call s t s' p one h =
    let both = promised call s t s' one in
    let done = both.1.shown h.model h.shows in
    let met = meets call h.model p both.0 h.kept h.means in (
      done.answer ∙ met.0,
      record { model = (step call h.model).next; shows = done.next; means = met.1; kept = kept-call 64 6 call p h.kept },
    )

-- An accepted set-up leaves the fresh list.
pub queue-begins : (w : List ℕ) (d : ℕ) (h : Head) → set_up_answer w d ≡ Ok h
    → Holds (begun w d h) (fresh (length w / 8) 0)
unfolding fresh_model
queue-begins w d h ready =
    let shows = set-up-ready w d h ready in
    let v = shows.valid in
    record {
      model = fresh_model d (length w / 8);
      shows = shows;
      means = means-fresh d (length w / 8) v.means.some v.means.most;
      kept = kept_fresh (length w / 8) 0 (omega (arith, v.means.cells, v.kept.sized)) (omega (arith, v.means.cells, v.kept.fits));
    }

-- The moves that are told are the model's, and the model is left that its steps lead to.
model-run : (xs : List (Made Head Told)) (s : Lent Head) (m : Model) → Runs OneCall s xs → Shows s.head s.words m
    → (moves_of xs ≡ model_moves (calls_of xs) m) × Shows (left_by s xs).head (left_by s xs).words (model_after (calls_of xs) m)
unfolding told_by calls_of left_by model_after model_moves
model-run [] s m run h = (refl, h)
model-run (x ∷ xs) s m run h =
    let done = (promised x.call s x.told x.left run.0).1.shown m h in
    let rest = model-run xs x.left (step x.call m).next run.1 done.next in
    (ap₂ (λ (k : ℕ) (l : List ℕ). k ∷ l) done.moves rest.0, rest.1)

module _ (w : List ℕ) (d : ℕ) (h : Head) (xs : List (Made Head Told)) (from : FromSetUp w d h xs) where
  -- Demand 2: "From a set-up on, every answer is that of a plain list", over any calls, quick or checked.
  pub queue-answers : answers_of xs ≡ answers 64 6 (calls_of xs) (fresh (length w / 8) 0)
  queue-answers =
      run-answers OneCall (λ (t : Told). t.answer) Holds queue-follows xs (begun w d h) (fresh (length w / 8) 0)
      from.run (queue-begins w d h from.ready)

  -- Head and memory are the plain list after the same calls.
  pub queue-left : Holds (state_now w d h xs) (list_now w xs)
  queue-left =
      run_holds OneCall (λ (t : Told). t.answer) Holds queue-follows xs (begun w d h) (fresh (length w / 8) 0)
      from.run (queue-begins w d h from.ready)

  -- The moves of each call are those of the heap that the calls before it built.
  pub queue-moves : moves_of xs ≡ model_moves (calls_of xs) (fresh_model d (length w / 8))
  queue-moves =
      (model-run xs (begun w d h) (fresh_model d (length w / 8)) from.run (set-up-ready w d h from.ready)).0

  -- Head and memory show that heap.
  pub queue-heap : Shows (state_now w d h xs).head (state_now w d h xs).words
      (model_after (calls_of xs) (fresh_model d (length w / 8)))
  queue-heap =
      (model-run xs (begun w d h) (fresh_model d (length w / 8)) from.run (set-up-ready w d h from.ready)).1

  -- No call is told 9: what earlier calls left passes the audit.
  pub queue-never-nine : NeverNine (answers_of xs)
  queue-never-nine = rw queue-answers (never-nine 64 6 (calls_of xs) (fresh (length w / 8) 0))
