-- Demand 2 of the wheel's code: over any calls, quick or checked, from an accepted set-up on.
-- Assumes nothing.
use Prim.Native.Nat.{ℕ, ◌/◌}
use mathlib.Core.List.{List, [], ◌∷◌}
use mathlib.Core.Path.{◌≡◌, refl, ap, subst, ◌∙◌}
use lib.ListN.{length}
use borrow.Author.Tests.{ltb-false}
use Rattle.cells.specs.Lists.{All}
use Rattle.cells.specs.Store.{fresh_words}
use Rattle.places.specs.Ticks.{last_tick}
use Rattle.meaning.specs.Arranged.{arranged}
use Rattle.meaning.specs.Plain.{Plain, fresh}
use Rattle.meaning.specs.Refusals.{Free, beyond}
use Rattle.meaning.specs.Calls.{Call, OfWheel, Answer, is_refused, result}
use Rattle.meaning.specs.Runs.{answers}
use Rattle.meaning.specs.Kept.{Kept, Timed}
use Rattle.meaning.proofs.Given.{given-free, free-given}
use Rattle.dial.specs.Joined.{listed, step}
use Rattle.dial.specs.Lent.{lists_of}
use Rattle.dial.proofs.Listed.{step-plain}
use Rattle.wheel.specs.Answers.{told, told_set_up}
use Rattle.wheel.specs.Promise.{head_lists, Promise}
use Rattle.wheel.specs.SetUps.{set_up_causes, set_up_answer, set_up_head, set_up_words}
use Rattle.dial.specs.declared.state.Dial.{Dial}
use Rattle.wheel.specs.declared.head.Head.{Head}
use Rattle.std.specs.Prelude.{Result, Ok, Err}
use Rattle.cells.specs.Causes.{refusal_of}
use Rattle.cells.specs.declared.refusal.Refusal.{Refusal}
use Rattle.wheel.proofs.SetUpShown.{set-up-shows}
use Rattle.promises.specs.Made.{Lent, Made, Runs, calls_of}
use Rattle.promises.specs.WheelRuns.{
  head_of,
  lists,
  OneCall,
  quick,
  checked,
  quick_advance,
  checked_advance,
  begun,
  FromSetUp,
  answers_of,
  state_now,
  list_now,
  Holds,
}
use Rattle.promises.specs.Refusals.{NeverNine}
use Rattle.promises.proofs.SetUps.{size-some, size-most}
use Rattle.promises.proofs.CodeRuns.{run-answers, run_holds, never-nine}

-- The lists that a call in place is lent are those of the head of its arrays and numbers, so its promise is that of a quick call.
pub in-place-lists : (w first last marks : List ℕ) (d : Dial)
    → lists_of w first last marks d.due ≡ head_lists (head_of first last marks d) w
unfolding head_lists
in-place-lists w first last marks d = refl

-- What all kinds of calls promise.
pub promised : (call : Call) (s : Lent Head) (a : Answer) (s' : Lent Head) → OneCall call s a s'
    → OfWheel call × Promise call (lists s) s.head.dial a (lists s') s'.head.dial
promised call s a s' (quick o p) = (o, p)
promised call s a s' (checked o p) = (o, p.promise)
promised call s a s' (quick_advance target out out' r e q p) = rw (e, q) (tt, p.promise)
promised call s a s' (checked_advance target out out' r e q p) = rw (e, q) (tt, p.advances.promise)

-- All calls of a run are the wheel's.
pub ours : (xs : List (Made Head Answer)) (s : Lent Head) → Runs OneCall s xs → All OfWheel (calls_of xs)
unfolding calls_of
ours [] s run = tt
ours (x ∷ xs) s run = ((promised x.call s x.told x.left run.0).0, ours xs x.left run.1)

-- One call of the code answers as the plain list that it found, and leaves that list changed as the call changes it.
pub wheel-follows : (call : Call) (s : Lent Head) (a : Answer) (s' : Lent Head) (p : Plain) → OneCall call s a s' → Holds s p
    → (a ≡ (result 64 6 call p).answer) × Holds s' (result 64 6 call p).next
wheel-follows call s a s' p one h =
    let done = (promised call s a s' one).1.shown h.model h.shows in
    let plain = step-plain call h.model h.shows.valid.kept in (
      done.answer ∙ plain.0 ∙ ap (λ (q : Plain). (result 64 6 call q).answer) h.list,
      record {
        model = (step call h.model).next;
        shows = done.next;
        list = plain.1 ∙ ap (λ (q : Plain). (result 64 6 call q).next) h.list;
      },
    )

-- What holds a list by the rules.
module _ (s : Lent Head) (p : Plain) (h : Holds s p) where
  pub holds_kept : Kept p
  holds_kept = subst Kept h.list h.shows.valid.kept

  pub holds-timed : Timed 64 6 p
  holds-timed = subst (Timed 64 6) h.list h.shows.valid.timed

  -- The head's clock is the list's.
  pub holds-clock : s.head.dial.clock ≡ p.clock
  unfolding listed
  holds-clock = h.shows.clock ∙ ap (λ (q : Plain). q.clock) h.list

  module _ (xs : List (Made Head Answer)) (run : Runs OneCall s xs) where
    -- Over any calls what is told is what the plain list answers.
    pub told-plain : answers_of xs ≡ answers 64 6 (calls_of xs) p
    told-plain = run-answers OneCall (λ (a : Answer). a) Holds wheel-follows xs s p run h

-- An accepted set-up leaves the fresh list.
pub wheel-begins : (w : List ℕ) (t : ℕ) → set_up_answer w t ≡ Ok (set_up_head w t) → Holds (begun w t) (fresh (length w / 8) t)
unfolding set_up_answer set_up_words set_up_causes beyond told_set_up told is_refused listed arranged fresh
wheel-begins w t ready =
    let free : Free (set_up_causes w t) =
    free-given (λ (a : Result Head Refusal). is_refused (told_set_up a)) (λ i. Err (refusal_of i)) (Ok (set_up_head w t)) (λ i. refl)
    (set_up_causes w t)
    (ap (λ (a : Result Head Refusal). is_refused (told_set_up a)) ready) in
    let words : set_up_words w t ≡ fresh_words w = given-free _ _ (set_up_causes w t) free in
    record {
      model = fresh (length w / 8) t;
      shows =
          rw words
          (set-up-shows w t (size-some (length w / 8) free.0) (size-most (length w / 8) free.0)
          (ltb-false (last_tick 64 6) t free.1.0));
      list = refl;
    }

module _ (w : List ℕ) (t : ℕ) (xs : List (Made Head Answer)) (from : FromSetUp w t xs) where
  -- Demand 2: "From a set-up on, every answer is that of a plain list", over any calls, quick or checked.
  pub wheel-answers : answers_of xs ≡ answers 64 6 (calls_of xs) (fresh (length w / 8) t)
  wheel-answers = told-plain (begun w t) (fresh (length w / 8) t) (wheel-begins w t from.ready) xs from.run

  -- Head and memory are the plain list after the same calls.
  pub wheel-left : Holds (state_now w t xs) (list_now w t xs)
  wheel-left =
      run_holds OneCall (λ (a : Answer). a) Holds wheel-follows xs (begun w t) (fresh (length w / 8) t) from.run
      (wheel-begins w t from.ready)

  -- No call is told 9: what earlier calls left passes the audit.
  pub wheel-never-nine : NeverNine (answers_of xs)
  wheel-never-nine = rw wheel-answers (never-nine 64 6 (calls_of xs) (fresh (length w / 8) t))
