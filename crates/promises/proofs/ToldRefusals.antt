-- Demand 1 of the code: which refusal is told, and exactly when.
-- Assumes nothing.
use Prim.Native.Nat.{ℕ, ◌/◌}
use mathlib.Core.List.{List}
use mathlib.Core.Logic.{◌↔◌}
use mathlib.Core.Path.{◌≡◌, sym, ap, ◌∙◌}
use lib.ListN.{length}
use Rattle.meaning.specs.Plain.{Plain}
use Rattle.meaning.specs.Calls.{Call, Advance, Answer, Refused, causes, result}
use Rattle.dial.specs.Joined.{listed}
use Rattle.queue.specs.Answers as queue_answers
use Rattle.queue.specs.Answers.{Told}
use Rattle.queue.specs.Means.{OfQueue}
use Rattle.queue.specs.Promise as queue
use Rattle.queue.specs.Rules.{QueueSound}
use Rattle.queue.specs.declared.head.Head as queue_head
use Rattle.queue.proofs.Outcomes as queue_outcomes
use Rattle.queue.proofs.ShownSound as queue_shown
use Rattle.queue.proofs.SoundShown as queue_sound
use Rattle.wheel.specs.Answers.{told, told_advance}
use Rattle.wheel.specs.Promise.{head_lists, Checked, CheckedAdvance}
use Rattle.wheel_rules.specs.Rules.{WheelSound}
use Rattle.cells.specs.declared.refusal.Refusal.{Refusal}
use Rattle.wheel.specs.declared.head.Advanced.{Advanced}
use Rattle.std.specs.Prelude.{Result, Err}
use Rattle.cells.specs.declared.refusal.Refusal.TheVariants as refusal
use Rattle.wheel.specs.declared.head.Head.{Head}
use Rattle.wheel.proofs.Outcomes.{answers-plain}
use Rattle.wheel_rules.proofs.ShownSound.{shown-sound}
use Rattle.wheel_rules.proofs.SoundShown.{sound-shown}
use Rattle.promises.specs.Made.{Lent}
use Rattle.promises.specs.QueueRuns as queue_runs
use Rattle.promises.specs.Refusals.{FirstIs}
use Rattle.promises.specs.WheelRuns.{OneCall, Holds}
use Rattle.promises.proofs.CodeRuns.{not-nine}
use Rattle.promises.proofs.QueueDemands.{queue-follows}
use Rattle.promises.proofs.Refusals.{refused-exactly}
use Rattle.promises.proofs.WheelDemands.{wheel-follows}

-- What a list answers is told exactly if its cause is the first that applies.
told-exactly : (i : ℕ) (call : Call) (p : Plain) (a : Answer) → a ≡ (result 64 6 call p).answer → (a ≡ Refused i) ↔ FirstIs i (causes 64 6 call p)
told-exactly i call p a e = (λ q. (refused-exactly 64 6 i call p).0 (sym e ∙ q), λ f. e ∙ (refused-exactly 64 6 i call p).1 f)

-- "Each refusal has one number and one stated cause": where a list is held, as after any calls from a set-up on, a call of the queue's code, quick or
-- checked, is told number i exactly if the first of its causes that applies has that number.
pub queue-told-exactly : (i : ℕ) (call : Call) (s : Lent queue_head.Head) (t : Told) (s' : Lent queue_head.Head) (p : Plain)
    → queue_runs.OneCall call s t s'
    → queue_runs.Holds s p
    → (t.answer ≡ Refused i) ↔ FirstIs i (causes 64 6 call p)
queue-told-exactly i call s t s' p one h = told-exactly i call p t.answer (queue-follows call s t s' p one h).0

-- And so of the wheel's.
pub wheel-told-exactly : (i : ℕ) (call : Call) (s : Lent Head) (a : Answer) (s' : Lent Head) (p : Plain) → OneCall call s a s' → Holds s p
    → (a ≡ Refused i) ↔ FirstIs i (causes 64 6 call p)
wheel-told-exactly i call s a s' p one h = told-exactly i call p a (wheel-follows call s a s' p one h).0

-- "The checked calls refuse broken memory (9) exactly when it breaks the written rules": on any head and words whatever.
pub queue-nine-exactly : (call : Call) (h : queue_head.Head) (w : List ℕ) (t : Told) (h' : queue_head.Head) (w' : List ℕ) → OfQueue call
    → queue.Checked call h w t h' w'
    → (t.answer ≡ Refused 9) ↔ (QueueSound w h → ⊥)
unfolding queue_answers.refusal queue_answers.told
queue-nine-exactly call h w t h' w' o p = (
  λ e sound.
      let m = queue_sound.sound-shown h w sound in
      not-nine 64 6 call m.shows.valid.list (sym (queue_outcomes.answers-plain call h w t h' w' m.model o p.promise m.shows) ∙ e),
  λ none. ap (λ (t : Told). t.answer) (p.broken (λ m s. none (queue_shown.shown-sound h w m s))).0,
)

pub wheel-nine-exactly : (call : Call) (h : Head) (w : List ℕ) (a : Answer) (h' : Head) (w' : List ℕ) → Checked call h w a h' w'
    → (a ≡ Refused 9) ↔ (WheelSound (head_lists h w) h.dial → ⊥)
wheel-nine-exactly call h w a h' w' p = (
  λ e sound.
      let m = sound-shown (head_lists h w) h.dial sound in
      not-nine 64 6 call (listed m.model)
      (sym (answers-plain call (head_lists h w) h.dial a (head_lists h' w') h'.dial m.model p.promise m.shows) ∙ e),
  λ none. (p.broken (λ m s. none (shown-sound (head_lists h w) h.dial m s))).0,
)

pub advance-nine-exactly : (target : ℕ) (h : Head) (w out : List ℕ) (r : Result Advanced Refusal) (h' : Head) (w' out' : List ℕ)
    → CheckedAdvance target h w out r h' w' out'
    → (r ≡ Err refusal.Unsound) ↔ (WheelSound (head_lists h w) h.dial → ⊥)
unfolding told_advance told
advance-nine-exactly target h w out r h' w' out' p = (
  λ e sound.
      let m = sound-shown (head_lists h w) h.dial sound in
      let call : Call = Advance target (length out / 4) in
      let says : told_advance r out' ≡ Refused 9 = ap (λ (x : Result Advanced Refusal). told_advance x out') e in
      not-nine 64 6 call (listed m.model)
      (sym
      (answers-plain call (head_lists h w) h.dial (told_advance r out') (head_lists h' w') h'.dial m.model p.advances.promise m.shows)
      ∙ says),
  λ none. (p.broken (λ m s. none (shown-sound (head_lists h w) h.dial m s))).0,
)
