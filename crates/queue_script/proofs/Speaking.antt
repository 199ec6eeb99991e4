-- Laws of what a command says.
-- Assumes nothing.
use Prim.Native.Nat.{ℕ, ◌≤◌}
use native.Mathlib.Omega.{arith}
use mathlib.Core.List.{List}
use Rattle.std.specs.Prelude.{Option, None, Some}
use mathlib.Core.Path.{sym, ap, subst, ◌∙◌}
use lib.ListN.{length}
use Rattle.script.specs.Answers.{Laid}
use Rattle.script.proofs.Laying.{laid_as}
use Rattle.meaning.specs.Calls.{Call, Answer}
use Rattle.queue.specs.Model.{Model, step}
use Rattle.queue.specs.Shows.{Shows}
use Rattle.queue.specs.declared.head.Head.{Head}
use Rattle.queue_script.specs.Spoken.{Obeyed}
use Rattle.queue_script.specs.Texts.{takes, answer_text}
use Rattle.queue_script.specs.Runs.{call_text, call_model}

module _ (h : Head) (w out : List ℕ) (at : ℕ) (h' : Head) (w' out' : List ℕ) (end : ℕ) where
  -- Each answer ends within the output.
  pub obeyed-within : (x : Option Call) → Obeyed x h w out at h' w' out' end → end ≤ length out
  unfolding Obeyed
  obeyed-within None s = omega (arith, s.line.stop)
  obeyed-within (Some call) s = omega (arith, s.line.stop)

  -- Where a model is shown, the model's answer and moves are printed, and its next model is shown.
  pub obeyed-shown : (x : Option Call) (m : Model) → Obeyed x h w out at h' w' out' end → Shows h w m
      → Shows h' w' (call_model x m) × Laid out at (call_text x m) out' end
  unfolding Obeyed call_model call_text
  obeyed-shown None m s known =
      (subst (λ (y : List ℕ). Shows h' y m) (sym s.words) (subst (λ (e : Head). Shows e w m) (sym s.head) known), s.line)
  obeyed-shown (Some call) m s known =
      let done = s.promise.shown m known in (
        done.next,
        laid_as out out' at end _ _ s.line
            (ap (λ (a : Answer). answer_text (takes call) a s.told.moves) done.answer
            ∙ ap (λ (n : ℕ). answer_text (takes call) (step call m).answer n) done.moves),
      )
