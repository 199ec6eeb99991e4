-- Laws of what a command says.
-- Assumes nothing.
use Prim.Native.Nat.{ℕ, ◌≤◌}
use native.Mathlib.Omega.{arith}
use mathlib.Core.List.{List}
use Rattle.std.specs.Prelude.{Option, None, Some}
use mathlib.Core.Path.{sym, ap, subst}
use lib.ListN.{length}
use Rattle.script.specs.Answers.{Laid}
use Rattle.script.proofs.Laying.{laid_as}
use Rattle.meaning.specs.Calls.{Call}
use Rattle.meaning.specs.Plain.{Plain}
use Rattle.wheel.specs.Promise.{DialShows}
use Rattle.slots.specs.Rings.{Lists}
use Rattle.dial.specs.declared.state.Dial.{Dial}
use Rattle.wheel_script.specs.Spoken.{Obeyed}
use Rattle.wheel_script.specs.Texts.{answer_text}
use Rattle.wheel_script.specs.Runs.{call_text, call_model}

module _ (l : Lists) (d : Dial) (out : List ℕ) (at : ℕ) (l' : Lists) (d' : Dial) (out' : List ℕ) (end : ℕ) where
  -- Each answer ends within the output.
  pub obeyed-within : (x : Option Call) → Obeyed x l d out at l' d' out' end → end ≤ length out
  unfolding Obeyed
  obeyed-within None s = omega (arith, s.line.stop)
  obeyed-within (Some call) s = omega (arith, s.lines.stop)

  -- Where a model is shown, the model's answer is printed, and its next model is shown.
  pub obeyed-shown : (x : Option Call) (m : Plain) → Obeyed x l d out at l' d' out' end → DialShows l d m
      → DialShows l' d' (call_model x m) × Laid out at (call_text x m) out' end
  unfolding Obeyed call_model call_text
  obeyed-shown None m s h =
      (subst (λ (y : Lists). DialShows y d' m) (sym s.lists) (subst (λ (e : Dial). DialShows l e m) (sym s.dial) h), s.line)
  obeyed-shown (Some call) m s h =
      let done = s.promise.shown m h in
      (done.next, laid_as out out' at end _ _ s.lines (ap answer_text done.answer))
