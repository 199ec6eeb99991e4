-- What a command after the first line does: the wheel keeps its promise, and what is printed is the promise's answer.
-- Assumes nothing.
use Rattle.std.specs.Prelude.{ℕ, List, ◌≡◌}
use Rattle.std.specs.Prelude.{Option, None, Some}
use Rattle.script.specs.Answers.{Laid}
use Rattle.meaning.specs.Calls.{Call, Arm, Move, Cancel, Advance, Answer}
use Rattle.slots.specs.Rings.{Lists}
use Rattle.wheel.specs.Promise.{Promise}
use Rattle.dial.specs.declared.state.Dial.{Dial}
use Rattle.wheel_script.specs.Texts.{bad_text, answer_text}
use Rattle.wheel_script.specs.declared.commands.Command.{Command}
use Rattle.wheel_script.specs.declared.commands.Command.TheVariants as command

-- From lists l and numbers d a call leaves l' and d', and its answer is laid over the output from `at` on.
pub record Spoken (call : Call) (l : Lists) (d : Dial) (out : List ℕ) (at : ℕ) (l' : Lists) (d' : Dial) (out' : List ℕ) (end : ℕ) : Type 0 where
  pub answer : Answer
  pub promise : Promise call l d answer l' d'
  pub lines : Laid out at (answer_text answer) out' end

-- A bad line changes nothing.
pub record Spurned (l : Lists) (d : Dial) (out : List ℕ) (at : ℕ) (l' : Lists) (d' : Dial) (out' : List ℕ) (end : ℕ) : Type 0 where
  pub lists : l' ≡ l
  pub dial : d' ≡ d
  pub line : Laid out at bad_text out' end

-- The call of a command; a wheel is set up by the first line alone.
unfoldable pub call_of : Option Command → Option Call
call_of None = None
call_of (Some (command.Wheel n t)) = None
call_of (Some (command.Arm e x)) = Some (Arm e x)
call_of (Some (command.Cancel c k)) = Some (Cancel c k)
call_of (Some (command.Move c k e)) = Some (Move c k e)
call_of (Some (command.Advance t r)) = Some (Advance t r)

-- A line after the first: its call, or a bad line.
unfoldable pub Obeyed : Option Call → Lists → Dial → List ℕ → ℕ → Lists → Dial → List ℕ → ℕ → Type 0
Obeyed None l d out at l' d' out' end = Spurned l d out at l' d' out' end
Obeyed (Some call) l d out at l' d' out' end = Spoken call l d out at l' d' out' end
