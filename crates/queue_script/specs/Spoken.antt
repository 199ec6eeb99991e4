-- What a command after the first line does: the queue keeps its promise, and what is printed is what the promise tells.
-- Assumes nothing.
use Rattle.std.specs.Prelude.{ℕ, List, ◌≡◌}
use Rattle.std.specs.Prelude.{Option, None, Some}
use Rattle.script.specs.Answers.{Laid}
use Rattle.meaning.specs.Calls.{Call, Put, First, Take, Rekey, Remove}
use Rattle.queue.specs.Answers.{Told}
use Rattle.queue.specs.Promise.{Promise}
use Rattle.queue.specs.declared.head.Head.{Head}
use Rattle.queue_script.specs.Texts.{bad_text, takes, told_text}
use Rattle.queue_script.specs.declared.commands.Command.{Command}
use Rattle.queue_script.specs.declared.commands.Command.TheVariants as command

-- From head h and words w a call leaves h' and w', and what it tells is laid over the output from `at` on.
pub record Spoken (call : Call) (h : Head) (w out : List ℕ) (at : ℕ) (h' : Head) (w' out' : List ℕ) (end : ℕ) : Type 0 where
  pub told : Told
  pub promise : Promise call h w told h' w'
  pub line : Laid out at (told_text (takes call) told) out' end

-- A bad line changes nothing.
pub record Spurned (h : Head) (w out : List ℕ) (at : ℕ) (h' : Head) (w' out' : List ℕ) (end : ℕ) : Type 0 where
  pub head : h' ≡ h
  pub words : w' ≡ w
  pub line : Laid out at bad_text out' end

-- The call of a command; a queue is set up by the first line alone.
unfoldable pub call_of : Option Command → Option Call
call_of None = None
call_of (Some (command.Queue n d)) = None
call_of (Some (command.Put key x)) = Some (Put key x)
call_of (Some command.First) = Some First
call_of (Some command.Take) = Some Take
call_of (Some (command.Rekey c k key)) = Some (Rekey c k key)
call_of (Some (command.Remove c k)) = Some (Remove c k)

-- A line after the first: its call, or a bad line.
unfoldable pub Obeyed : Option Call → Head → List ℕ → List ℕ → ℕ → Head → List ℕ → List ℕ → ℕ → Type 0
Obeyed None h w out at h' w' out' end = Spurned h w out at h' w' out' end
Obeyed (Some call) h w out at h' w' out' end = Spoken call h w out at h' w' out' end
