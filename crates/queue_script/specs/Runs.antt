-- A run of the script on the queue's model, line by line; and when session and words stand where such a run does.
-- The moves that are printed follow from the heap, so that the run is on the model with its heap, which means the plain list.
-- Assumes nothing.
use Rattle.std.specs.Prelude.{ℕ, ◌≤◌, cond, List, [], ◌≡◌, length, take}
use Rattle.std.specs.Prelude.{Option, None, Some}
use Rattle.script.specs.Grammar.{read_line}
use Rattle.script.specs.Answers.{Laid}
use Rattle.meaning.specs.Calls.{Call}
use Rattle.meaning.specs.Refusals.{bad_arity}
use Rattle.queue.specs.Model.{Model, step, step_moves, fresh_model}
use Rattle.queue.specs.Shows.{Shows}
use Rattle.queue.specs.declared.head.Head.{Head}
use Rattle.queue_script.specs.Commands.{command_of}
use Rattle.queue_script.specs.Texts.{bad_text, refused_text, ready_text, takes, answer_text}
use Rattle.queue_script.specs.Spoken.{call_of}
use Rattle.queue_script.specs.declared.commands.Command.{Command}
use Rattle.queue_script.specs.declared.commands.Command.TheVariants as command
use Rattle.queue_script.specs.declared.commands.Opening.{Opening}
use Rattle.script.specs.declared.session.Session.{Session}
use Rattle.script.specs.declared.session.Session.TheVariants as session

-- Before the first line, with a queue, or ended by the first line.
pub data Place : Type 0 where
  Before : Place
  Running : Model → Place
  Ended : Place

-- What the first line sets up, if it is right.
unfoldable pub opening_of : Option Command → Option Opening
opening_of None = None
opening_of (Some (command.Queue n d)) = Some (record { cells = n; arity = d })
opening_of (Some (command.Put key x)) = None
opening_of (Some command.First) = None
opening_of (Some command.Take) = None
opening_of (Some (command.Rekey c k key)) = None
opening_of (Some (command.Remove c k)) = None

-- "First line `queue N d` .., answered `queue N arity d`"; "A first line that is bad or refused gives `bad line` or its refusal".
unfoldable pub opening_text : Option Opening → List ℕ
opening_text None = bad_text
opening_text (Some o) = cond (bad_arity o.arity).applies (refused_text 2) (ready_text o.cells o.arity)

-- "and ends the run"
unfoldable pub opening_place : Option Opening → Place
opening_place None = Ended
opening_place (Some o) = cond (bad_arity o.arity).applies Ended (Running (fresh_model o.arity o.cells))

-- The answer of a call with its moves, or a bad line.
unfoldable pub call_text : Option Call → Model → List ℕ
call_text None m = bad_text
call_text (Some call) m = answer_text (takes call) (step call m).answer (step_moves call m)

unfoldable pub call_model : Option Call → Model → Model
call_model None m = m
call_model (Some call) m = (step call m).next

-- What a line prints.
unfoldable pub printed : Place → List ℕ → List ℕ
printed Before line = opening_text (opening_of (command_of (read_line line)))
printed (Running m) line = call_text (call_of (command_of (read_line line))) m
printed Ended line = []

-- Where the run stands after a line.
unfoldable pub following : Place → List ℕ → Place
following Before line = opening_place (opening_of (command_of (read_line line)))
following (Running m) line = Running (call_model (call_of (command_of (read_line line))) m)
following Ended line = Ended

-- Words for 512 cells, and no line yet.
pub record Blank (w : List ℕ) (p : Place) : Type 0 where
  pub place : p ≡ Before
  pub words : 4096 ≤ length w

-- A queue in the first n words that shows the run's model.
pub record Opened (n : ℕ) (h : Head) (w : List ℕ) (p : Place) : Type 0 where
  pub model : Model
  pub place : p ≡ Running model
  pub shows : Shows h (take n w) model

unfoldable pub Stands : Session Head → List ℕ → Place → Type 0
Stands session.Fresh w p = Blank w p
Stands (session.Open n h) w p = Opened n h w p
Stands session.Over w p = p ≡ Ended

-- Session and words stand at some place of a run.
pub record Reached (session : Session Head) (w : List ℕ) : Type 0 where
  pub place : Place
  pub stands : Stands session w place

-- The first line is answered.
pub record Begun (x : Option Opening) (out : List ℕ) (at : ℕ) (session : Session Head) (w out' : List ℕ) (end : ℕ) : Type 0 where
  pub stands : Stands session w (opening_place x)
  pub lines : Laid out at (opening_text x) out' end

-- A line is answered at a place of a run: the run's text is laid, and session and words stand where the run does next.
pub record Answered (p : Place) (line out : List ℕ) (at : ℕ) (session : Session Head) (w out' : List ℕ) (end : ℕ) : Type 0 where
  pub stands : Stands session w (following p line)
  pub lines : Laid out at (printed p line) out' end
