-- A run of the script on the plain list, line by line; and when session, words and arrays stand where such a run does.
-- Assumes nothing.
use Rattle.std.specs.Prelude.{ℕ, ◌≤◌, cond, List, [], ◌≡◌, ltb, length, take, replicate}
use Rattle.std.specs.Prelude.{Option, None, Some}
use Rattle.script.specs.Grammar.{read_line}
use Rattle.script.specs.Answers.{Laid}
use Rattle.meaning.specs.Calls.{Call}
use Rattle.meaning.specs.Plain.{Plain, fresh}
use Rattle.dial.specs.Joined.{step}
use Rattle.dial.specs.Lent.{lists_of}
use Rattle.wheel.specs.Promise.{DialShows}
use Rattle.dial.specs.declared.state.Dial.{Dial}
use Rattle.wheel_script.specs.Commands.{command_of}
use Rattle.wheel_script.specs.Texts.{bad_text, refused_text, ready_text, answer_text}
use Rattle.wheel_script.specs.Spoken.{call_of}
use Rattle.wheel_script.specs.declared.commands.Command.{Command}
use Rattle.wheel_script.specs.declared.commands.Command.TheVariants as command
use Rattle.wheel_script.specs.declared.commands.Opening.{Opening}
use Rattle.script.specs.declared.session.Session.{Session}
use Rattle.script.specs.declared.session.Session.TheVariants as session

-- Before the first line, with a wheel, or ended by the first line.
pub data Place : Type 0 where
  Before : Place
  Running : Plain → Place
  Ended : Place

-- What the first line sets up, if it is right.
unfoldable pub opening_of : Option Command → Option Opening
opening_of None = None
opening_of (Some (command.Wheel n t)) = Some (record { cells = n; start = t })
opening_of (Some (command.Arm e x)) = None
opening_of (Some (command.Cancel c k)) = None
opening_of (Some (command.Move c k e)) = None
opening_of (Some (command.Advance t r)) = None

-- "First line `wheel N t` .., answered `wheel N clock t`"; "A first line that is bad or refused gives `bad line` or its refusal".
unfoldable pub opening_text : Option Opening → List ℕ
opening_text None = bad_text
opening_text (Some o) = cond (ltb 68719476735 o.start) (refused_text 5) (ready_text o.cells o.start)

-- "and ends the run"
unfoldable pub opening_place : Option Opening → Place
opening_place None = Ended
opening_place (Some o) = cond (ltb 68719476735 o.start) Ended (Running (fresh o.cells o.start))

-- The answer of a call, or a bad line.
unfoldable pub call_text : Option Call → Plain → List ℕ
call_text None m = bad_text
call_text (Some call) m = answer_text (step call m).answer

unfoldable pub call_model : Option Call → Plain → Plain
call_model None m = m
call_model (Some call) m = (step call m).next

-- What a line prints.
unfoldable pub printed : Place → List ℕ → List ℕ
printed Before line = opening_text (opening_of (command_of (read_line line)))
printed (Running m) line = call_text (call_of (command_of (read_line line))) m
printed Ended line = []

-- Where the run stands after a line.
unfoldable pub following : Place → List ℕ → Place
following Before line = opening_place (opening_of (command_of (read_line line)))
following (Running m) line = Running (call_model (call_of (command_of (read_line line))) m)
following Ended line = Ended

-- Words for 512 cells, and the arrays of an empty wheel.
pub record Blank (w first last marks : List ℕ) (p : Place) : Type 0 where
  pub place : p ≡ Before
  pub words : 4096 ≤ length w
  pub firsts : first ≡ replicate 384 4096
  pub lasts : last ≡ replicate 384 4096
  pub unmarked : marks ≡ replicate 6 0

-- A wheel in the first n words that shows the run's model.
pub record Opened (n : ℕ) (d : Dial) (w first last marks : List ℕ) (p : Place) : Type 0 where
  pub model : Plain
  pub place : p ≡ Running model
  pub shows : DialShows (lists_of (take n w) first last marks d.due) d model

unfoldable pub Stands : Session Dial → List ℕ → List ℕ → List ℕ → List ℕ → Place → Type 0
Stands session.Fresh w first last marks p = Blank w first last marks p
Stands (session.Open n d) w first last marks p = Opened n d w first last marks p
Stands session.Over w first last marks p = p ≡ Ended

-- Session, words and arrays stand at some place of a run.
pub record Reached (session : Session Dial) (w first last marks : List ℕ) : Type 0 where
  pub place : Place
  pub stands : Stands session w first last marks place

-- The first line is answered.
pub record Begun (x : Option Opening) (out : List ℕ) (at : ℕ) (session : Session Dial) (w first last marks out' : List ℕ) (end : ℕ) : Type 0 where
  pub stands : Stands session w first last marks (opening_place x)
  pub lines : Laid out at (opening_text x) out' end

-- A line is answered at a place of a run: the run's text is laid, and session, words and arrays stand where the run does next.
pub record Answered (p : Place) (line out : List ℕ) (at : ℕ) (session : Session Dial) (w first last marks out' : List ℕ) (end : ℕ) : Type 0 where
  pub stands : Stands session w first last marks (following p line)
  pub lines : Laid out at (printed p line) out' end
