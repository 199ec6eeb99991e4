-- An advance as functions have it: its state in lent slices with a turn's numbers by value, and turn by turn.
-- Assumes nothing.
use Rattle.std.specs.Prelude.{ℕ, ◌-◌, Bool, true, false, cond, ◌&&◌, ◌||◌, List, Option, Some, None, leb, ltb, eqb}
use Rattle.cells.specs.Stack.{no_cell}
use Rattle.slots.specs.declared.ring.Ends.{Ends}
use Rattle.slots.specs.declared.slots.Lists.{Lists as Slices}
use Rattle.slots.specs.Rings.{Lists, first_marked}
use Rattle.slots.specs.Stand.{due_list}
use Rattle.dial.specs.Turns.{State, Ending, done, more, broken, Ended, turned, enter, hand_out, room, wake_at, turns, turns_for}
use Rattle.dial.specs.declared.state.Turn.{Turn}
use Rattle.dial.specs.declared.state.TurnsEnded.{TurnsEnded}
use Rattle.dial.specs.declared.state.HowEnded.{HowEnded}
use Rattle.dial.specs.declared.state.HowEnded.TheVariants as how

-- All lists, of the slices and the ends of the due list.
abbrev pub lists_of : List ℕ → List ℕ → List ℕ → List ℕ → Ends → Lists
lists_of w first last marks due = record { words = w; first = first; last = last; marks = marks; due = due }

-- The state, of the slices and the turn.
abbrev pub state_of : List ℕ → List ℕ → List ℕ → List ℕ → List ℕ → Turn → State
state_of w first last marks out t =
    record {
      lists = lists_of w first last marks t.dial.due;
      clock = t.dial.clock;
      store = t.dial.store;
      out = out;
      fired = t.fired;
      moves = t.moves;
    }

-- How an advance ends, as it is answered.
unfoldable pub ending_of : Option HowEnded → Ending
ending_of (Some how.Done) = done
ending_of (Some how.More) = more
ending_of None = broken

-- The state with its ending, of the slices and the answer.
abbrev pub ended_of : List ℕ → List ℕ → List ℕ → List ℕ → List ℕ → TurnsEnded → Ended
ended_of w first last marks out r = record { state = state_of w first last marks out r.turn; ending = ending_of r.ending }

-- The same, of slices that are lent together.
abbrev pub lists_in : Slices → Ends → Lists
lists_in l due = lists_of l.words.now l.first.now l.last.now l.marks.now due

abbrev pub state_in : Slices → List ℕ → Turn → State
state_in l out t = state_of l.words.now l.first.now l.last.now l.marks.now out t

abbrev pub ended_in : Slices → List ℕ → TurnsEnded → Ended
ended_in l out r = ended_of l.words.now l.first.now l.last.now l.marks.now out r

-- As far as there is room.
unfoldable pub handed_out : State → State
handed_out z = hand_out (room z - z.fired) z

-- Nothing is due: the next wake tick is entered, which ends nothing yet, or none is left up to the target.
unfoldable pub onward : ℕ → State → Ended
onward target y =
    let i = first_marked y.lists.marks in
    let t = wake_at y.clock i in
    cond (eqb i due_list || ltb target t) (record { state = turned y y.lists target; ending = done })
    (record { state = enter t i y; ending = broken })

-- One turn: broken where the turns would run out here.
unfoldable pub once : ℕ → State → Ended
once target z =
    let y = handed_out z in
    cond (eqb y.lists.due.first no_cell) (onward target y) (record { state = y; ending = more })

-- Whether the turns have ended.
unfoldable pub has_ended : Ending → Bool
has_ended done = true
has_ended more = true
has_ended broken = false

-- There are no more cells than there may be, and the moves, which an advance counts from 0, are far from overflowing.
unfoldable pub countable : State → Bool
countable z = leb z.store.cells 4096 && leb z.moves 4294967295

-- An advance to a target: as many turns as can be needed. Nothing is done where the numbers are out of bounds.
unfoldable pub advance_turns : ℕ → State → Ended
advance_turns target z = cond (countable z) (turns (turns_for z) target z) (record { state = z; ending = broken })
