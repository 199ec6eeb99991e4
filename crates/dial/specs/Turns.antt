-- An advance in lent words and arrays, on any words whatever: hand out what is due, enter the next wake tick, and so on.
-- Assumes nothing.
use Rattle.std.specs.Prelude.{ℕ, zero, suc, ◌+◌, ◌-◌, ◌*◌, ◌/◌, ◌%◌, cond, ◌||◌, List, ◌∷◌, ◌++◌, ltb, eqb, length, take, drop}
use Rattle.cells.specs.Stack.{no_cell}
use Rattle.cells.specs.Words.{word}
use Rattle.cells.specs.Store.{release_words, release_store}
use Rattle.cells.specs.declared.store.Store.{Store}
use Rattle.places.specs.Ticks.{Place, due, slot, place, wake_tick}
use Rattle.slots.specs.Rings.{Lists, first_marked, empty_slot, leave_due}
use Rattle.slots.specs.Stand.{due_list, join_at, ends_at}

-- The number of a place's list, level by level of 64 slots; behind all of them the due list.
unfoldable pub list_number : Place → ℕ
list_number due = due_list
list_number (slot p s) = p * 64 + s

-- "An entry with deadline e at clock t stands": in the list of that number.
unfoldable pub list_of : ℕ → ℕ → ℕ
list_of t e = list_number (place 64 6 t e)

-- All that an advance works on: the lists, clock and store, the output words, the records in it, and the moves made.
pub record State : Type 0 where
  pub lists : Lists
  pub clock : ℕ
  pub store : Store
  pub out : List ℕ
  pub fired : ℕ
  pub moves : ℕ

-- Cell c goes to the list of its deadline: "Each of the latter is one move; going to the due list .. is none."
unfoldable pub refile : ℕ → State → State
refile c z =
    let i = list_of z.clock (word z.lists.words c 2) in
    record {
      lists = join_at z.lists i c;
      clock = z.clock;
      store = z.store;
      out = z.out;
      fired = z.fired;
      moves = z.moves + cond (eqb i due_list) 0 1;
    }

-- "the slot is walked from its head": from cell c on, at most k cells.
unfoldable pub walk : ℕ → ℕ → State → State
walk zero c z = z
walk (suc k) c z =
    let further = walk k (word z.lists.words c 4) (refile c z) in
    cond (eqb c no_cell) z further

-- With other lists, at another clock.
unfoldable pub turned : State → Lists → ℕ → State
turned z l t = record { lists = l; clock = t; store = z.store; out = z.out; fired = z.fired; moves = z.moves }

-- "When an advance reaches a wake tick": clock t is that of slot i, which is emptied and walked.
unfoldable pub enter : ℕ → ℕ → State → State
enter t i z = walk z.store.cells (ends_at z.lists i).first (turned z (empty_slot z.lists i) t)

-- "A fired record is four words: cell, ticket, deadline, load", "written into the part of the output that follows the records before it".
unfoldable pub recorded : List ℕ → ℕ → ℕ → ℕ → ℕ → ℕ → List ℕ
recorded out n c k e x = take (n * 4) out ++ (c ∷ k ∷ e ∷ x ∷ drop (n * 4 + 4) out)

-- The lists with other words.
unfoldable pub with_words : Lists → List ℕ → Lists
with_words l w = record { words = w; first = l.first; last = l.last; marks = l.marks; due = l.due }

-- The first of the due list is handed out and freed.
unfoldable pub fire : State → State
fire z =
    let c = z.lists.due.first in
    let w = z.lists.words in
    let l = leave_due z.lists c in
    record {
      lists = with_words l (release_words l.words z.store c);
      clock = z.clock;
      store = release_store z.store c;
      out = recorded z.out z.fired c (word w c 0) (word w c 2) (word w c 3);
      fired = suc z.fired;
      moves = z.moves;
    }

-- As far as there is room, for k records more.
unfoldable pub hand_out : ℕ → State → State
hand_out zero z = z
hand_out (suc k) z =
    let further = hand_out k (fire z) in
    cond (eqb z.lists.due.first no_cell) z further

-- "Room r is floor(output length / 4)."
unfoldable pub room : State → ℕ
room z = length z.out / 4

-- How an advance ends: done, or more is due, or the memory is broken and the turns ran out.
pub data Ending : Type 0 where
  done : Ending
  more : Ending
  broken : Ending

pub record Ended : Type 0 where
  pub state : State
  pub ending : Ending

-- The wake tick of list i at the clock.
unfoldable pub wake_at : ℕ → ℕ → ℕ
wake_at t i = wake_tick 64 t (i / 64) (i % 64)

-- At most k turns: what is due is handed out; if more is due the advance ends there; else the next wake tick is entered, or none is left up to the target.
unfoldable pub turns : ℕ → ℕ → State → Ended
turns zero target z = record { state = z; ending = broken }
turns (suc k) target z =
    let y = hand_out (room z - z.fired) z in
    let i = first_marked y.lists.marks in
    let t = wake_at y.clock i in
    let further = turns k target (enter t i y) in
    cond (eqb y.lists.due.first no_cell)
    (cond (eqb i due_list || ltb target t) (record { state = turned y y.lists target; ending = done }) further)
    (record { state = y; ending = more })

-- Each timer stands on at most six levels and then in the due list, so there are no more wake ticks to enter than six for each cell.
unfoldable pub turns_for : State → ℕ
turns_for z = z.store.cells * 6 + 1
