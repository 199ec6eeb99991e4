-- An advance turn by turn: from what the calls of each function answer, and how much a turn changes.
-- Assumes nothing.
use Prim.Native.Nat.{ℕ, zero, suc, ◌+◌, ◌-◌, ◌/◌, ◌%◌, ◌≤◌, ◌<◌}
use native.Mathlib.Omega.{arith}
use mathlib.Core.Bool.{Bool, true, false, cond, ◌||◌}
use mathlib.Core.List.{List}
use mathlib.Core.Path.{◌≡◌, refl, sym, ap, ◌∙◌}
use Rattle.std.specs.Prelude.{Option, Some, None, is_some}
use lib.Dec.{ltb, eqb}
use borrow.Author.Tests.{eq-eqb, ne_eqb, lt-ltb, le-ltb}
use Rattle.cells.specs.Stack.{no_cell}
use Rattle.cells.specs.Words.{word}
use Rattle.cells.specs.declared.store.Store.{Store}
use Rattle.places.specs.Answers.{wake_answer}
use Rattle.slots.specs.declared.ring.Ends.{Ends}
use Rattle.slots.specs.Rings.{Lists, ends_of, lent, empty_slot, slot_marked, first_marked}
use Rattle.slots.specs.Stand.{due_list, ends_at}
use Rattle.slots.proofs.Standing.{scan-least}
use Rattle.dial.specs.declared.state.Turn.{Turn}
use Rattle.dial.specs.declared.state.HowEnded.{HowEnded}
use Rattle.dial.specs.declared.state.HowEnded.TheVariants as how
use Rattle.dial.specs.Turns.{State, refile, walk, turned, enter, hand_out, room, done, more, broken, Ended, wake_at, turns}
use Rattle.dial.specs.Lent.{state_of, ending_of, ended_of, handed_out, onward, once, has_ended}
use Rattle.dial.proofs.ListSteps.{empty-beside}
use Rattle.dial.proofs.FileSteps.{refile-moves, refile-store}
use Rattle.dial.proofs.FireSteps.{hand-keeps}

-- The turn at another clock.
abbrev pub at_clock : Turn → ℕ → Turn
at_clock t clock = record { dial = record { clock = clock; due = t.dial.due; store = t.dial.store }; fired = t.fired; moves = t.moves }

-- The first marked slot is one of the slots, or there is none.
pub first-most : (marks : List ℕ) (i : ℕ) → i ≡ first_marked marks → i ≤ due_list
unfolding first_marked
first-most marks i e = rw e (scan-least (slot_marked marks) 384 0).most

-- So one that is not none is a slot.
pub first_slot : (marks : List ℕ) (i : ℕ) → i ≡ first_marked marks → (i ≡ due_list → ⊥) → i < due_list
first_slot marks i e n = omega (arith, first-most marks i e, n)

-- The wake tick of a slot.
pub wake-at : (clock i tick : ℕ) → i < due_list → tick ≡ wake_answer clock (i / 64) (i % 64) → tick ≡ wake_at clock i
unfolding wake_at wake_answer
wake-at clock i tick h e = e ∙ rw (lt-ltb (i / 64) 6 (omega arith), lt-ltb (i % 64) 64 (omega arith))

module _ (w f l m : List ℕ) (t : Turn) (out : List ℕ) where
  -- A slot is emptied, and walked at its wake tick.
  pub entered-is : (tick i : ℕ) {e : Ends} {x : Lists} {r : Turn} {y : State} → i < due_list → e ≡ ends_of (lent w f l m) i
      → x ≡ empty_slot (lent w f l m) i
      → r ≡ at_clock t tick
      → y ≡ walk r.dial.store.cells e.first (state_of x.words x.first x.last x.marks out r)
      → y ≡ enter tick i (state_of w f l m out t)
  unfolding enter turned ends_at ends_of
  entered-is tick i h a b q p =
      p ∙ rw (q, a, empty-beside w f l m t.dial.due i b, ne_eqb i due_list (omega arith))

  -- No wake tick is left.
  module _ (target : ℕ) {r : Turn} (a : r ≡ at_clock t target) where
    pub onward-none : first_marked m ≡ due_list → ended_of w f l m out (record { turn = r; ending = Some how.Done }) ≡ onward target (state_of w f l m out t)
    unfolding onward turned ending_of
    onward-none h = rw (a, eq-eqb (first_marked m) due_list h)

    pub onward-later : {i tick : ℕ} → i ≡ first_marked m → i < due_list → tick ≡ wake_answer t.dial.clock (i / 64) (i % 64) → target < tick
        → ended_of w f l m out (record { turn = r; ending = Some how.Done }) ≡ onward target (state_of w f l m out t)
    unfolding onward turned ending_of
    onward-later {i} {tick} e h b less =
        rw (a, ← e, ← wake-at t.dial.clock i tick h b, ne_eqb i due_list (omega arith), lt-ltb target tick less)

  -- The next wake tick is entered.
  pub onward-enters : (target i : ℕ) {u g k n : List ℕ} {r : Turn} {tick : ℕ} → i ≡ first_marked m → i < due_list
      → tick ≡ wake_answer t.dial.clock (i / 64) (i % 64)
      → tick ≤ target
      → state_of u g k n out r ≡ enter tick i (state_of w f l m out t)
      → ended_of u g k n out (record { turn = r; ending = None }) ≡ onward target (state_of w f l m out t)
  unfolding onward ending_of
  onward-enters target i {tick = tick} e h b least a =
      rw (a, ← e, ← wake-at t.dial.clock i tick h b, ne_eqb i due_list (omega arith), le-ltb target tick least)

-- One turn, by whether something is due behind the last record.
module _ (target : ℕ) (z y : State) (h : y ≡ handed_out z) where
  pub once-onward : {r : Ended} → y.lists.due.first ≡ no_cell → r ≡ onward target y → r ≡ once target z
  unfolding once
  once-onward e a = a ∙ rw (h, eq-eqb (handed_out z).lists.due.first no_cell (ap (λ (x : State). x.lists.due.first) (sym h) ∙ e))

  pub once_more : (y.lists.due.first ≡ no_cell → ⊥) → record { state = y; ending = more } ≡ once target z
  unfolding once
  once_more e = rw (h, ne_eqb (handed_out z).lists.due.first no_cell (λ i. e (ap (λ (x : State). x.lists.due.first) h ∙ i)))

-- The turns have ended where there is an ending, and go on where there is none.
pub some-ended : (e : Option HowEnded) → is_some e ≡ true → has_ended (ending_of e) ≡ true
unfolding has_ended ending_of
some-ended (Some how.Done) e = refl
some-ended (Some how.More) e = refl
some-ended None e = cc

pub none-goes : (e : Option HowEnded) → is_some e ≡ false → has_ended (ending_of e) ≡ false
unfolding has_ended ending_of
none-goes None e = refl
none-goes (Some x) e = cc

-- The turns are one turn and, where that has not ended them, the others.
one-of-them : (s b : Bool) (d m x : State) (f : State → Ended) →
    let one : Ended =
    cond s (cond b (record { state = d; ending = done }) (record { state = x; ending = broken })) (record { state = m; ending = more }) in
    cond s (cond b (record { state = d; ending = done }) (f x)) (record { state = m; ending = more }) ≡ cond (has_ended one.ending) one (f one.state)
unfolding has_ended
one-of-them true true d m x f = refl
one-of-them true false d m x f = refl
one-of-them false b d m x f = refl

-- So for the turns of an advance.
turns-once : (k target : ℕ) (z : State)
    → turns (suc k) target z ≡ cond (has_ended (once target z).ending) (once target z) (turns k target (once target z).state)
unfolding turns once onward handed_out
turns-once k target z =
    let y : State = hand_out (room z - z.fired) z in
    let i : ℕ = first_marked y.lists.marks in
    let t : ℕ = wake_at y.clock i in
    one-of-them (eqb y.lists.due.first no_cell) (eqb i due_list || ltb target t) (turned y y.lists target) y (enter t i y) (turns k target)

-- A turn ends them, or does not.
module _ (k target : ℕ) (z : State) {r : Ended} (some : 0 < k) (a : r ≡ once target z) where
  pub turns-end : has_ended r.ending ≡ true → turns k target z ≡ r
  turns-end e =
      let more : k ≡ suc (k - 1) = omega arith in
      rw more (turns-once (k - 1) target z ∙ rw (← a, e))

  pub turns-on : (j : ℕ) → k ≡ j + 1 → has_ended r.ending ≡ false → turns k target z ≡ turns j target r.state
  turns-on j h e =
      let more : k ≡ suc j = omega arith in
      ap (λ (i : ℕ). turns i target z) more ∙ turns-once j target z ∙ rw (← a, e)

-- No turn is left.
pub turns-none : (k target : ℕ) (z : State) → k ≡ 0 → turns k target z ≡ record { state = z; ending = broken }
unfolding turns
turns-none k target z e = rw e

-- A walk makes at most a move for each cell, and the store stays.
walk-moves : (k c : ℕ) (z : State) → ((walk k c z).moves ≤ z.moves + k) × ((walk k c z).store ≡ z.store)
unfolding walk
walk-moves zero c z = (omega arith, refl)
walk-moves (suc k) c z = go (eqb c no_cell) (walk-moves k (word z.lists.words c 4) (refile c z))
  where
    further : State
    further = walk k (word z.lists.words c 4) (refile c z)

    go : (t : Bool) → (further.moves ≤ (refile c z).moves + k) × (further.store ≡ (refile c z).store)
        → ((cond t z further).moves ≤ z.moves + suc k) × ((cond t z further).store ≡ z.store)
    go true r = (omega arith, refl)
    go false r = (omega (arith, r.0, refile-moves c z), r.1 ∙ refile-store c z)

-- What a turn changes: as many moves as there are cells, and no number of cells.
abbrev pub Few : State → State → Type 0
Few z y = (y.moves ≤ z.moves + z.store.cells) × (y.store.cells ≡ z.store.cells)

-- Entering a wake tick.
enter-few : (t i : ℕ) (z : State) → Few z (enter t i z)
unfolding enter turned
enter-few t i z =
    let from : State = turned z (empty_slot z.lists i) t in
    let most = walk-moves z.store.cells (ends_at z.lists i).first from in
    (most.0, ap (λ (s : Store). s.cells) most.1)

-- Going on, to a wake tick or to the target.
onward-few : (target : ℕ) (y : State) → Few y (onward target y).state
unfolding onward turned
onward-few target y = go (eqb i due_list || ltb target t)
  where
    i : ℕ
    i = first_marked y.lists.marks

    t : ℕ
    t = wake_at y.clock i

    go : (b : Bool) → Few y (cond {A = Ended} b (record { state = turned y y.lists target; ending = done }) (record { state = enter t i y; ending = broken })).state
    go true = (omega arith, refl)
    go false = enter-few t i y

-- A whole turn.
once-few : (target : ℕ) (z : State) → Few z (once target z).state
unfolding once handed_out
once-few target z = go (eqb y.lists.due.first no_cell)
  where
    y : State
    y = hand_out (room z - z.fired) z

    kept : (y.moves ≡ z.moves) × (y.store.cells ≡ z.store.cells)
    kept = hand-keeps (room z - z.fired) z

    go : (b : Bool) → Few z (cond {A = Ended} b (onward target y) (record { state = y; ending = more })).state
    go true = let few = onward-few target y in (omega (arith, few, kept), few.1 ∙ kept.1)
    go false = (omega (arith, kept), kept.1)

-- The same from what the function answers.
pub turn-few : (target : ℕ) (z : State) {r : Ended} → r ≡ once target z → Few z r.state
turn-few target z e = rw e (once-few target z)
