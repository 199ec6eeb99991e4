-- An advance makes the words no more and no fewer, and leaves those past the last cell, whatever words and arrays are.
-- Assumes nothing.
use Prim.Native.Nat.{ℕ, zero, suc, ◌-◌}
use mathlib.Core.Bool.{◌||◌}
use lib.Dec.{ltb, eqb}
use Rattle.cells.specs.Stack.{no_cell}
use Rattle.cells.specs.Words.{word}
use Rattle.cells.proofs.Framed.{Framed, framed-none, framed-on, released-framed}
use Rattle.cells.proofs.Cases.{by-arms}
use Rattle.slots.specs.Rings.{first_marked, empty_slot, leave_due}
use Rattle.slots.specs.Stand.{due_list, ends_at}
use Rattle.slots.proofs.Framing.{join-framed, leave-due-framed, empty-framed}
use Rattle.dial.specs.Turns.{State, list_of, refile, walk, turned, enter, with_words, fire, hand_out, room, Ended, wake_at, turns}

-- A state's words keep the frame of another's.
abbrev pub FramedState : State → State → Type 0
FramedState z y = Framed z.lists.words y.lists.words

walk-framed : (k c : ℕ) (z : State) → FramedState z (walk k c z)
unfolding walk refile
walk-framed zero c z = framed-none z.lists.words
walk-framed (suc k) c z =
    let next : State = refile c z in
    by-arms (FramedState z) (eqb c no_cell) _ _ (λ e. framed-none z.lists.words)
    (λ e. framed-on z.lists.words next.lists.words _ (join-framed z.lists (list_of z.clock (word z.lists.words c 2)) c)
    (walk-framed k (word z.lists.words c 4) next))

enter-framed : (t i : ℕ) (z : State) → FramedState z (enter t i z)
unfolding enter turned
enter-framed t i z =
    framed-on z.lists.words (empty_slot z.lists i).words _ (empty-framed z.lists i)
    (walk-framed z.store.cells (ends_at z.lists i).first (turned z (empty_slot z.lists i) t))

fire-framed : (z : State) → FramedState z (fire z)
unfolding fire with_words
fire-framed z =
    let c : ℕ = z.lists.due.first in
    framed-on z.lists.words (leave_due z.lists c).words _ (leave-due-framed z.lists c)
    (released-framed (leave_due z.lists c).words z.store c)

hand-out-framed : (k : ℕ) (z : State) → FramedState z (hand_out k z)
unfolding hand_out
hand-out-framed zero z = framed-none z.lists.words
hand-out-framed (suc k) z =
    by-arms (FramedState z) (eqb z.lists.due.first no_cell) _ _ (λ e. framed-none z.lists.words)
    (λ e. framed-on z.lists.words (fire z).lists.words _ (fire-framed z) (hand-out-framed k (fire z)))

pub turns-framed : (k target : ℕ) (z : State) → FramedState z (turns k target z).state
unfolding turns turned
turns-framed zero target z = framed-none z.lists.words
turns-framed (suc k) target z =
    let y : State = hand_out (room z - z.fired) z in
    let i : ℕ = first_marked y.lists.marks in
    let t : ℕ = wake_at y.clock i in
    let first : FramedState z y = hand-out-framed (room z - z.fired) z in
    by-arms (λ (x : Ended). FramedState z x.state) (eqb y.lists.due.first no_cell) _ _
    (λ e.
    by-arms (λ (x : Ended). FramedState z x.state) (eqb i due_list || ltb target t) _ _
    (λ h. first)
    (λ h.
    framed-on z.lists.words y.lists.words _ first
    (framed-on y.lists.words (enter t i y).lists.words _ (enter-framed t i y) (turns-framed k target (enter t i y)))))
    (λ e. first)
