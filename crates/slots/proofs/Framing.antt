-- Joining and leaving a list makes the words no more and no fewer, and leaves those past the last cell, whatever words and arrays are.
-- Assumes nothing.
use Prim.Native.Nat.{ℕ}
use mathlib.Core.Bool.{cond}
use mathlib.Core.List.{List}
use lib.Dec.{eqb}
use Rattle.cells.specs.Stack.{no_cell}
use Rattle.cells.specs.Words.{word, put_word}
use Rattle.cells.proofs.Framed.{Framed, framed-none, framed-on, framed-put}
use Rattle.cells.proofs.Cases.{by-arms}
use Rattle.slots.specs.Rings.{Lists, relinked, joined, left, has_slot, with_ring, join_slot, leave_slot, empty_slot, with_due, join_due, leave_due}
use Rattle.slots.specs.Stand.{due_list, join_at, leave_at}
use Rattle.slots.specs.declared.ring.Ends.{Ends}

relinked-framed : (w : List ℕ) (e : Ends) (a b : ℕ) → Framed w (relinked w e a b).words
unfolding relinked
relinked-framed w e a b =
    let first : Framed w (cond (eqb a no_cell) w (put_word w a 4 b)) = by-arms (Framed w) (eqb a no_cell) _ _ (λ e. framed-none w) (λ e. framed-put w a 4 b) in
    by-arms (Framed w) (eqb b no_cell) _ _ (λ e. first) (λ e. framed-on w _ _ first (framed-put _ b 5 a))

pub joined-framed : (w : List ℕ) (e : Ends) (c : ℕ) → Framed w (joined w e c).words
unfolding joined
joined-framed w e c = framed-on w _ _ (relinked-framed w e e.last c) (relinked-framed _ _ c no_cell)

pub left-framed : (w : List ℕ) (e : Ends) (c : ℕ) → Framed w (left w e c).words
unfolding left
left-framed w e c = relinked-framed w e (word w c 5) (word w c 4)

-- The words of lists keep the frame of others'.
abbrev FramedLists : Lists → Lists → Type 0
FramedLists l x = Framed l.words x.words

pub join-framed : (l : Lists) (i c : ℕ) → Framed l.words (join_at l i c).words
unfolding join_at join_due with_due join_slot with_ring
join-framed l i c =
    by-arms (FramedLists l) (eqb i due_list) _ _ (λ e. joined-framed l.words l.due c)
    (λ e. by-arms (FramedLists l) (has_slot l i) _ _ (λ e. joined-framed l.words _ c) (λ e. framed-none l.words))

pub leave-framed : (l : Lists) (i c : ℕ) → Framed l.words (leave_at l i c).words
unfolding leave_at leave_due with_due leave_slot with_ring
leave-framed l i c =
    by-arms (FramedLists l) (eqb i due_list) _ _ (λ e. left-framed l.words l.due c)
    (λ e. by-arms (FramedLists l) (has_slot l i) _ _ (λ e. left-framed l.words _ c) (λ e. framed-none l.words))

pub leave-due-framed : (l : Lists) (c : ℕ) → Framed l.words (leave_due l c).words
unfolding leave_due with_due
leave-due-framed l c = left-framed l.words l.due c

pub empty-framed : (l : Lists) (i : ℕ) → Framed l.words (empty_slot l i).words
unfolding empty_slot with_ring
empty-framed l i = by-arms (FramedLists l) (has_slot l i) _ _ (λ e. framed-none l.words) (λ e. framed-none l.words)
