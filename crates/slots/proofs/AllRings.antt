-- A cell joins or leaves one of all lists, and a slot is emptied.
-- Assumes nothing.
use Prim.Native.Nat.{ℕ, ◌/◌, ◌%◌, ◌^◌, ◌≤◌, ◌<◌}
use native.Mathlib.Omega.{arith}
use mathlib.Core.Bool.{Bool, true, false, cond, not}
use mathlib.Core.List.{List, [], ◌∷◌, ◌++◌}
use mathlib.Core.Path.{◌≡◌, refl, sym, ap, ◌∙◌}
use lib.Dec.{eqb}
use lib.ListN.{length, get_or}
use borrow.Author.Tests.{eq-eqb, ne_eqb}
use Rattle.cells.proofs.Cases.{same?}
use Rattle.cells.proofs.Lists.{times-past, times-append}
use Rattle.cells.specs.Lists.{times}
use Rattle.cells.specs.Stack.{no_cell}
use Rattle.slots.specs.Rings.{Ring, joined, left, is_marked, marked, unmarked, Lists, join_slot, leave_slot, empty_slot, join_due, leave_due, slot_marked}
use Rattle.slots.specs.Stand.{due_list, ends_at, join_at, leave_at, has_cells, put_list, drop_cell, Stand, Relinked}
use Rattle.slots.proofs.Binary.{marked-here, marked_other, marked-narrow, unmarked-here, unmarked-other, unmarked-narrow}
use Rattle.slots.proofs.Changing.{change_at, has-slot, stand-cells, stand-apart, NewRing, NewMark, change-words, change-stands}
use Rattle.slots.proofs.Linking.{times-drop}
use Rattle.slots.proofs.OneRing.{Cells, ring-empty, join-ring, join-relinked, leave-ring, leave-relinked, leave_none, cells-join, cells-leave}

-- A list in which a cell stands is not empty, nor is one that a cell joined.
pub has_cells_lem : (c : ℕ) (xs : List ℕ) → 1 ≤ times c xs → has_cells xs ≡ true
unfolding has_cells times
has_cells_lem c [] h = absurd (omega arith)
has_cells_lem c (x ∷ xs) h = refl

pub joined-cells : (c : ℕ) (xs : List ℕ) → has_cells (xs ++ (c ∷ [])) ≡ true
unfolding has_cells
joined-cells c [] = refl
joined-cells c (x ∷ xs) = refl

-- The mark of a slot that a cell joins,
mark-join : (m s : ℕ) → s < 64 → m < 2 ^ 64 → NewMark m s marked true
mark-join m s k h = record { here = marked-here m s; other = marked_other m s; narrow = marked-narrow 64 m s k h }

-- of one that is emptied,
mark-empty : (m s : ℕ) → m < 2 ^ 64 → NewMark m s unmarked false
mark-empty m s h = record { here = unmarked-here m s; other = unmarked-other m s; narrow = unmarked-narrow 64 m s h }

-- and of one that a cell leaves: it goes if no cell is left.
mark_left : Ring → ℕ → ℕ → ℕ
mark_left r = λ (m s : ℕ). cond (eqb r.ends.first no_cell) (unmarked m s) m

mark-leave :
    (m s : ℕ) (none some : Bool)
    → none ≡ not some
    → is_marked m s ≡ true
    → m < 2 ^ 64
    → NewMark m s (λ (m s : ℕ). cond none (unmarked m s) m) some
mark-leave m s none true e t h = rw e (record { here = t; other = λ u d. refl; narrow = h })
mark-leave m s none false e t h = rw e (mark-empty m s h)

module _ (l : Lists) (ls : ℕ → List ℕ) (stand : Stand l ls) (i : ℕ) where
  -- The mark of slot i.
  slot-mark : i < due_list → is_marked (get_or l.marks (i / 64) 0) (i % 64) ≡ has_cells (ls i)
  unfolding slot_marked
  slot-mark k = stand.marks i k

  module _ (c : ℕ) (h : i ≤ due_list) where
    -- Joining and leaving list i, as changes of it.
    join_is : join_at l i c ≡ change_at l i (joined l.words (ends_at l i) c) marked
    unfolding join_at change_at join_due join_slot ends_at
    join_is =
        same? i due_list
        (λ e. rw (eq-eqb i due_list e))
        (λ d. rw (ne_eqb i due_list d, has-slot l ls stand i (omega arith)))

    leave-is : leave_at l i c ≡ change_at l i (left l.words (ends_at l i) c) (mark_left (left l.words (ends_at l i) c))
    unfolding leave_at change_at leave_due leave_slot ends_at mark_left
    leave-is =
        same? i due_list
        (λ e. rw (eq-eqb i due_list e))
        (λ d. rw (ne_eqb i due_list d, has-slot l ls stand i (omega arith)))

    -- The words after a cell joined or left are those of its list.
    pub join-words : (join_at l i c).words ≡ (joined l.words (ends_at l i) c).words
    join-words = ap (λ (x : Lists). x.words) join_is ∙ change-words l i (joined l.words (ends_at l i) c) marked

    pub leave-words : (leave_at l i c).words ≡ (left l.words (ends_at l i) c).words
    leave-words = ap (λ (x : Lists). x.words) leave-is ∙ change-words l i (left l.words (ends_at l i) c) (mark_left (left l.words (ends_at l i) c))

    -- The cells of list i.
    cells : Cells l.words (ls i)
    cells = stand-cells l ls stand i h

    -- A cell that stands in no list joins one.
    module _ (k : c < length l.words / 8) (none : (j : ℕ) → j ≤ due_list → times c (ls j) ≡ 0) where
      -- Only links of it and of the list are written, so no other list changes,
      join-only : Relinked (c ∷ ls i) l.words (joined l.words (ends_at l i) c).words
      join-only = join-relinked l.words (ends_at l i) (ls i) c cells (stand.rings i h)

      -- and none has it.
      join-new : NewRing l ls i (ls i ++ (c ∷ [])) (joined l.words (ends_at l i) c)
      unfolding times
      join-new =
          record {
            ring = join-ring l.words (ends_at l i) (ls i) c cells (stand.rings i h) k (none i h);
            cells = cells-join l.words (joined l.words (ends_at l i) c).words (ls i) c join-only.size cells k (none i h);
            size = join-only.size;
            links = λ j x f d u t.
                join-only.others x f
                (times-past x c (ls i) (λ e. omega (arith, rw (← e) at t, none j u))
                ∙ stand-apart l ls stand i j x h u d t);
            apart = λ j x d u t.
                same? c x
                (λ e. rw e at (none j u))
                (λ n.
                stand-apart l ls stand j i x u h (λ e. d (sym e))
                (omega (arith, times-append x (ls i) (c ∷ []), times-past x c [] n)));
          }

      -- The lists stand, with it last in that one, and only links of it and of that list are written.
      pub join_stands :
          Stand (join_at l i c) (put_list ls i (ls i ++ (c ∷ []))) × Relinked (c ∷ ls i) l.words (join_at l i c).words
      join_stands = (
        rw join_is
            (change-stands l i (joined l.words (ends_at l i) c) marked ls stand h (ls i ++ (c ∷ [])) join-new
            (λ u. rw (joined-cells c (ls i)) (mark-join (get_or l.marks (i / 64) 0) (i % 64) (omega arith) (stand.narrow (i / 64))))),
        rw join-words join-only,
      )

    -- A cell leaves its list.
    module _ (here : 1 ≤ times c (ls i)) where
      -- Only links of the list are written, so no other list changes,
      leave-only : Relinked (ls i) l.words (left l.words (ends_at l i) c).words
      leave-only = leave-relinked l.words (ends_at l i) (ls i) c cells (stand.rings i h) here

      -- and none has a cell of it.
      leave-new : NewRing l ls i (drop_cell c (ls i)) (left l.words (ends_at l i) c)
      leave-new =
          record {
            ring = leave-ring l.words (ends_at l i) (ls i) c cells (stand.rings i h) here;
            cells = cells-leave l.words (left l.words (ends_at l i) c).words (ls i) c leave-only.size cells here;
            size = leave-only.size;
            links = λ j x f d u t. leave-only.others x f (stand-apart l ls stand i j x h u d t);
            apart = λ j x d u t. stand-apart l ls stand j i x u h (λ e. d (sym e)) (omega (arith, times-drop x c (ls i) here));
          }

      -- The mark says whether a cell is left.
      leave-mark :
          i < due_list
          → NewMark (get_or l.marks (i / 64) 0) (i % 64) (mark_left (left l.words (ends_at l i) c)) (has_cells (drop_cell c (ls i)))
      unfolding mark_left
      leave-mark u =
          mark-leave (get_or l.marks (i / 64) 0) (i % 64)
          (eqb (left l.words (ends_at l i) c).ends.first no_cell)
          (has_cells (drop_cell c (ls i)))
          (leave_none l.words (ends_at l i) (ls i) c cells (stand.rings i h) here)
          (slot-mark u ∙ has_cells_lem c (ls i) here)
          (stand.narrow (i / 64))

      -- The lists stand, without it in that one, and only links of that list are written.
      pub leave-stands :
          Stand (leave_at l i c) (put_list ls i (drop_cell c (ls i))) × Relinked (ls i) l.words (leave_at l i c).words
      leave-stands = (
        rw leave-is
            (change-stands l i (left l.words (ends_at l i) c) (mark_left (left l.words (ends_at l i) c)) ls stand h
            (drop_cell c (ls i))
            leave-new
            leave-mark),
        rw leave-words leave-only,
      )

  module _ (h : i < due_list) where
    -- No cells, in the words as they are.
    no_cells : Ring
    no_cells = record { words = l.words; ends = record { first = no_cell; last = no_cell } }

    -- Emptying slot i, as a change of it.
    empty-is : empty_slot l i ≡ change_at l i no_cells unmarked
    unfolding empty_slot change_at no_cells
    empty-is = rw (ne_eqb i due_list (λ e. omega arith), has-slot l ls stand i h)

    -- The words stay where a slot is emptied,
    pub empty-words : (empty_slot l i).words ≡ l.words
    unfolding no_cells
    empty-words = ap (λ (x : Lists). x.words) empty-is ∙ change-words l i no_cells unmarked

    -- and the lists stand, with that one empty.
    pub empty_stands : Stand (empty_slot l i) (put_list ls i [])
    unfolding no_cells has_cells times
    empty_stands =
        rw empty-is
        (change-stands l i no_cells unmarked ls stand (omega arith) []
        (record {
          ring = ring-empty l.words;
          cells = record { room = stand.room; inside = λ c t. absurd (omega arith); once = λ c. omega arith };
          size = refl;
          links = λ j c f d u t. refl;
          apart = λ j c d u t. absurd (omega arith);
        })
        (λ u. mark-empty (get_or l.marks (i / 64) 0) (i % 64) (stand.narrow (i / 64))))
