-- All lists, with one of them another.
-- Assumes nothing.
use Prim.Native.Nat.{ℕ, ◌/◌, ◌%◌, ◌^◌, ◌≤◌, ◌<◌}
use native.Mathlib.Omega.{arith}
use mathlib.Core.Bool.{Bool, true, cond}
use mathlib.Core.List.{List}
use mathlib.Core.Logic.{◌≢◌}
use mathlib.Core.Path.{◌≡◌, refl, sym, subst, ◌∙◌}
use lib.Dec.{eqb}
use lib.ListN.{length, get_or, length-set}
use lib.Seq.{get_or-set_same, get_or-set_other}
use borrow.Author.Tests.{eq-eqb, ne_eqb, lt-ltb}
use Rattle.cells.proofs.Cases.{same?, at_most?}
use Rattle.cells.specs.Lists.{times}
use Rattle.cells.specs.Stack.{no_cell}
use Rattle.cells.specs.Words.{word}
use Rattle.slots.specs.Rings.{Ring, Lists, is_marked, has_slot, ends_of, with_ring, with_due, slot_marked}
use Rattle.slots.specs.Stand.{RingOf, due_list, ends_at, has_cells, put_list, Stand}
use Rattle.slots.proofs.OneRing.{Cells, ring-frame, first_fits, last_fits}

-- What holds of the new list, and of each other, holds of each list.
pub put? :
    (ls : ℕ → List ℕ) (i : ℕ) (xs : List ℕ) (j : ℕ) (P : List ℕ → Type 0)
    → (j ≡ i → P xs)
    → (j ≢ i → P (ls j))
    → P (put_list ls i xs j)
unfolding put_list
put? ls i xs j P f g =
    same? j i (λ e. rw (eq-eqb j i e) (f e)) (λ d. rw (ne_eqb j i d) (g d))

-- The list that was put is there, and the others are as before.
pub put-here : (ls : ℕ → List ℕ) (i : ℕ) (xs : List ℕ) → put_list ls i xs i ≡ xs
put-here ls i xs = put? ls i xs i (λ (ys : List ℕ). ys ≡ xs) (λ e. refl) (λ d. absurd (d refl))

pub put_other : (ls : ℕ → List ℕ) (i : ℕ) (xs : List ℕ) (j : ℕ) → j ≢ i → put_list ls i xs j ≡ ls j
put_other ls i xs j d = put? ls i xs j (λ (ys : List ℕ). ys ≡ ls j) (λ e. absurd (d e)) (λ _. refl)

-- All lists but that list i is that ring, and is marked or not if it is a slot.
unfoldable pub change_at : Lists → ℕ → Ring → (ℕ → ℕ → ℕ) → Lists
change_at l i r mark = cond (eqb i due_list) (with_due l r) (with_ring l i r mark)

-- There are arrays for each slot where lists stand.
pub has-slot : (l : Lists) (ls : ℕ → List ℕ) → Stand l ls → (i : ℕ) → i < due_list → has_slot l i ≡ true
unfolding has_slot
has-slot l ls s i h =
    rw (
      lt-ltb i (length l.first) (omega (arith, s.firsts)),
      lt-ltb i (length l.last) (omega (arith, s.lasts)),
      lt-ltb (i / 64) (length l.marks) (omega (arith, s.levels)),
    )

-- The cells of a list are cells of the words, each once,
pub stand-cells : (l : Lists) (ls : ℕ → List ℕ) → Stand l ls → (i : ℕ) → i ≤ due_list → Cells l.words (ls i)
stand-cells l ls s i h = record { room = s.room; inside = λ c k. s.inside i c h k; once = λ c. s.once i c h }

-- and do not stand in another list.
pub stand-apart :
    (l : Lists) (ls : ℕ → List ℕ)
    → Stand l ls
    → (i j c : ℕ)
    → i ≤ due_list
    → j ≤ due_list
    → j ≢ i
    → 1 ≤ times c (ls j)
    → times c (ls i) ≡ 0
stand-apart l ls s i j c h k d t =
    at_most? 1 (times c (ls i)) (λ u. absurd (d (s.apart j i c k h t u))) (λ u. omega arith)

-- Lists given by other names for the same lists stand.
pub stand-same : (l : Lists) (ls ls' : ℕ → List ℕ) → ((i : ℕ) → i ≤ due_list → ls i ≡ ls' i) → Stand l ls → Stand l ls'
stand-same l ls ls' e s =
    record {
      firsts = s.firsts;
      lasts = s.lasts;
      levels = s.levels;
      room = s.room;
      rings = λ i h. rw (e i h) at (s.rings i h);
      marks = λ i h. rw (e i (omega arith)) at (s.marks i h);
      narrow = s.narrow;
      inside = λ i c h. rw (e i h) at (s.inside i c h);
      once = λ i c h. rw (e i h) at (s.once i c h);
      apart = λ i j c h k. rw (e i h, e j k) at (s.apart i j c h k);
    }

-- Other words that keep the links of the lists' cells hold the same lists.
pub stand-frame :
    (l : Lists) (ls : ℕ → List ℕ) (w : List ℕ)
    → length w ≡ length l.words
    → ((i c : ℕ) → i ≤ due_list → 1 ≤ times c (ls i) → (word w c 4 ≡ word l.words c 4) × (word w c 5 ≡ word l.words c 5))
    → Stand l ls
    → Stand (record { words = w; first = l.first; last = l.last; marks = l.marks; due = l.due }) ls
unfolding ends_at ends_of
stand-frame l ls w size same s =
    record {
      firsts = s.firsts;
      lasts = s.lasts;
      levels = s.levels;
      room = rw size s.room;
      rings = λ i h. ring-frame l.words (ends_at l i) (ls i) (s.rings i h) w (λ c k. same i c h k);
      marks = s.marks;
      narrow = s.narrow;
      inside = λ i c h k. rw size (s.inside i c h k);
      once = s.once;
      apart = s.apart;
    }

-- A ring that list i may be: no other list has its cells, and the others' cells keep their words.
pub record NewRing (l : Lists) (ls : ℕ → List ℕ) (i : ℕ) (xs : List ℕ) (r : Ring) : Type 0 where
  pub ring : RingOf r.words r.ends xs
  pub cells : Cells r.words xs
  pub size : length r.words ≡ length l.words
  pub links : (j c f : ℕ) → j ≢ i → j ≤ due_list → 1 ≤ times c (ls j) → word r.words c f ≡ word l.words c f
  pub apart : (j c : ℕ) → j ≢ i → j ≤ due_list → 1 ≤ times c xs → times c (ls j) ≡ 0

-- Digit s of m becomes that, and no other changes.
pub record NewMark (m s : ℕ) (mark : ℕ → ℕ → ℕ) (b : Bool) : Type 0 where
  pub here : is_marked (mark m s) s ≡ b
  pub other : (t : ℕ) → t ≢ s → is_marked (mark m s) t ≡ is_marked m t
  pub narrow : mark m s < 2 ^ 64

module _ (l : Lists) (i : ℕ) (r : Ring) (mark : ℕ → ℕ → ℕ) where
  -- By whether it is the due list or a slot.
  change-due : i ≡ due_list → change_at l i r mark ≡ with_due l r
  unfolding change_at
  change-due e = rw (eq-eqb i due_list e)

  change-slot : i ≢ due_list → change_at l i r mark ≡ with_ring l i r mark
  unfolding change_at
  change-slot d = rw (ne_eqb i due_list d)

  -- The words are the ring's, and the arrays as long as before.
  pub change-words : (change_at l i r mark).words ≡ r.words
  unfolding with_due with_ring
  change-words = same? i due_list (λ e. rw (change-due e)) (λ d. rw (change-slot d))

  change-firsts : length (change_at l i r mark).first ≡ length l.first
  unfolding with_due with_ring
  change-firsts = same? i due_list (λ e. rw (change-due e)) (λ d. rw (change-slot d) (length-set l.first i (r.ends.first % 65536)))

  change-lasts : length (change_at l i r mark).last ≡ length l.last
  unfolding with_due with_ring
  change-lasts = same? i due_list (λ e. rw (change-due e)) (λ d. rw (change-slot d) (length-set l.last i (r.ends.last % 65536)))

  change-levels : length (change_at l i r mark).marks ≡ length l.marks
  unfolding with_due with_ring
  change-levels =
      same? i due_list
      (λ e. rw (change-due e))
      (λ d. rw (change-slot d) (length-set l.marks (i / 64) (mark (get_or l.marks (i / 64) 0) (i % 64))))

  -- The ends of another list are as before.
  change-ends-other : (j : ℕ) → j ≢ i → ends_at (change_at l i r mark) j ≡ ends_at l j
  unfolding with_due with_ring ends_at ends_of
  change-ends-other j n =
      same? i due_list
      (λ e. rw (change-due e, ne_eqb j due_list (λ s. n (s ∙ sym e))))
      (λ d.
      rw (
        change-slot d,
        get_or-set_other l.first i j (r.ends.first % 65536) no_cell n,
        get_or-set_other l.last i j (r.ends.last % 65536) no_cell n,
      ))

  module _ (ls : ℕ → List ℕ) (stand : Stand l ls) (h : i ≤ due_list) where
    -- The ends of list i are the ring's.
    change-ends-here : (xs : List ℕ) → Cells r.words xs → RingOf r.words r.ends xs → ends_at (change_at l i r mark) i ≡ r.ends
    unfolding with_due with_ring ends_at ends_of
    change-ends-here xs cells ring =
        same? i due_list
        (λ e. rw (change-due e, eq-eqb i due_list e))
        (λ d.
        rw (
          change-slot d,
          ne_eqb i due_list d,
          get_or-set_same l.first i (r.ends.first % 65536) no_cell (omega (arith, stand.firsts)),
          get_or-set_same l.last i (r.ends.last % 65536) no_cell (omega (arith, stand.lasts)),
          first_fits r.words xs cells r.ends ring,
          last_fits r.words xs cells r.ends ring,
        ))

    module _ (b : Bool) (new : i < due_list → NewMark (get_or l.marks (i / 64) 0) (i % 64) mark b) where
      -- Slot i has the new mark,
      change-mark-here : i < due_list → slot_marked (change_at l i r mark).marks i ≡ b
      unfolding with_ring slot_marked
      change-mark-here k =
          rw (
            change-slot (λ e. omega arith),
            get_or-set_same l.marks (i / 64) (mark (get_or l.marks (i / 64) 0) (i % 64)) 0 (omega (arith, stand.levels)),
          )
          (new k).here

      -- each other slot the mark it had,
      change-mark-other : (j : ℕ) → j ≢ i → slot_marked (change_at l i r mark).marks j ≡ slot_marked l.marks j
      unfolding with_due with_ring slot_marked
      change-mark-other j n =
          same? i due_list
          (λ e. rw (change-due e))
          (λ d.
          same? (j / 64) (i / 64)
          (λ e.
          rw (
            change-slot d,
            e,
            get_or-set_same l.marks (i / 64) (mark (get_or l.marks (i / 64) 0) (i % 64)) 0 (omega (arith, stand.levels)),
          )
          ((new (omega arith)).other (j % 64) (λ t. n (omega arith))))
          (λ u.
          rw (
            change-slot d,
            get_or-set_other l.marks (i / 64) (j / 64) (mark (get_or l.marks (i / 64) 0) (i % 64)) 0 u,
          )))

      -- and no word of marks has more digits.
      change-narrow : (p : ℕ) → get_or (change_at l i r mark).marks p 0 < 2 ^ 64
      unfolding with_due with_ring
      change-narrow p =
          same? i due_list
          (λ e. rw (change-due e) (stand.narrow p))
          (λ d.
          same? p (i / 64)
          (λ e.
          rw (
            change-slot d,
            e,
            get_or-set_same l.marks (i / 64) (mark (get_or l.marks (i / 64) 0) (i % 64)) 0 (omega (arith, stand.levels)),
          )
          (new (omega arith)).narrow)
          (λ u.
          rw (change-slot d, get_or-set_other l.marks (i / 64) p (mark (get_or l.marks (i / 64) 0) (i % 64)) 0 u)
          (stand.narrow p)))

    -- The lists stand, with list i another.
    pub change-stands :
        (xs : List ℕ)
        → NewRing l ls i xs r
        → (i < due_list → NewMark (get_or l.marks (i / 64) 0) (i % 64) mark (has_cells xs))
        → Stand (change_at l i r mark) (put_list ls i xs)
    change-stands xs new marked =
        record {
          firsts = change-firsts ∙ stand.firsts;
          lasts = change-lasts ∙ stand.lasts;
          levels = change-levels ∙ stand.levels;
          room = rw change-words new.cells.room;
          rings = rings;
          marks = λ j k.
              put? ls i xs j (λ (ys : List ℕ). slot_marked (change_at l i r mark).marks j ≡ has_cells ys)
              (λ e. rw e (change-mark-here (has_cells xs) marked (rw e at k)))
              (λ d. change-mark-other (has_cells xs) marked j d ∙ stand.marks j k);
          narrow = change-narrow (has_cells xs) marked;
          inside = λ j c k.
              rw change-words
              (put? ls i xs j (λ (ys : List ℕ). 1 ≤ times c ys → c < length r.words / 8)
              (λ e. new.cells.inside c)
              (λ d t. rw new.size (stand.inside j c k t)));
          once = λ j c k. put? ls i xs j (λ (ys : List ℕ). times c ys ≤ 1) (λ e. new.cells.once c) (λ d. stand.once j c k);
          apart = apart;
        }
      where
        l' : Lists
        l' = change_at l i r mark

        rings : (j : ℕ) → j ≤ due_list → RingOf l'.words (ends_at l' j) (put_list ls i xs j)
        rings j k =
            subst (λ (v : List ℕ). RingOf v (ends_at l' j) (put_list ls i xs j)) (sym change-words)
            (put? ls i xs j (λ (ys : List ℕ). RingOf r.words (ends_at l' j) ys)
            (λ e. rw (e, change-ends-here xs new.cells new.ring) new.ring)
            (λ d.
            rw (change-ends-other j d)
            (ring-frame l.words (ends_at l j) (ls j) (stand.rings j k) r.words
            (λ c t. (new.links j c 4 d k t, new.links j c 5 d k t)))))

        apart : (j k c : ℕ) → j ≤ due_list → k ≤ due_list → 1 ≤ times c (put_list ls i xs j) → 1 ≤ times c (put_list ls i xs k) → j ≡ k
        apart j k c hj hk =
            put? ls i xs j (λ (ys : List ℕ). 1 ≤ times c ys → 1 ≤ times c (put_list ls i xs k) → j ≡ k)
            (λ e t.
            put? ls i xs k (λ (ys : List ℕ). 1 ≤ times c ys → j ≡ k)
            (λ e' u. e ∙ sym e')
            (λ d u. absurd (omega (arith, new.apart k c d hk t))))
            (λ d t.
            put? ls i xs k (λ (ys : List ℕ). 1 ≤ times c ys → j ≡ k)
            (λ e' u. absurd (omega (arith, new.apart j c d hj u)))
            (λ d' u. stand.apart j k c hj hk t u))
