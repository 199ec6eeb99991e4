-- One list of cells in lent words.
-- Assumes nothing.
use Prim.Native.Nat.{ℕ, ◌/◌, ◌%◌, ◌≤◌, ◌<◌}
use native.Mathlib.Omega.{arith}
use mathlib.Core.Bool.{cond, not}
use mathlib.Core.List.{List, [], ◌∷◌, ◌++◌}
use mathlib.Core.Logic.{◌≢◌}
use mathlib.Core.Path.{◌≡◌, refl, sym, ap, ◌∙◌}
use lib.Dec.{eqb}
use lib.ListN.{length}
use borrow.Author.Tests.{eq-eqb, ne_eqb}
use Rattle.cells.proofs.Cases.{same?, at_most?}
use Rattle.cells.proofs.Chains.{chain-links}
use Rattle.cells.proofs.Lists.{times-here, times-past, times-append}
use Rattle.cells.proofs.Sums.{all-standing}
use Rattle.cells.specs.Lists.{times}
use Rattle.cells.specs.Stack.{no_cell, Chain}
use Rattle.cells.specs.Words.{word}
use Rattle.slots.specs.Rings.{next, previous, Ring, relinked, joined, left}
use Rattle.slots.specs.Stand.{RingOf, has_cells, drop_cell, Relinked}
use Rattle.slots.specs.declared.ring.Ends.{Ends}
use Rattle.slots.proofs.Linking.{Split, cell-split, times-drop, linked-first, linked-last, linked-next-in, linked-prev-in, linked-chain, linked-frame, linked-join, linked-leave}
use Rattle.slots.proofs.Relinking.{next-none, next-some, previous-none, previous-some, relinked-both, relinked-only, relinked-links}

module _ (w : List ℕ) (e : Ends) (xs : List ℕ) (ring : RingOf w e xs) where
  -- The ends of a list are no cell or cells of the list.
  pub ring-first : 1 ≤ times e.first (no_cell ∷ xs)
  ring-first = rw (next-none w e no_cell refl) at (linked-first (next w e) (previous w e) no_cell xs no_cell ring)

  pub ring-last : 1 ≤ times e.last (no_cell ∷ xs)
  ring-last = rw (previous-none w e no_cell refl) at (linked-last (next w e) (previous w e) no_cell xs no_cell ring)

  -- Other words with the same links of its cells hold the same list.
  pub ring-frame :
      (w' : List ℕ)
      → ((c : ℕ) → 1 ≤ times c xs → (word w' c 4 ≡ word w c 4) × (word w' c 5 ≡ word w c 5))
      → RingOf w' e xs
  unfolding next previous
  ring-frame w' same =
      linked-frame (next w e) (previous w e) (next w' e) (previous w' e) no_cell xs no_cell refl refl
      (λ c h. (
        ap (λ (v : ℕ). cond (eqb c no_cell) e.first v) (same c h).0,
        ap (λ (v : ℕ). cond (eqb c no_cell) e.last v) (same c h).1,
      ))
      ring

-- An empty list has no ends.
pub ring-empty : (w : List ℕ) → RingOf w (record { first = no_cell; last = no_cell }) []
unfolding next previous
ring-empty w = (refl, refl)

-- A list in words: its cells are cells of the words, and each stands once.
pub record Cells (w xs : List ℕ) : Type 0 where
  pub room : length w / 8 ≤ 4096
  pub inside : (c : ℕ) → 1 ≤ times c xs → c < length w / 8
  pub once : (c : ℕ) → times c xs ≤ 1

module _ (w xs : List ℕ) (cells : Cells w xs) where
  -- No cell does not stand in the list,
  pub none_inside : times no_cell xs ≡ 0
  none_inside =
      at_most? 1 (times no_cell xs) (λ h. absurd (omega (arith, cells.room, cells.inside no_cell h))) (λ h. omega arith)

  -- so with it each still stands once,
  pub once_more : (x : ℕ) → times x (no_cell ∷ xs) ≤ 1
  once_more x =
      same? no_cell x
      (λ h. omega (arith, times-here x no_cell xs h, rw h at none_inside))
      (λ d. omega (arith, times-past x no_cell xs d, cells.once x))

  -- what is no cell or a cell of the list, and not no cell, is a cell of the list,
  pub cell-of : (x : ℕ) → 1 ≤ times x (no_cell ∷ xs) → x ≢ no_cell → 1 ≤ times x xs
  cell-of x h d = omega (arith, times-past x no_cell xs (λ s. d (sym s)))

  -- and in any case at most 4,096.
  pub cell-most : (x : ℕ) → 1 ≤ times x (no_cell ∷ xs) → x ≤ 4096
  cell-most x h =
      same? x no_cell (λ s. omega arith) (λ d. omega (arith, cells.inside x (cell-of x h d), cells.room))

  module _ (e : Ends) (ring : RingOf w e xs) where
    -- The ends fit in 16 bits,
    pub first_fits : e.first % 65536 ≡ e.first
    first_fits = omega (arith, cell-most e.first (ring-first w e xs ring))

    pub last_fits : e.last % 65536 ≡ e.last
    last_fits = omega (arith, cell-most e.last (ring-last w e xs ring))

    -- and the cells are found by their words 4 alone.
    pub ring-chain : Chain (λ (c : ℕ). word w c 4) e.first xs
    ring-chain =
        chain-links (next w e) (λ (c : ℕ). word w c 4) e.first xs
        (all-standing (λ (c : ℕ). next w e c ≡ word w c 4) xs
        (λ c h. next-some w e c (λ s. omega (arith, cells.inside c h, cells.room))))
        (rw (next-none w e no_cell refl) at (linked-chain (next w e) (previous w e) no_cell xs ring))

-- A list is empty exactly if its first cell is none,
pub ring-mark : (w xs : List ℕ) → Cells w xs → (e : Ends) → RingOf w e xs → eqb e.first no_cell ≡ not (has_cells xs)
unfolding has_cells
ring-mark w [] cells e ring = eq-eqb e.first no_cell (rw (next-none w e no_cell refl) at ring.0)
ring-mark w (x ∷ xs) cells e ring =
    ne_eqb e.first no_cell
    (λ s.
    let h : e.first ≡ x = rw (next-none w e no_cell refl) at ring.0 in
    omega (arith, cells.inside x (omega (arith, times-here x x xs refl)), cells.room))

-- The cells of a list that one joined are cells, each once,
pub cells-join :
    (w w' xs : List ℕ) (c : ℕ)
    → length w' ≡ length w
    → Cells w xs
    → c < length w / 8
    → times c xs ≡ 0
    → Cells w' (xs ++ (c ∷ []))
unfolding times
cells-join w w' xs c size cells h new =
    record { room = rw size cells.room; inside = rw size inside; once = once }
  where
    inside : (x : ℕ) → 1 ≤ times x (xs ++ (c ∷ [])) → x < length w / 8
    inside x k =
        same? c x
        (λ s. rw s at h)
        (λ d. cells.inside x (omega (arith, times-append x xs (c ∷ []), times-past x c [] d)))

    once : (x : ℕ) → times x (xs ++ (c ∷ [])) ≤ 1
    once x =
        same? c x
        (λ s. omega (arith, times-append x xs (c ∷ []), times-here x c [] s, rw s at new))
        (λ d. omega (arith, times-append x xs (c ∷ []), times-past x c [] d, cells.once x))

-- and so are those of a list that one left.
pub cells-leave : (w w' xs : List ℕ) (c : ℕ) → length w' ≡ length w → Cells w xs → 1 ≤ times c xs → Cells w' (drop_cell c xs)
cells-leave w w' xs c size cells here =
    record {
      room = rw size cells.room;
      inside = rw size (λ x k. cells.inside x (omega (arith, times-drop x c xs here)));
      once = λ x. omega (arith, cells.once x, times-drop x c xs here);
    }

module _ (w : List ℕ) (e : Ends) (xs : List ℕ) (c : ℕ) (cells : Cells w xs) (ring : RingOf w e xs) where
  -- The last cell is a cell of the list, or none.
  last-in : e.last ≢ no_cell → 1 ≤ times e.last xs
  last-in = cell-of w xs cells e.last (ring-last w e xs ring)

  -- The cell and the cell before it are linked first, then the cell and the end.
  half : Ring
  half = relinked w e e.last c

  -- Only links of them are written.
  half-relinked : Relinked (c ∷ xs) w half.words
  unfolding half times
  half-relinked =
      relinked-only w e e.last c (c ∷ xs)
      (λ d. omega (arith, last-in d))
      (λ d. omega (arith, times-here c c xs refl))

  -- A cell joins at the end: only links of it and of the list are written,
  pub join-relinked : Relinked (c ∷ xs) w (joined w e c).words
  unfolding joined half
  join-relinked =
      relinked-both (c ∷ xs) w half.words (joined w e c).words half-relinked
      (relinked-only half.words half.ends c no_cell (c ∷ xs)
      (λ d. omega (arith, times-here c c xs refl))
      (λ d. absurd (d refl)))

  -- and the list has it last.
  pub join-ring : c < length w / 8 → times c xs ≡ 0 → RingOf (joined w e c).words (joined w e c).ends (xs ++ (c ∷ []))
  unfolding joined half
  join-ring h new =
      linked-join (next w e) (previous w e) (next half.words half.ends) (previous half.words half.ends)
      (next (joined w e c).words (joined w e c).ends) (previous (joined w e c).words (joined w e c).ends)
      no_cell xs no_cell c e.last
      (previous-none w e no_cell refl)
      (relinked-links w e e.last c (λ d. cells.inside e.last (last-in d)) (λ d. h))
      (relinked-links half.words half.ends c no_cell (λ d. rw half-relinked.size h) (λ d. absurd (d refl)))
      (once_more w xs cells)
      (times-past c no_cell xs (λ s. other (sym s)) ∙ new)
      (none_inside w xs cells)
      other
      ring
    where
      other : c ≢ no_cell
      other s = omega (arith, cells.room)

  module _ (here : 1 ≤ times c xs) where
    -- A cell of the list is not no cell.
    cell : c ≢ no_cell
    cell s = omega (arith, cells.inside c here, cells.room)

    -- The cells beside a cell of the list are cells of the list, or none.
    next-in : word w c 4 ≢ no_cell → 1 ≤ times (word w c 4) xs
    next-in =
        cell-of w xs cells (word w c 4)
        (rw (next-some w e c cell) at (linked-next-in (next w e) (previous w e) no_cell xs no_cell c here ring))

    prev-in : word w c 5 ≢ no_cell → 1 ≤ times (word w c 5) xs
    prev-in =
        cell-of w xs cells (word w c 5)
        (rw (previous-some w e c cell) at (linked-prev-in (next w e) (previous w e) no_cell xs no_cell c here ring))

    -- A cell leaves: only links of the list are written,
    pub leave-relinked : Relinked xs w (left w e c).words
    unfolding left
    leave-relinked = relinked-only w e (word w c 5) (word w c 4) xs prev-in next-in

    -- and the list has the others, in their order.
    pub leave-ring : RingOf (left w e c).words (left w e c).ends (drop_cell c xs)
    unfolding left
    leave-ring =
        rw s.rest
        (linked-leave (next w e) (previous w e) (next (left w e c).words (left w e c).ends)
        (previous (left w e c).words (left w e c).ends) no_cell s.before c s.after no_cell (word w c 5) (word w c 4)
        (previous-some w e c cell)
        (next-some w e c cell)
        (relinked-links w e (word w c 5) (word w c 4)
        (λ d. cells.inside (word w c 5) (prev-in d))
        (λ d. cells.inside (word w c 4) (next-in d)))
        (rw s.whole at (once_more w xs cells))
        (rw s.whole at (none_inside w xs cells))
        (rw s.whole at ring))
      where
        s : Split c xs
        s = cell-split c xs here

    -- Its ends are none exactly if no other cell stands there.
    pub leave_none : eqb (left w e c).ends.first no_cell ≡ not (has_cells (drop_cell c xs))
    leave_none =
        ring-mark (left w e c).words (drop_cell c xs)
        (cells-leave w (left w e c).words xs c leave-relinked.size cells here)
        (left w e c).ends
        leave-ring
