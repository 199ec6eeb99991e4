-- In which list the cell of an entry stands, and what an entry less or more does to the lists.
-- Assumes nothing.
use Prim.Native.Nat.{ℕ, ◌≤◌}
use native.Mathlib.Omega.{arith}
use mathlib.Core.Bool.{Bool, true, false, cond}
use mathlib.Core.List.{List, [], ◌∷◌, ◌++◌, map, append-nil}
use mathlib.Core.Logic.{◌≢◌}
use mathlib.Core.Option.{some, none-ne-some, some-injective}
use mathlib.Core.Path.{◌≡◌, refl, sym, ap, ◌∙◌}
use lib.Dec.{eqb}
use lib.ListN.{length}
use borrow.Author.Tests.{eq-eqb, ne_eqb}
use Rattle.cells.specs.Lists.{times}
use Rattle.cells.proofs.Cases.{same?}
use Rattle.cells.proofs.Lists.{times-here}
use Rattle.meaning.specs.Entries.{Entry, names, named, without}
use Rattle.meaning.proofs.Handles.{ticket_of, names-own, named-names, map-append, times-without}
use Rattle.meaning.proofs.Stack.{cell_of}
use Rattle.slots.specs.Stand.{put_list, drop_cell}
use Rattle.slots.proofs.Changing.{put?}
use Rattle.slots.proofs.Linking.{drop_here, drop_past}
use Rattle.dial.specs.Turns.{list_of}
use Rattle.dial.specs.Shows.{passing, standing, cells_at}
use Rattle.dial.proofs.Passing.{passing-times}

module _ (t i : ℕ) (e : Entry) (es : List Entry) where
  -- An entry in front stands first in the list of its place,
  pub standing_here : list_of t e.key ≡ i → standing t i (e ∷ es) ≡ e ∷ standing t i es
  unfolding standing passing
  standing_here h = rw (eq-eqb (list_of t e.key) i h)

  -- and not in another.
  pub standing-past : list_of t e.key ≢ i → standing t i (e ∷ es) ≡ standing t i es
  unfolding standing passing
  standing-past d = rw (ne_eqb (list_of t e.key) i d)

  -- Its cell stands first there too,
  pub cells-here : list_of t e.key ≡ i → cells_at t (e ∷ es) i ≡ e.cell ∷ cells_at t es i
  cells-here h = ap (map cell_of) (standing_here h)

  -- and not in another.
  pub cells-past : list_of t e.key ≢ i → cells_at t (e ∷ es) i ≡ cells_at t es i
  cells-past d = ap (map cell_of) (standing-past d)

module _ (c k : ℕ) (e : Entry) (es : List Entry) (h : named c k es ≡ some e) where
  -- The cell of an entry that a handle names is an entry's,
  pub named-cell : 1 ≤ times c (map cell_of es)
  named-cell =
      omega (
        arith,
        times-without c k c cell_of e es h,
        times-here c e.cell (map cell_of (without c k es)) (names-own c k e (named-names c k e es h)).0,
      )

  -- and, if only one entry has it, none's without that entry.
  pub named-alone : times c (map cell_of es) ≤ 1 → times c (map cell_of (without c k es)) ≡ 0
  named-alone u =
      omega (
        arith,
        times-without c k c cell_of e es h,
        times-here c e.cell (map cell_of (without c k es)) (names-own c k e (named-names c k e es h)).0,
      )

module _ (t : ℕ) where
  -- No cell stands in a list more often than it is an entry's.
  pub cells-most : (c i : ℕ) (es : List Entry) → times c (cells_at t es i) ≤ times c (map cell_of es)
  unfolding standing
  cells-most c i es = passing-times (λ (e : Entry). eqb (list_of t e.key) i) cell_of c es

  -- The entries of a list are those of the first part and those of the second.
  pub standing-append : (i : ℕ) (es fs : List Entry) → standing t i (es ++ fs) ≡ standing t i es ++ standing t i fs
  unfolding standing passing
  standing-append i [] fs = refl
  standing-append i (x ∷ xs) fs = go (eqb (list_of t x.key) i) (standing-append i xs fs)
    where
      go : (b : Bool) → standing t i (xs ++ fs) ≡ standing t i xs ++ standing t i fs
          → cond b (x ∷ standing t i (xs ++ fs)) (standing t i (xs ++ fs)) ≡ cond b (x ∷ standing t i xs) (standing t i xs) ++ standing t i fs
      go true r = ap (λ (l : List Entry). x ∷ l) r
      go false r = r

  -- An entry joins: its cell comes last in the list of its place, and the others are the same.
  pub cells-join :
      (e : Entry) (es : List Entry) (i : ℕ)
      → put_list (cells_at t es) (list_of t e.key) (cells_at t es (list_of t e.key) ++ (e.cell ∷ [])) i ≡ cells_at t (es ++ (e ∷ [])) i
  unfolding standing passing
  cells-join e es i =
      let parts : cells_at t (es ++ (e ∷ [])) i ≡ cells_at t es i ++ cells_at t (e ∷ []) i =
      ap (map cell_of) (standing-append i es (e ∷ [])) ∙ map-append cell_of (standing t i es) (standing t i (e ∷ [])) in
      put? (cells_at t es) (list_of t e.key) (cells_at t es (list_of t e.key) ++ (e.cell ∷ [])) i
      (λ (ys : List ℕ). ys ≡ cells_at t (es ++ (e ∷ [])) i)
      (λ s. rw (← s) (sym (parts ∙ ap (λ (l : List ℕ). cells_at t es i ++ l) (cells-here t i e [] (sym s)))))
      (λ d. sym (parts ∙ ap (λ (l : List ℕ). cells_at t es i ++ l) (cells-past t i e [] (λ s. d (sym s))) ∙ append-nil _))

  module _ (c k : ℕ) (e : Entry) where
    -- The cell of an entry that a handle names stands in the list of the entry's place.
    pub list_at : (es : List Entry) → named c k es ≡ some e → 1 ≤ times c (cells_at t es (list_of t e.key))
    unfolding named times
    list_at [] h = absurd (none-ne-some e h)
    list_at (x ∷ xs) h = go (names c k x) refl h (list_at xs)
      where
        i : ℕ
        i = list_of t e.key

        go : (b : Bool) → names c k x ≡ b → cond b (some x) (named c k xs) ≡ some e
            → (named c k xs ≡ some e → 1 ≤ times c (cells_at t xs i))
            → 1 ≤ times c (cells_at t (x ∷ xs) i)
        go true q r f =
            let same : x ≡ e = some-injective x e r in
            omega (
              arith,
              ap (times c) (cells-here t i x xs (ap (λ (y : Entry). list_of t y.key) same)),
              times-here c x.cell (cells_at t xs i) (names-own c k x q).0,
            )
        go false q r f =
            same? (list_of t x.key) i
            (λ s. omega (arith, f r, ap (times c) (cells-here t i x xs s)))
            (λ d. omega (arith, f r, ap (times c) (cells-past t i x xs d)))

    -- It is gone from there without the entry, if no other entry has it,
    cells-gone :
        (es : List Entry)
        → named c k es ≡ some e
        → times c (map cell_of es) ≤ 1
        → (i : ℕ)
        → list_of t e.key ≡ i
        → cells_at t (without c k es) i ≡ drop_cell c (cells_at t es i)
    unfolding named without times
    cells-gone [] h u i s = absurd (none-ne-some e h)
    cells-gone (x ∷ xs) h u i s = go (names c k x) refl h (λ r. cells-gone xs r (omega arith) i s)
      where
        go : (b : Bool) → names c k x ≡ b → cond b (some x) (named c k xs) ≡ some e
            → (named c k xs ≡ some e → cells_at t (without c k xs) i ≡ drop_cell c (cells_at t xs i))
            → cells_at t (cond b xs (x ∷ without c k xs)) i ≡ drop_cell c (cells_at t (x ∷ xs) i)
        go true q r f =
            let same : x ≡ e = some-injective x e r in
            rw (cells-here t i x xs (ap (λ (y : Entry). list_of t y.key) same ∙ s))
            (sym (drop_here c x.cell (cells_at t xs i) (names-own c k x q).0))
        go false q r f =
            let other : x.cell ≢ c = λ o. omega (arith, u, times-here c x.cell (map cell_of xs) o, named-cell c k e xs r) in
            same? (list_of t x.key) i
            (λ o.
            rw (cells-here t i x xs o, cells-here t i x (without c k xs) o, f r)
            (sym (drop_past c x.cell (cells_at t xs i) other)))
            (λ d. rw (cells-past t i x xs d, cells-past t i x (without c k xs) d) (f r))

    -- and the others are the same.
    cells-kept :
        (es : List Entry) → named c k es ≡ some e → (i : ℕ) → list_of t e.key ≢ i → cells_at t (without c k es) i ≡ cells_at t es i
    unfolding named without
    cells-kept [] h i d = refl
    cells-kept (x ∷ xs) h i d = go (names c k x) h (λ r. cells-kept xs r i d)
      where
        go : (b : Bool) → cond b (some x) (named c k xs) ≡ some e
            → (named c k xs ≡ some e → cells_at t (without c k xs) i ≡ cells_at t xs i)
            → cells_at t (cond b xs (x ∷ without c k xs)) i ≡ cells_at t (x ∷ xs) i
        go true r f =
            let same : x ≡ e = some-injective x e r in
            sym (cells-past t i x xs (λ o. d (sym (ap (λ (y : Entry). list_of t y.key) same) ∙ o)))
        go false r f =
            same? (list_of t x.key) i
            (λ o. rw (cells-here t i x xs o, cells-here t i x (without c k xs) o, f r))
            (λ o. rw (cells-past t i x xs o, cells-past t i x (without c k xs) o) (f r))

    module _ (es : List Entry) (h : named c k es ≡ some e) (u : times c (map cell_of es) ≤ 1) where
      -- An entry leaves: its cell leaves the list of its place, and the others are the same.
      pub cells-leave :
          (i : ℕ)
          → put_list (cells_at t es) (list_of t e.key) (drop_cell c (cells_at t es (list_of t e.key))) i ≡ cells_at t (without c k es) i
      cells-leave i =
          put? (cells_at t es) (list_of t e.key) (drop_cell c (cells_at t es (list_of t e.key))) i
          (λ (ys : List ℕ). ys ≡ cells_at t (without c k es) i)
          (λ s. rw (← s) (sym (cells-gone es h u i (sym s))))
          (λ d. sym (cells-kept es h i (λ s. d (sym s))))

module _ (t i : ℕ) (e : Entry) (rest : List Entry) where
  -- The first entry of a list has its place there,
  pub standing-list : (es : List Entry) → standing t i es ≡ e ∷ rest → list_of t e.key ≡ i
  unfolding standing passing
  standing-list [] h = absurd (omega (arith, ap length h))
  standing-list (x ∷ xs) h =
      same? (list_of t x.key) i
      (λ s. let same : x ≡ e = cc (standing_here t i x xs s, h) in rw (← same) s)
      (λ d. standing-list xs (sym (standing-past t i x xs d) ∙ h))

  -- and is what its handle names, if no other entry has its cell.
  pub standing-named :
      (es : List Entry) → standing t i es ≡ e ∷ rest → times e.cell (map cell_of es) ≤ 1 → named e.cell e.ticket es ≡ some e
  unfolding standing passing named names times
  standing-named [] h u = absurd (omega (arith, ap length h))
  standing-named (x ∷ xs) h u =
      same? (list_of t x.key) i
      (λ s.
      let same : x ≡ e = cc (standing_here t i x xs s, h) in
      rw (eq-eqb x.cell e.cell (ap cell_of same), eq-eqb x.ticket e.ticket (ap ticket_of same)) (ap some same))
      (λ d.
      let found : named e.cell e.ticket xs ≡ some e =
      standing-named xs (sym (standing-past t i x xs d) ∙ h) (omega arith) in
      let other : x.cell ≢ e.cell =
      λ s. omega (arith, u, times-here e.cell x.cell (map cell_of xs) s, named-cell e.cell e.ticket e xs found) in
      rw (ne_eqb x.cell e.cell other) found)
