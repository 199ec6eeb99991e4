-- The first entry of the due list is handed out: it is before all others.
-- Assumes nothing.
use Prim.Native.Nat.{ℕ, suc, ◌≤◌, ◌<◌}
use native.Mathlib.Omega.{arith}
use mathlib.Core.List.{List, [], ◌∷◌, map}
use mathlib.Core.Logic.{◌≢◌}
use mathlib.Core.Option.{some}
use mathlib.Core.Path.{◌≡◌, refl, sym, ap, subst, ◌∙◌}
use lib.ListN.{take, drop}
use Rattle.cells.specs.Lists.{times}
use Rattle.cells.specs.Stack.{no_cell, Chain}
use Rattle.cells.specs.Store.{release_words, release_store}
use Rattle.cells.specs.Words.{word}
use Rattle.cells.proofs.Lists.{all_map}
use Rattle.meaning.specs.Arranged.{arranged}
use Rattle.meaning.specs.Calls.{due_by}
use Rattle.meaning.specs.Entries.{Entry, named, earliest}
use Rattle.meaning.specs.Plain.{Plain, onto, frees, hands}
use Rattle.meaning.proofs.Arranged.{arranged-same, arranged-all, all-arranged}
use Rattle.meaning.proofs.Due.{due-more}
use Rattle.meaning.proofs.Handles.{named-all}
use Rattle.meaning.proofs.Stack.{cell_of}
use Rattle.slots.specs.Rings.{Lists}
use Rattle.slots.specs.Stand.{due_list, ends_at, leave_at}
use Rattle.slots.proofs.Standing.{walk-next}
use Rattle.dial.specs.Joined.{Valid, listed, remaining, joins}
use Rattle.dial.specs.Turns.{State, list_of, with_words, recorded, fire}
use Rattle.dial.specs.Shows.{standing, cells_at, Carried, Shows}
use Rattle.dial.proofs.CellLists.{standing-list, standing-named, named-cell}
use Rattle.dial.proofs.Numbers.{number-due, number-only}
use Rattle.dial.proofs.Advances.{due-nothing}
use Rattle.dial.proofs.DueFirst.{due-earliest}
use Rattle.dial.proofs.Leaving.{shows-holds, leave-shows}
use Rattle.dial.proofs.Entering.{due-idle}

-- The entry before all others.
abbrev pub soonest : Plain → Entry
soonest m = earliest (arranged m.entries)

-- Entry e is the first of the due list.
pub record FirstDue (l : Lists) (m : Plain) (e : Entry) : Type 0 where
  pub first : l.due.first ≡ e.cell
  pub here : named e.cell e.ticket m.entries ≡ some e
  pub now : e.key ≡ m.clock

-- Where a list has an entry, it is the earliest of them and the rest.
first_rest : (c : ℕ) (es : List Entry) → 1 ≤ times c (map cell_of es) → es ≡ earliest es ∷ drop 1 es
unfolding times earliest
first_rest c [] h = absurd (omega arith)
first_rest c (e ∷ es) h = refl

module _ (z : State) (m : Plain) (s : Shows z.lists z.clock z.store m) where
  -- The due list begins with the cell of its first entry, or there is none.
  due-walk :
      (es : List Entry)
      → standing m.clock due_list m.entries ≡ es
      → Chain (λ (c : ℕ). word z.lists.words c 4) z.lists.due.first (map cell_of es)
  unfolding ends_at
  due-walk es h =
      subst (λ (xs : List Entry). Chain (λ (c : ℕ). word z.lists.words c 4) z.lists.due.first (map cell_of xs)) h
      (walk-next z.lists (cells_at m.clock m.entries) s.lists due_list (omega arith))

  -- Where the due list is not empty its first entry is before all others.
  pub first-due : z.lists.due.first ≢ no_cell → FirstDue z.lists m (soonest m)
  first-due d = go (standing m.clock due_list m.entries) refl
    where
      go : (es : List Entry) → standing m.clock due_list m.entries ≡ es → FirstDue z.lists m (soonest m)
      go [] h = absurd (d (due-walk [] h))
      go (e ∷ rest) h =
          subst (FirstDue z.lists m) (sym (due-earliest m e rest s.valid h).0)
          (record {
            first = (due-walk (e ∷ rest) h).0;
            here =
                standing-named m.clock due_list e rest m.entries h
                (omega (arith, (shows-holds z.lists z.clock z.store m s).once e.cell));
            now = sym (number-only m.clock e.key (standing-list m.clock due_list e rest m.entries h));
          })

  -- Where it is empty no entry is due.
  pub none-due : z.lists.due.first ≡ no_cell → due_by m.clock (arranged m.entries) ≡ 0
  unfolding listed
  none-due n =
      due-nothing m.clock (arranged m.entries)
      (arranged-all (λ (e : Entry). m.clock < e.key) m.entries
      ((due-idle z.lists z.clock z.store m s
      (all-arranged (λ (e : Entry). m.clock ≤ e.key) m.entries
      (all_map (λ e h. h.late) (arranged m.entries) s.valid.timed.deadlines))).0 n))

  -- The due list is not empty.
  module _ (d : z.lists.due.first ≢ no_cell) where
    -- Its first entry.
    first : FirstDue z.lists m (soonest m)
    first = first-due d

    -- The plain list is that entry and the rest,
    pub due-whole : arranged m.entries ≡ soonest m ∷ drop 1 (arranged m.entries)
    due-whole =
        first_rest (soonest m).cell (arranged m.entries)
        (omega (
          arith,
          arranged-same m.entries cell_of (soonest m).cell,
          named-cell (soonest m).cell (soonest m).ticket (soonest m) m.entries first.here,
        ))

    -- of which one fewer is due.
    pub due-suc : due_by m.clock (arranged m.entries) ≡ suc (due_by m.clock (drop 1 (arranged m.entries)))
    due-suc =
        ap (due_by m.clock) due-whole
        ∙ due-more m.clock (soonest m) (drop 1 (arranged m.entries)) (omega (arith, first.now))

    -- Handing out the first is giving back its cell.
    hands-frees : joins (hands 1 m.clock) m ≡ joins (frees z.lists.due.first (soonest m).ticket) m
    unfolding joins remaining onto
    hands-frees =
        let free : onto (take 1 (arranged m.entries)) m.free ≡ (soonest m).cell ∷ m.free =
        ap (λ (es : List Entry). onto (take 1 es) m.free) due-whole in
        cc (free, first.first)

    -- The first of the due list is handed out and freed: the model without the entry before all others.
    pub fire-shows : Valid (joins (hands 1 m.clock) m) → Shows (fire z).lists (fire z).clock (fire z).store (joins (hands 1 m.clock) m)
    unfolding fire leave_at
    fire-shows v =
        let c : ℕ = z.lists.due.first in
        let here : named c (soonest m).ticket m.entries ≡ some (soonest m) =
        ap (λ (x : ℕ). named x (soonest m).ticket m.entries) first.first ∙ first.here in
        let place : list_of m.clock (soonest m).key ≡ due_list = number-due m.clock (soonest m).key (sym first.now) in
        subst (λ (x : Plain). Shows (fire z).lists (fire z).clock (fire z).store x) (sym hands-frees)
        (subst
        (λ (i : ℕ).
        Shows (with_words (leave_at z.lists i c) (release_words (leave_at z.lists i c).words z.store c)) z.clock
        (release_store z.store c) (joins (frees c (soonest m).ticket) m))
        place
        (leave-shows z.lists z.clock z.store m s c (soonest m).ticket (soonest m) here (subst Valid hands-frees v)))

    -- Its record is written.
    pub fire-out :
        (fire z).out
        ≡ recorded z.out z.fired (soonest m).cell (soonest m).ticket (soonest m).key (soonest m).load
    unfolding fire
    fire-out =
        let carried : Carried z.lists.words (soonest m) =
        named-all (soonest m).cell (soonest m).ticket (Carried z.lists.words) (soonest m) m.entries first.here s.entries in
        cc (first.first, carried.ticket, carried.deadline, carried.load)
