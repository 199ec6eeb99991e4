-- Entering a wake tick on words and arrays: of the model only the clock changes.
-- Assumes nothing.
use Prim.Native.Nat.{ℕ, ◌+◌, ◌^◌, ◌≤◌, ◌<◌}
use native.Mathlib.Omega.{arith}
use mathlib.Core.Bool.{Bool, true, false, cond, not}
use mathlib.Core.List.{List, [], ◌∷◌, ◌++◌, map}
use mathlib.Core.Logic.{◌↔◌}
use mathlib.Core.Path.{◌≡◌, refl, sym, ap, ◌∙◌}
use lib.Dec.{ltb, eqb}
use lib.ListN.{length}
use borrow.Author.Tests.{eqb-true, eqb-false, eq-eqb, ne_eqb, not-true}
use Rattle.cells.proofs.Cases.{clash}
use Rattle.cells.proofs.Lists.{all_map, all_both}
use Rattle.cells.proofs.Sums.{all-standing, cond-bit}
use Rattle.cells.proofs.Chains.{chain-links}
use Rattle.cells.specs.Lists.{All, times, sum_of}
use Rattle.cells.specs.Stack.{no_cell, link}
use Rattle.cells.specs.Words.{word}
use Rattle.cells.specs.declared.store.Store.{Store}
use Rattle.places.proofs.Digits.{tick-below, tick-upto}
use Rattle.slots.specs.Rings.{Lists, empty_slot}
use Rattle.slots.specs.Stand.{due_list, ends_at, has_cells, put_list, Relinked}
use Rattle.slots.proofs.OneRing.{ring-mark}
use Rattle.slots.proofs.Changing.{put?, stand-cells, stand-apart, stand-same}
use Rattle.slots.proofs.AllRings.{empty-words, empty_stands}
use Rattle.slots.proofs.Standing.{FirstUsed, walk-next}
use Rattle.meaning.specs.Entries.{Entry}
use Rattle.meaning.specs.Plain.{Plain}
use Rattle.meaning.specs.Calls.{all_moves}
use Rattle.meaning.specs.Kept.{Within}
use Rattle.meaning.proofs.Stack.{cell_of}
use Rattle.dial.specs.Joined.{Valid}
use Rattle.dial.specs.Turns.{list_of, State, turned, enter, wake_at}
use Rattle.dial.specs.Shows.{passing, standing, cells_at, Shows}
use Rattle.dial.proofs.StableKept.{at_clock, valid-clock}
use Rattle.dial.proofs.Numbers.{Turned, wake-after, wake-until, wake-turns, turned-until}
use Rattle.dial.proofs.Passing.{no-entries, passing-none, passing-empty, passing-all, passing-length}
use Rattle.dial.proofs.ListTicks.{one_has, first-low, first_some}
use Rattle.dial.proofs.CellLists.{cells-most}
use Rattle.dial.proofs.Holding.{carried-frame}
use Rattle.dial.proofs.Turning.{standing-due, turned-lists}
use Rattle.dial.proofs.Moving.{walked-moves}
use Rattle.dial.proofs.Walking.{ToWalk, Walked, walk-walked}

-- A list with cells has at least one.
some-length : (ws : List Entry) → has_cells (map cell_of ws) ≡ true → 1 ≤ length ws
unfolding has_cells
some-length [] e = clash e refl
some-length (w ∷ ws) e = omega arith

-- The due list is empty exactly if every deadline is later than the clock.
pub due-idle :
    (l : Lists) (t : ℕ) (store : Store) (m : Plain)
    → Shows l t store m
    → All (λ (e : Entry). m.clock ≤ e.key) m.entries
    → (l.due.first ≡ no_cell) ↔ All (λ (e : Entry). m.clock < e.key) m.entries
unfolding ends_at has_cells
due-idle l t store m s late = (
  λ e.
      all_map (λ x p. omega (arith, p.0, eqb-false x.key m.clock p.1)) es
      (all_both (λ (x : Entry). m.clock ≤ x.key) (λ (x : Entry). is_due x ≡ false) es late
      (passing-empty is_due es
      (no-entries (passing is_due es)
      (not-true (has_cells (map cell_of (passing is_due es))) (sym mark ∙ eq-eqb l.due.first no_cell e))))),
  λ all.
      eqb-true l.due.first no_cell
      (mark
      ∙ ap (λ (ws : List Entry). not (has_cells (map cell_of ws)))
      (passing-none is_due es (all_map (λ x p. ne_eqb x.key m.clock (λ q. omega arith)) es all))),
)
  where
    es : List Entry
    es = m.entries

    is_due : Entry → Bool
    is_due x = eqb x.key m.clock

    mark : eqb l.due.first no_cell ≡ not (has_cells (map cell_of (passing is_due es)))
    mark =
        rw (standing-due m.clock m.entries) at
        (ring-mark l.words (cells_at m.clock es due_list) (stand-cells l (cells_at m.clock es) s.lists due_list (omega arith)) l.due
        (s.lists.rings due_list (omega arith)))

-- What entering the wake tick t of list i has done to lists, clock and store that show a model: they show it at clock t.
pub record Entered (z z' : State) (m : Plain) (t i : ℕ) : Type 0 where
  pub shows : Shows z'.lists z'.clock z'.store (at_clock m t)
  -- Only links of cells in use are written.
  pub relinked : Relinked (map cell_of m.entries) z.lists.words z'.lists.words
  pub clock : z'.clock ≡ t
  pub store : z'.store ≡ z.store
  pub out : z'.out ≡ z.out
  pub fired : z'.fired ≡ z.fired
  -- "Each of the latter is one move; going to the due list .. is none."
  pub moves : z'.moves ≡ z.moves + sum_of (λ (e : Entry). cond (eqb e.key t) 0 1) (standing m.clock i m.entries)
  -- "The moves reported are the sum over the entries that stand in the wheel": those of an advance to this tick.
  pub counted : z'.moves ≡ z.moves + all_moves 64 6 m.clock t m.entries
  -- The tick is later than the clock was, and no later than any deadline.
  pub later : m.clock < t
  pub until : All (λ (e : Entry). t ≤ e.key) m.entries
  -- Each entry stays, goes to a lower level, or is due; those of list i do not stay, and there is one.
  pub turned : All (λ (e : Entry). Turned m.clock t i e.key) m.entries
  pub some : 1 ≤ length (standing m.clock i m.entries)
  -- The due list is empty exactly if no deadline is this tick.
  pub idle : (z'.lists.due.first ≡ no_cell) ↔ All (λ (e : Entry). t < e.key) m.entries

-- A deadline that is a tick later than the clock.
abbrev Waits : ℕ → Entry → Type 0
Waits a e = (a < e.key) × (e.key < 64 ^ 6)

-- List i is the first with entries, nothing is due, and t is the wake tick of list i.
module _ (z : State) (m : Plain) (shows : Shows z.lists z.clock z.store m)
    (split : (c : ℕ) → times c (map cell_of m.entries) + times c m.free ≡ cond (ltb c m.cells) 1 0)
    (few : length m.entries ≤ m.cells)
    (within : All (Within 64 6 m.clock) m.entries)
    (idle : All (λ (e : Entry). m.clock < e.key) m.entries)
    (i t : ℕ) (slot : i < due_list) (first : FirstUsed (cells_at m.clock m.entries) i) (wakes : t ≡ wake_at z.clock i) where
  -- No entry is due yet,
  waiting : All (Waits m.clock) m.entries
  waiting =
      all_map (λ e p. (p.0, tick-below 64 6 e.key (omega arith) p.1.last)) m.entries
      (all_both (λ (e : Entry). m.clock < e.key) (Within 64 6 m.clock) m.entries idle within)

  -- none stands in a list of a lower number,
  lowest : All (λ (e : Entry). i ≤ list_of m.clock e.key) m.entries
  lowest = first-low m.clock m.entries i first

  -- and some stands in list i.
  from_one : {Q : Type 0} → ((x : Entry) → Waits m.clock x → list_of m.clock x.key ≡ i → Q) → Q
  from_one f =
      let (x, (p, q)) =
      one_has (Waits m.clock) (λ (e : Entry). list_of m.clock e.key) i m.entries waiting
      (first_some m.clock m.entries i first slot) in
      f x p q

  -- The clock is the model's.
  wakes-at : t ≡ wake_at m.clock i
  wakes-at = rw shows.clock at wakes

  -- So the wake tick is later than the clock,
  is_later : m.clock < t
  is_later = from_one (λ x p s. rw (wakes-at, ← s) (wake-after m.clock x.key p.0 p.1))

  -- each entry stays, goes to a lower level, or is due,
  all-turned : All (λ (e : Entry). Turned m.clock t i e.key) m.entries
  all-turned =
      from_one
      (λ x p s.
      all_map
      (λ e q. rw wakes-at (wake-turns m.clock i x.key e.key s p.0 p.1 q.0.0 q.0.1 q.1))
      m.entries
      (all_both (Waits m.clock) (λ (e : Entry). i ≤ list_of m.clock e.key) m.entries waiting lowest))

  -- and no deadline is before the tick.
  all-until : All (λ (e : Entry). t ≤ e.key) m.entries
  all-until = all_map (λ e r. turned-until r) m.entries all-turned

  -- So the model keeps to the rules at that clock.
  valid : Valid (at_clock m t)
  valid =
      valid-clock m t shows.valid all-until
      (from_one
      (λ x p s.
      tick-upto 64 6 t (omega (arith, p.1, wakes-at, rw s at (wake-until m.clock x.key p.0 p.1)))))

  -- The walk starts with list i emptied: its cells stand in no list, and still link to each other.
  ahead : ToWalk (turned z (empty_slot z.lists i) t) (put_list (cells_at m.clock m.entries) i []) (map cell_of m.entries)
      (ends_at z.lists i).first
      (standing m.clock i m.entries)
  unfolding turned times
  ahead =
      record {
        stands = empty_stands z.lists lists shows.lists i slot;
        linked = rw words (walk-next z.lists lists shows.lists i (omega arith));
        deadlines =
            rw words
            (unfold standing in
            passing-all (λ (e : Entry). eqb (list_of m.clock e.key) i) (λ (e : Entry). word z.lists.words e.cell 2 ≡ e.key)
            m.entries
            (all_map (λ e c. c.deadline) m.entries shows.entries));
        once = λ x. shows.lists.once i x (omega arith);
        inside = λ x h. rw words (shows.lists.inside i x (omega arith) h);
        apart = λ j x u h.
            put? lists i [] j (λ (ys : List ℕ). times x ys ≡ 0)
            (λ s. refl)
            (λ d. stand-apart z.lists lists shows.lists j i x u (omega arith) (λ s. d (sym s)) h);
        walked = λ x h. omega (arith, cells-most m.clock x i m.entries);
        listed = λ j x u h.
            put? lists i [] j (λ (ys : List ℕ). times x ys ≡ 0) (λ s. refl) (λ d. omega (arith, cells-most m.clock x j m.entries));
      }
    where
      lists : ℕ → List ℕ
      lists = cells_at m.clock m.entries

      words : (empty_slot z.lists i).words ≡ z.lists.words
      words = empty-words z.lists lists shows.lists i slot

  -- The walk has fuel enough: no list has more entries than there are cells.
  walked : Walked (turned z (empty_slot z.lists i) t) (enter t i z) (put_list (cells_at m.clock m.entries) i [])
      (map cell_of m.entries)
      (standing m.clock i m.entries)
  unfolding enter
  walked =
      walk-walked (standing m.clock i m.entries) z.store.cells (ends_at z.lists i).first
      (turned z (empty_slot z.lists i) t)
      (put_list (cells_at m.clock m.entries) i [])
      (map cell_of m.entries)
      ahead
      (omega (arith, shows.cells, enough))
    where
      enough : length (standing m.clock i m.entries) ≤ length m.entries
      enough = unfold standing in passing-length (λ (e : Entry). eqb (list_of m.clock e.key) i) m.entries

  -- Only links of cells in use are written,
  all-relinked : Relinked (map cell_of m.entries) z.lists.words (enter t i z).lists.words
  unfolding turned
  all-relinked = rw (empty-words z.lists (cells_at m.clock m.entries) shows.lists i slot) at walked.relinked

  -- so that a free cell keeps its words.
  free-kept : (c f : ℕ) → 1 ≤ times c m.free → word (enter t i z).lists.words c f ≡ word z.lists.words c f
  free-kept c f h = all-relinked.others c f (omega (arith, split c, cond-bit (ltb c m.cells)))

  -- The lists are those of the entries at the wake tick, and everything else is as it was.
  tick-shown : Shows (enter t i z).lists t z.store (at_clock m t)
  unfolding turned
  tick-shown =
      record {
        clock = refl;
        cells = shows.cells;
        counter = shows.counter;
        size = rw all-relinked.size shows.size;
        free =
            chain-links (link z.lists.words) (link (enter t i z).lists.words) z.store.free m.free
            (all-standing (λ (c : ℕ). link z.lists.words c ≡ link (enter t i z).lists.words c) m.free
            (λ c h. sym (free-kept c 4 h)))
            shows.free;
        blank = λ c f h d. free-kept c f h ∙ shows.blank c f h d;
        entries =
            all_map (λ e. carried-frame z.lists.words (enter t i z).lists.words e (λ f d d'. all-relinked.fields e.cell f d d'))
            m.entries
            shows.entries;
        lists =
            stand-same (enter t i z).lists
            (λ (j : ℕ).
            put_list (cells_at m.clock m.entries) i [] j ++ cells_at t (standing m.clock i m.entries) j)
            (cells_at t m.entries)
            (λ j u. sym (turned-lists m.clock t i m.entries slot all-turned j u))
            walked.stands;
        valid = valid;
      }

  -- Entering the wake tick is on the model only a later clock.
  pub enter-shows : Entered z (enter t i z) m t i
  unfolding turned
  enter-shows =
      record {
        shows = rw (walked.clock, walked.store) tick-shown;
        relinked = all-relinked;
        clock = walked.clock;
        store = walked.store;
        out = walked.out;
        fired = walked.fired;
        moves = walked.moves;
        counted =
            walked.moves
            ∙ ap (λ (n : ℕ). z.moves + n)
            (walked-moves m.clock t i m.entries is_later wakes-at (all_map (λ e p. p.1) m.entries waiting) all-turned);
        later = is_later;
        until = all-until;
        turned = all-turned;
        some = some-length (standing m.clock i m.entries) (first.there slot);
        idle = due-idle (enter t i z).lists t z.store (at_clock m t) tick-shown all-until;
      }
