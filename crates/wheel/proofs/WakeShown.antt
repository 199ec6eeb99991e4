-- What next wake answers of a model that lists and numbers show.
-- Assumes nothing.
use Prim.Native.Nat.{ℕ, ◌/◌, ◌%◌, ◌≤◌, ◌<◌}
use native.Mathlib.Omega.{arith}
use mathlib.Core.List.{List, [], map}
use mathlib.Core.Logic.{◌≢◌}
use mathlib.Core.Option.{Option, none, some}
use mathlib.Core.Path.{◌≡◌, refl, sym, ap, ◌∙◌}
use borrow.Author.Tests.{eq-eqb, ne_eqb}
use Rattle.cells.specs.Lists.{All}
use Rattle.cells.specs.Stack.{no_cell}
use Rattle.cells.proofs.Lists.{all_map, all_both, all_read, all-image}
use Rattle.places.specs.Answers.{wake_answer}
use Rattle.meaning.specs.Arranged.{arranged}
use Rattle.meaning.specs.Calls.{Answer, NextWake, Wakes, causes, accepted, outcome, due_by, smallest, next_wake}
use Rattle.meaning.specs.Entries.{Entry}
use Rattle.meaning.specs.Kept.{Within}
use Rattle.meaning.specs.Plain.{Plain}
use Rattle.meaning.specs.Refusals.{first_of}
use Rattle.meaning.proofs.Arranged.{arranged-all, all-arranged}
use Rattle.meaning.proofs.Smallest.{smallest-is}
use Rattle.slots.specs.Rings.{Lists, first_marked}
use Rattle.slots.specs.Stand.{due_list}
use Rattle.slots.proofs.Standing.{FirstUsed, marked-first}
use Rattle.dial.specs.Joined.{listed, joins, step}
use Rattle.dial.specs.Shows.{cells_at}
use Rattle.dial.specs.Turns.{State, list_of, wake_at}
use Rattle.dial.proofs.Entering.{due-idle}
use Rattle.dial.proofs.FiredShown.{none-due, due-suc}
use Rattle.dial.proofs.ListTicks.{next-tick, first-low, first_some, none_ahead}
use Rattle.dial.proofs.TurnSteps.{first_slot, wake-at}
use Rattle.dial.proofs.Wakings.{wakes, Ahead, NextTick}
use Rattle.wheel.specs.Promise.{DialShows, Done, Promise}
use Rattle.dial.specs.declared.state.Dial.{Dial}
use Rattle.wheel.proofs.CallsShown.{done-by}

module _ (l : Lists) (d : Dial) (m : Plain) (s : DialShows l d m) where
  -- The plain list's answer is the one to give.
  answered : (x : Option ℕ) → next_wake 64 6 (listed m) ≡ x → Done NextWake m (Wakes x) l d
  unfolding step outcome causes first_of accepted joins
  answered x e = done-by NextWake m (Wakes x) l d (record { answer = Wakes (next_wake 64 6 (listed m)); next = m }) refl (ap Wakes (sym e)) s

  -- The lists and numbers as an advance has them.
  abbrev here : State
  here = record { lists = l; clock = d.clock; store = d.store; out = []; fired = 0; moves = 0 }

  -- Something is due: the clock is answered.
  due-wakes : l.due.first ≢ no_cell → Done NextWake m (Wakes (some d.clock)) l d
  unfolding next_wake listed
  due-wakes n =
      answered (some d.clock)
      (rw (ne_eqb (due_by m.clock (arranged m.entries)) 0 (λ e. omega (arith, due-suc here m s n))) (ap some (sym s.clock)))

  -- Nothing is due.
  module _ (idle : l.due.first ≡ no_cell) where
    -- All entries of the plain list are ahead,
    ahead : All (Ahead 64 6 m.clock) (arranged m.entries)
    unfolding listed
    ahead =
        let within : All (Within 64 6 m.clock) (arranged m.entries) = s.valid.timed.deadlines in
        let late : All (λ (e : Entry). m.clock ≤ e.key) m.entries =
        all-arranged (λ (e : Entry). m.clock ≤ e.key) m.entries (all_map (λ e p. p.late) (arranged m.entries) within) in
        all_map (λ e p. record { later = p.0; last = p.1.last }) (arranged m.entries)
        (all_both (λ (e : Entry). m.clock < e.key) (Within 64 6 m.clock) (arranged m.entries)
        (arranged-all (λ (e : Entry). m.clock < e.key) m.entries ((due-idle l d.clock d.store m s late).0 idle)) within)

    -- and the answer is the smallest of their wake ticks.
    smallest-wakes : next_wake 64 6 (listed m) ≡ smallest (map (wakes 64 6 m.clock) (arranged m.entries))
    unfolding next_wake listed
    smallest-wakes = rw (eq-eqb (due_by m.clock (arranged m.entries)) 0 (none-due here m s idle))

    module _ (i : ℕ) (marked : i ≡ first_marked l.marks) where
      -- The first marked slot is the first in which an entry stands,
      first : FirstUsed (cells_at m.clock m.entries) i
      first = rw marked (marked-first l (cells_at m.clock m.entries) s.lists)

      -- so none stands before it.
      low : All (λ (e : Entry). i ≤ list_of m.clock e.key) (arranged m.entries)
      low = arranged-all (λ (e : Entry). i ≤ list_of m.clock e.key) m.entries (first-low m.clock m.entries i first)

      -- No slot is marked: there is no entry, and none is answered.
      none-wakes : i ≡ due_list → Done NextWake m (Wakes none) l d
      unfolding smallest
      none-wakes e =
          answered none
          (smallest-wakes
          ∙ ap (λ (es : List Entry). smallest (map (wakes 64 6 m.clock) es)) (none_ahead m.clock (arranged m.entries) ahead (rw e at low)))

      module _ (slot : i < due_list) where
        -- The wake tick of that slot is the next.
        next : NextTick 64 6 m.clock (wake_at m.clock i) (arranged m.entries)
        next =
            next-tick m.clock i (arranged m.entries) ahead low
            (λ others.
            first_some m.clock m.entries i first slot
            (all-arranged (λ (e : Entry). list_of m.clock e.key ≢ i) m.entries others))

        -- It is the smallest of the wake ticks, and answered.
        slot-wakes : Done NextWake m (Wakes (some (wake_at d.clock i))) l d
        slot-wakes =
            let t : ℕ = wake_at m.clock i in
            answered (some (wake_at d.clock i))
            (smallest-wakes
            ∙ smallest-is t (map (wakes 64 6 m.clock) (arranged m.entries))
            (all-image (λ (x : ℕ). t ≤ x) (wakes 64 6 m.clock) (arranged m.entries) next.first)
            (λ others. next.some (all_read (λ (x : ℕ). x ≢ t) (wakes 64 6 m.clock) (arranged m.entries) others))
            ∙ ap (λ (c : ℕ). some (wake_at c i)) (sym s.clock))

-- Next wake leaves all, so its promise is in its answer, whatever model is shown.
promised : (l : Lists) (d : Dial) (a : Answer) → ((m : Plain) → DialShows l d m → Done NextWake m a l d) → Promise NextWake l d a l d
promised l d a shown = record { size = refl; tail = refl; shown = shown }

module _ (l : Lists) (d : Dial) where
  -- "the clock if the due list isn't empty"
  pub wakes-now : l.due.first ≢ no_cell → Promise NextWake l d (Wakes (some d.clock)) l d
  wakes-now n = promised l d (Wakes (some d.clock)) (λ m s. due-wakes l d m s n)

  module _ (idle : l.due.first ≡ no_cell) (i : ℕ) (marked : i ≡ first_marked l.marks) where
    -- "else *none*"
    pub wakes-never : i ≡ due_list → Promise NextWake l d (Wakes none) l d
    wakes-never e = promised l d (Wakes none) (λ m s. none-wakes l d m s idle i marked e)

    -- "else the smallest wake tick"
    pub wakes-later : (tick : ℕ) → i ≢ due_list → tick ≡ wake_answer d.clock (i / 64) (i % 64) → Promise NextWake l d (Wakes (some tick)) l d
    wakes-later tick n e =
        let slot : i < due_list = first_slot l.marks i marked n in
        rw (wake-at d.clock i tick slot e) (promised l d (Wakes (some (wake_at d.clock i))) (λ m s. slot-wakes l d m s idle i marked slot))
