-- A call of the wheel leaves a model that keeps to the rules: entries of equal deadline stand by rising order number, since a new or moved entry joins at the tail with the counter's number.
-- Assumes nothing.
use Prim.Native.Nat.{ℕ, zero, suc, ◌≤◌, ◌<◌}
use mathlib.Core.Bool.{Bool, true, false, cond}
use mathlib.Core.List.{List, [], ◌∷◌, ◌++◌}
use mathlib.Core.Path.{◌≡◌, sym, subst}
use Rattle.cells.specs.Lists.{All}
use Rattle.cells.proofs.Lists.{all_map, all_drop, all_both, all_append}
use Rattle.places.specs.Ticks.{last_tick}
use Rattle.meaning.specs.Entries.{Entry, names, without, earliest}
use Rattle.meaning.specs.Plain.{Plain, filed, refiled, Change, stays, files, refiles, frees, hands, apply}
use Rattle.meaning.specs.Arranged.{arranged}
use Rattle.meaning.specs.Calls.{Call, OfWheel, outcome, result}
use Rattle.meaning.specs.Kept.{Numbered, Kept, Within, Timed}
use Rattle.meaning.proofs.Handles.{all_without}
use Rattle.meaning.proofs.Arranged.{arranged-all}
use Rattle.meaning.proofs.Allowed.{Allowed, allowed}
use Rattle.meaning.proofs.Reached.{kept-apply}
use Rattle.meaning.proofs.Timed.{timed-call}
use Rattle.dial.specs.Joined.{listed, remaining, joins, Stable, Valid, step}
use Rattle.dial.proofs.Listed.{listed-all, listed-joins}

-- An entry with an order number above all others joins at the tail.
pub stable-append : (es : List Entry) (x : Entry) → All (λ (e : Entry). e.order < x.order) es → Stable es → Stable (es ++ (x ∷ []))
stable-append [] x a s = (tt, tt)
stable-append (e ∷ es) x a s =
    (all_append (λ (y : Entry). e.key ≡ y.key → e.order < y.order) es (x ∷ []) s.0 (λ q. a.0, tt), stable-append es x a.1 s.1)

-- An entry leaves.
pub stable-without : (c k : ℕ) (es : List Entry) → Stable es → Stable (without c k es)
unfolding without
stable-without c k [] s = tt
stable-without c k (e ∷ es) s = go (names c k e) (stable-without c k es s.1)
  where
    go : (t : Bool) → Stable (without c k es) → Stable (cond t es (e ∷ without c k es))
    go true r = s.1
    go false r = (all_without c k (λ (y : Entry). e.key ≡ y.key → e.order < y.order) es s.0, r)

-- The first k are handed out.
pub stable-remaining : (k : ℕ) (es : List Entry) → Stable es → Stable (remaining k es)
unfolding remaining
stable-remaining zero es s = s
stable-remaining (suc k) es s =
    let e : Entry = earliest (arranged es) in
    stable-remaining k (without e.cell e.ticket es) (stable-without e.cell e.ticket es s)

module _ (m : Plain) (kept : Kept (listed m)) where
  -- "each entry has 1 <= ticket <= order number < counter"
  pub joined-numbered : All (Numbered m.counter) m.entries
  unfolding listed
  joined-numbered = listed-all (Numbered m.counter) m kept.numbered

  -- The counter is above every order number.
  pub joined-older : All (λ (e : Entry). e.order < m.counter) m.entries
  joined-older = all_map (λ e h. h.taken) m.entries joined-numbered

  -- A change leaves entries of equal deadline by rising order number.
  pub stable-joins : (ch : Change) → Stable m.entries → Stable (joins ch m).entries
  unfolding joins filed refiled
  stable-joins stays s = s
  stable-joins (files key load) s = stable-append m.entries (filed key load m) joined-older s
  stable-joins (refiles c k key) s =
      stable-append (without c k m.entries) _
      (all_without c k (λ (e : Entry). e.order < m.counter) m.entries joined-older)
      (stable-without c k m.entries s)
  stable-joins (frees c k) s = stable-without c k m.entries s
  stable-joins (hands k t) s = stable-remaining k m.entries s

-- A change that the plain list allows, and that keeps the wheel's rules there, leaves a model by the rules.
pub valid-joins : (m : Plain) (ch : Change) → Valid m → Allowed ch (listed m) → Timed 64 6 (apply ch (listed m)) → Valid (joins ch m)
valid-joins m ch v a timed =
    let same : apply ch (listed m) ≡ listed (joins ch m) = sym (listed-joins m ch v.kept a) in
    record {
      kept = subst Kept same (kept-apply (listed m) v.kept ch a);
      timed = subst (Timed 64 6) same timed;
      stable = stable-joins m v.kept ch v.stable;
    }

-- A call of the wheel leaves a model by the rules.
pub valid-step : (call : Call) (m : Plain) → OfWheel call → Valid m → Valid (step call m).next
unfolding step result
valid-step call m w v =
    valid-joins m (outcome 64 6 call (listed m)).change v (allowed 64 6 (listed m) call)
    (timed-call 64 6 (listed m) v.kept v.timed call w)

-- The first k handed out at the clock leave a model by the rules.
pub valid-hands : (m : Plain) (k : ℕ) → Valid m → Valid (joins (hands k m.clock) m)
unfolding listed apply
valid-hands m k v =
    valid-joins m (hands k m.clock) v tt
    (record {
      clock = v.timed.clock;
      deadlines = all_drop (Within 64 6 m.clock) k (arranged m.entries) v.timed.deadlines;
    })

-- The model at another clock.
abbrev pub at_clock : Plain → ℕ → Plain
at_clock m t = record { entries = m.entries; clock = t; counter = m.counter; cells = m.cells; free = m.free }

-- The clock goes to any tick that no deadline is below.
pub valid-clock : (m : Plain) (t : ℕ) → Valid m → All (λ (e : Entry). t ≤ e.key) m.entries → t ≤ last_tick 64 6 → Valid (at_clock m t)
unfolding listed
valid-clock m t v late last =
    let within : All (λ (e : Entry). e.key ≤ last_tick 64 6) (arranged m.entries) = all_map (λ e h. h.last) (arranged m.entries) v.timed.deadlines in
    record {
      kept =
          record {
            ordered = v.kept.ordered;
            cells = v.kept.cells;
            numbered = v.kept.numbered;
            tickets = v.kept.tickets;
            orders = v.kept.orders;
            counted = v.kept.counted;
            counts = v.kept.counts;
            sized = v.kept.sized;
            fits = v.kept.fits;
          };
      timed =
          record {
            clock = last;
            deadlines =
                all_map (λ e h. record { late = h.0; last = h.1 }) (arranged m.entries)
                (all_both (λ (e : Entry). t ≤ e.key) (λ (e : Entry). e.key ≤ last_tick 64 6) (arranged m.entries)
                (arranged-all (λ (e : Entry). t ≤ e.key) m.entries late)
                within);
          };
      stable = v.stable;
    }
