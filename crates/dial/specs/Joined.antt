-- What audited memory of a wheel is: a plain list but for its order, since here entries stand in the order in which they joined.
-- Assumes nothing.
use Rattle.std.specs.Prelude.{ℕ, zero, suc, ◌<◌, ◌≡◌, take}
use mathlib.Core.List.{List, [], ◌∷◌, ◌++◌, tail}
use Rattle.std.proofs.Math.Option.{get_or}
use Rattle.cells.specs.Lists.{All}
use Rattle.meaning.specs.Entries.{Entry, named, without, nobody, earliest}
use Rattle.meaning.specs.Plain.{Plain, onto, filed, refiled, Change, stays, files, refiles, frees, hands}
use Rattle.meaning.specs.Arranged.{arranged}
use Rattle.meaning.specs.Calls.{Call, Answer, outcome}
use Rattle.meaning.specs.Kept.{Kept, Timed}

-- The plain list of the same entries.
unfoldable pub listed : Plain → Plain
listed m =
    record { entries = arranged m.entries; clock = m.clock; counter = m.counter; cells = m.cells; free = m.free }

-- "the first r are handed out": the entry before all others leaves, k times.
unfoldable pub remaining : ℕ → List Entry → List Entry
remaining zero es = es
remaining (suc k) es =
    let e = earliest (arranged es) in
    remaining k (without e.cell e.ticket es)

-- "New, moved and cascaded entries join at the tail": what a change of the plain list does to entries in this order.
unfoldable pub joins : Change → Plain → Plain
joins stays m = m
joins (files key load) m =
    record {
      entries = m.entries ++ (filed key load m ∷ []);
      clock = m.clock;
      counter = suc m.counter;
      cells = m.cells;
      free = tail m.free;
    }
joins (refiles c k key) m =
    record {
      entries = without c k m.entries ++ (refiled key m (get_or (named c k m.entries) nobody) ∷ []);
      clock = m.clock;
      counter = suc m.counter;
      cells = m.cells;
      free = m.free;
    }
joins (frees c k) m =
    record { entries = without c k m.entries; clock = m.clock; counter = m.counter; cells = m.cells; free = c ∷ m.free }
joins (hands k t) m =
    record {
      entries = remaining k m.entries;
      clock = t;
      counter = m.counter;
      cells = m.cells;
      free = onto (take k (arranged m.entries)) m.free;
    }

-- "in one list, entries of equal deadline stand by rising order number": equal deadlines stand in one list.
abbrev pub Stable : List Entry → Type 0
Stable [] = Unit {0}
Stable (x ∷ xs) = All (λ (y : Entry). x.key ≡ y.key → x.order < y.order) xs × Stable xs

-- The plain list keeps to the rules.
pub record Valid (m : Plain) : Type 0 where
  pub kept : Kept (listed m)
  pub timed : Timed 64 6 (listed m)
  pub stable : Stable m.entries

-- What a call answers, and the model afterwards: the plain list's outcome, and its change.
pub record Step : Type 0 where
  pub answer : Answer
  pub next : Plain

unfoldable pub step : Call → Plain → Step
step call m =
    record { answer = (outcome 64 6 call (listed m)).answer; next = joins (outcome 64 6 call (listed m)).change m }
