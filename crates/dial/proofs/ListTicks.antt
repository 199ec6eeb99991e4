-- The numbers of the lists go with their wake ticks: the first list that holds an entry is the one that wakes next.
-- Assumes nothing.
use Prim.Native.Nat.{ℕ, ◌^◌, ◌≤◌, ◌<◌}
use native.Mathlib.Omega.{arith}
use mathlib.Core.Bool.{true}
use mathlib.Core.List.{List, [], ◌∷◌}
use mathlib.Core.Logic.{◌≢◌}
use mathlib.Core.Path.{◌≡◌, refl, sym, ap, ◌∙◌}
use lib.Dec.{eqb}
use borrow.Author.Tests.{ne_eqb}
use Rattle.cells.specs.Lists.{All}
use Rattle.cells.proofs.Cases.{same?, clash}
use Rattle.cells.proofs.Lists.{all_map, all_both}
use Rattle.places.specs.Ticks.{place, wake_of}
use Rattle.places.proofs.Digits.{tick-below}
use Rattle.slots.specs.Stand.{due_list, has_cells}
use Rattle.slots.proofs.Standing.{FirstUsed}
use Rattle.meaning.specs.Entries.{Entry}
use Rattle.dial.specs.Turns.{list_of, wake_at}
use Rattle.dial.specs.Shows.{passing, standing, cells_at}
use Rattle.dial.proofs.Wakings.{wakes, Ahead, NextTick}
use Rattle.dial.proofs.Numbers.{number-below, wake-number, wake-after, wake-order}
use Rattle.dial.proofs.Passing.{passing-empty, none_below, no-entries}

-- List i, in which a deadline x stands at clock a.
module _ (a i x : ℕ) (h : a < x) (hx : x < 64 ^ 6) (there : list_of a x ≡ i) where
  -- It wakes after the clock,
  tick-later : a < wake_at a i
  tick-later = rw (← there) (wake-after a x h hx)

  -- and no later than what stands in lists with numbers as high.
  tick-least : (e : ℕ) → a < e → e < 64 ^ 6 → i ≤ list_of a e → wake_at a i ≤ wake_of 64 a (place 64 6 a e)
  tick-least e l he k =
      same? i (list_of a e)
      (λ q. omega (arith, wake-number a e (omega arith), ap (wake_at a) q))
      (λ d. omega (arith, wake-number a e (omega arith), ap (wake_at a) there, wake-order a x e h hx l he (omega arith)))

-- Where not all entries have another number, one has that number; what holds of all holds of it.
pub one_has :
    (P : Entry → Type 0) (f : Entry → ℕ) (i : ℕ) (es : List Entry)
    → All P es
    → (All (λ (e : Entry). f e ≢ i) es → ⊥)
    → (e : Entry) × (P e × (f e ≡ i))
one_has P f i [] a some = absurd (some tt)
one_has P f i (e ∷ es) a some =
    same? (f e) i (λ q. (e, (a.0, q))) (λ d. one_has P f i es a.1 (λ others. some (d, others)))

-- The first list in which an entry stands.
module _
    (a i : ℕ)
    (es : List Entry)
    (ahead : All (Ahead 64 6 a) es)
    (first : All (λ (e : Entry). i ≤ list_of a e.key) es)
    (some : All (λ (e : Entry). list_of a e.key ≢ i) es → ⊥)
  where
    -- An entry of that list.
    one : (e : Entry) × (Ahead 64 6 a e × (list_of a e.key ≡ i))
    one = one_has (Ahead 64 6 a) (λ (e : Entry). list_of a e.key) i es ahead some

    -- All that is known of each entry.
    both : All (λ (e : Entry). Ahead 64 6 a e × (i ≤ list_of a e.key)) es
    both = all_both (Ahead 64 6 a) (λ (e : Entry). i ≤ list_of a e.key) es ahead first

    -- Deadlines have six digits.
    inside : (e : Entry) → Ahead 64 6 a e → e.key < 64 ^ 6
    inside e w = tick-below 64 6 e.key (omega arith) w.last

    -- Its wake tick is the next one.
    pub next-tick : NextTick 64 6 a (wake_at a i) es
    next-tick =
        let x : Entry = one.0 in
        record {
          later = tick-later a i x.key one.1.0.later (inside x one.1.0) one.1.1;
          first =
              all_map
              (λ e w.
              tick-least a i x.key one.1.0.later (inside x one.1.0) one.1.1 e.key w.0.later (inside e w.0) w.1)
              es both;
          some =
              λ others.
              some
              (all_map (λ e w q. w.1 (sym (wake-number a e.key (omega (arith, w.0.later))) ∙ ap (wake_at a) q)) es
              (all_both (Ahead 64 6 a) (λ (e : Entry). wakes 64 6 a e ≢ wake_at a i) es ahead others));
        }

module _ (a : ℕ) where
  -- Some entry stands in a list with cells.
  stands-some : (i : ℕ) (es : List Entry) → has_cells (cells_at a es i) ≡ true → All (λ (e : Entry). list_of a e.key ≢ i) es → ⊥
  unfolding standing passing has_cells
  stands-some i [] h others = clash h refl
  stands-some i (e ∷ es) h others =
      stands-some i es (rw (ne_eqb (list_of a e.key) i others.0) at h) others.1

  module _ (es : List Entry) (i : ℕ) (first : FirstUsed (cells_at a es) i) where
    -- No entry stands in a list before the first that is not empty,
    pub first-low : All (λ (e : Entry). i ≤ list_of a e.key) es
    unfolding standing
    first-low =
        none_below (λ (e : Entry). list_of a e.key) i es
        (λ j k.
        passing-empty (λ (e : Entry). eqb (list_of a e.key) j) es (no-entries (standing a j es) (first.below j k)))

    -- and some entry stands in that list.
    pub first_some : i < due_list → All (λ (e : Entry). list_of a e.key ≢ i) es → ⊥
    first_some l = stands-some i es (first.there l)

-- Where no slot holds an entry, there is none ahead.
pub none_ahead :
    (a : ℕ) (es : List Entry)
    → All (Ahead 64 6 a) es
    → All (λ (e : Entry). due_list ≤ list_of a e.key) es
    → es ≡ []
none_ahead a [] ahead low = refl
none_ahead a (e ∷ es) ahead low = absurd (omega (arith, low.0, number-below a e.key (omega (arith, ahead.0.later))))
