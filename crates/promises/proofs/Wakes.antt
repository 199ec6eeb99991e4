-- Next wake: none exactly where nothing stands, else when the list of the earliest entry is looked at next.
-- Assumes nothing.
use Prim.Native.Nat.{ℕ, ◌≤◌, ◌<◌}
use native.Mathlib.Omega.{arith}
use mathlib.Core.Bool.{true}
use mathlib.Core.List.{List, [], ◌∷◌, map}
use mathlib.Core.Option.{none, some}
use mathlib.Core.Path.{◌≡◌, refl, sym, ap, ◌∙◌}
use borrow.Author.Tests.{eq-eqb, ne_eqb}
use Rattle.cells.specs.Lists.{All}
use Rattle.cells.proofs.Cases.{same?}
use Rattle.cells.proofs.Lists.{all_map, all_both}
use Rattle.places.specs.Ticks.{place, wake_of}
use Rattle.places.proofs.Digits.{tick-below}
use Rattle.places.proofs.Wakes.{wake-now, wake-mono}
use Rattle.meaning.specs.Entries.{Entry, before, Ordered}
use Rattle.meaning.specs.Plain.{Plain}
use Rattle.meaning.specs.Calls.{due_by, smallest, next_wake}
use Rattle.meaning.proofs.Orders.{before-at_most}
use Rattle.meaning.proofs.Due.{due-more, due-none}
use Rattle.meaning.proofs.Smallest.{smallest-is}
use Rattle.dial.proofs.Wakings.{wakes}
use Rattle.meaning.specs.Kept.{Within}

all-wakes : (b n t w : ℕ) (es : List Entry) → All (λ (e : Entry). w ≤ wakes b n t e) es → All (λ (y : ℕ). w ≤ y) (map (wakes b n t) es)
all-wakes b n t w [] a = tt
all-wakes b n t w (e ∷ es) a = (a.0, all-wakes b n t w es a.1)

pub wake-none : (b n : ℕ) (s : Plain) → s.entries ≡ [] → next_wake b n s ≡ none
unfolding next_wake smallest due_by
wake-none b n s q = rw q

-- "else the smallest wake tick": the earliest entry's.
pub wake-earliest : (b n : ℕ) (s : Plain) (e : Entry) (es : List Entry) → 0 < b → s.entries ≡ e ∷ es → Ordered (e ∷ es)
    → All (Within b n s.clock) (e ∷ es)
    → next_wake b n s ≡ some (wakes b n s.clock e)
unfolding next_wake
wake-earliest b n s e es positive q o w =
    same? s.clock e.key
    (λ d.
    rw q
    (rw (ne_eqb (due_by s.clock (e ∷ es)) 0 (λ z. omega (arith, due-more s.clock e es (omega arith))))
    (ap some (sym (wake-now b n s.clock) ∙ ap (λ (x : ℕ). wake_of b s.clock (place b n s.clock x)) d))))
    (λ d.
    rw q
    (rw (eq-eqb (due_by s.clock (e ∷ es)) 0 (due-none s.clock e es (omega (arith, w.0.late))))
    (smallest-is (wakes b n s.clock e) (map (wakes b n s.clock) (e ∷ es))
    (all-wakes b n s.clock (wakes b n s.clock e) (e ∷ es)
    (omega arith, later-wakes es (all_both (λ (x : Entry). before e x ≡ true) (Within b n s.clock) es o.0 w.1)))
    (λ others. others.0 refl))))
  where
    later-wakes : (xs : List Entry) → All (λ (x : Entry). (before e x ≡ true) × Within b n s.clock x) xs
        → All (λ (x : Entry). wakes b n s.clock e ≤ wakes b n s.clock x) xs
    later-wakes xs a =
        all_map
        (λ x h.
        wake-mono b n s.clock e.key x.key w.0.late (before-at_most e x h.0) (tick-below b n x.key positive h.1.last))
        xs a
