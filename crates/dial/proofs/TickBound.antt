-- How many wake ticks an advance can enter: each of them brings an entry to a lower level, or makes it due.
-- Assumes nothing.
use Prim.Native.Nat.{ℕ, suc, ◌+◌, ◌*◌, ◌^◌, ◌≤◌, ◌<◌}
use native.Mathlib.Omega.{arith}
use mathlib.Core.Bool.{cond}
use mathlib.Core.List.{List, [], ◌∷◌}
use mathlib.Core.Logic.{◌≢◌}
use mathlib.Core.Path.{◌≡◌, sym, ap, ◌∙◌}
use lib.Dec.{eqb}
use lib.ListN.{length, take, drop, take-append-drop}
use borrow.Author.Tests.{eq-eqb, ne_eqb}
use Rattle.cells.specs.Lists.{All, sum_of}
use Rattle.cells.proofs.Cases.{same?}
use Rattle.cells.proofs.Lists.{all_map, all_both, all-every, sum_of-append, sum_of-bound}
use Rattle.places.specs.Ticks.{level, place, wake_of}
use Rattle.places.proofs.Digits.{tick-below}
use Rattle.places.proofs.Levels.{level-below, level-falls}
use Rattle.places.proofs.Wakes.{wake-due}
use Rattle.places.proofs.Cascades.{cascade-level}
use Rattle.meaning.specs.Entries.{Entry}
use Rattle.dial.proofs.Wakings.{wakes, Ahead, NextTick}

-- At how many ticks a deadline may wake from clock a on: once at its level, and once at each lower one.
unfoldable pub wakings_left : ℕ → ℕ → ℕ → ℕ → ℕ
wakings_left b n a e = cond (eqb e a) 0 (suc (level b n a e))

-- The same of all entries.
unfoldable pub all_wakings : ℕ → ℕ → ℕ → List Entry → ℕ
all_wakings b n a es = sum_of (λ (e : Entry). wakings_left b n a e.key) es

-- A deadline that is the clock does not wake any more,
wakings-due : (b n a e : ℕ) → e ≡ a → wakings_left b n a e ≡ 0
unfolding wakings_left
wakings-due b n a e q = rw (eq-eqb e a q)

-- and any other does as often as it has levels to go.
wakings-ahead : (b n a e : ℕ) → e ≢ a → wakings_left b n a e ≡ suc (level b n a e)
unfolding wakings_left
wakings-ahead b n a e d = rw (ne_eqb e a d)

-- At most one for each level.
wakings-bound : (b n a e : ℕ) → 0 < n → wakings_left b n a e ≤ n
wakings-bound b n a e h =
    same? e a
    (λ q. omega (arith, wakings-due b n a e q))
    (λ d. omega (arith, wakings-ahead b n a e d, level-below b n a e h))

-- At most n for each entry.
pub all_wakings-bound : (b n a : ℕ) (es : List Entry) → 0 < n → all_wakings b n a es ≤ n * length es
unfolding all_wakings
all_wakings-bound b n a es h =
    sum_of-bound (λ (e : Entry). wakings_left b n a e.key) n es
    (all-every (λ (e : Entry). wakings_left b n a e.key ≤ n) (λ e. wakings-bound b n a e.key h) es)

-- Numbers at most others have a sum at most theirs,
sum_of-most : (f g : Entry → ℕ) (es : List Entry) → All (λ (e : Entry). f e ≤ g e) es → sum_of f es ≤ sum_of g es
unfolding sum_of
sum_of-most f g [] a = omega arith
sum_of-most f g (e ∷ es) a = omega (arith, a.0, sum_of-most f g es a.1)

-- and a lower one, if not all are equal.
sum_of-falls :
    (f g : Entry → ℕ) (es : List Entry)
    → All (λ (e : Entry). f e ≤ g e) es
    → (All (λ (e : Entry). f e ≡ g e) es → ⊥)
    → sum_of f es < sum_of g es
unfolding sum_of
sum_of-falls f g [] a some = absurd (some tt)
sum_of-falls f g (e ∷ es) a some =
    let rest : (f e ≡ g e) → sum_of f es < sum_of g es = λ q. sum_of-falls f g es a.1 (λ others. some (q, others)) in
    same? (f e) (g e)
    (λ q. omega (arith, rest q))
    (λ d. omega (arith, a.0, sum_of-most f g es a.1))

module _ (b n a t e : ℕ) (h : a < e) (he : e < b ^ n) (l : a ≤ t) (k : t ≤ wake_of b a (place b n a e)) where
  -- From a wake tick on an entry wakes no more often,
  wakings-most : wakings_left b n t e ≤ wakings_left b n a e
  wakings-most =
      same? e t
      (λ q. omega (arith, wakings-due b n t e q))
      (λ d.
      omega (
        arith,
        wakings-ahead b n t e d,
        wakings-ahead b n a e (omega arith),
        level-falls b n a t e l (omega (arith, wake-due b n a e (omega arith) he)) he,
      ))

  -- and less often, if it wakes then.
  wakings-less : wake_of b a (place b n a e) ≡ t → wakings_left b n t e < wakings_left b n a e
  wakings-less s =
      same? e t
      (λ q. omega (arith, wakings-due b n t e q, wakings-ahead b n a e (omega arith)))
      (λ d.
      let below : t < e = omega (arith, wake-due b n a e (omega arith) he) in
      let lower : level b n t e < level b n a e = rw s at (cascade-level b n a e h he (omega arith)) in
      omega (arith, wakings-ahead b n t e d, wakings-ahead b n a e (omega arith)))

-- From the next wake tick on the entries together wake less often.
all_wakings-next :
    (b n a t : ℕ) (es : List Entry)
    → 0 < b
    → All (Ahead b n a) es
    → NextTick b n a t es
    → all_wakings b n t es < all_wakings b n a es
unfolding all_wakings
all_wakings-next b n a t es positive ahead next =
    sum_of-falls
    (λ (e : Entry). wakings_left b n t e.key)
    (λ (e : Entry). wakings_left b n a e.key)
    es
    (all_map (λ e w. wakings-most b n a t e.key w.0.later (inside e w.0) later w.1) es both)
    (λ same.
    next.some
    (all_map
    (λ e w q. omega (arith, w.1, wakings-less b n a t e.key w.0.0.later (inside e w.0.0) later w.0.1 q))
    es
    (all_both
    (λ (e : Entry). Ahead b n a e × (t ≤ wakes b n a e))
    (λ (e : Entry). wakings_left b n t e.key ≡ wakings_left b n a e.key)
    es both same)))
  where
    later : a ≤ t
    later = omega (arith, next.later)

    inside : (e : Entry) → Ahead b n a e → e.key < b ^ n
    inside e w = tick-below b n e.key positive w.last

    both : All (λ (e : Entry). Ahead b n a e × (t ≤ wakes b n a e)) es
    both = all_both (Ahead b n a) (λ (e : Entry). t ≤ wakes b n a e) es ahead next.first

-- Nothing is lost where a list is cut in two.
all_wakings-parts : (b n a j : ℕ) (es : List Entry) → all_wakings b n a es ≡ all_wakings b n a (take j es) + all_wakings b n a (drop j es)
unfolding all_wakings
all_wakings-parts b n a j es =
    ap (sum_of (λ (e : Entry). wakings_left b n a e.key)) (sym (take-append-drop j es))
    ∙ sum_of-append (λ (e : Entry). wakings_left b n a e.key) (take j es) (drop j es)

-- So it is where the first j, that were due, are gone.
pub all_wakings-falls :
    (b n a t j : ℕ) (es : List Entry)
    → 0 < b
    → All (Ahead b n a) (drop j es)
    → NextTick b n a t (drop j es)
    → all_wakings b n t (drop j es) < all_wakings b n a es
all_wakings-falls b n a t j es positive ahead next =
    omega (arith, all_wakings-parts b n a j es, all_wakings-next b n a t (drop j es) positive ahead next)
