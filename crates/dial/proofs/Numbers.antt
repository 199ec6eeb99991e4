-- The number of the list in which an entry stands, and what becomes of it when the clock enters a wake tick.
-- Assumes nothing.
use Prim.Native.Nat.{ℕ, ◌+◌, ◌*◌, ◌/◌, ◌%◌, ◌^◌, ◌≤◌, ◌<◌}
use native.Mathlib.Nat.{mul-lt-mul_of_pos_right}
use native.Mathlib.Omega.{arith}
use mathlib.Core.Logic.{◌≢◌}
use mathlib.Core.Path.{◌≡◌, refl, sym, ap, ◌∙◌}
use lib.Dec.{eqb}
use borrow.Author.Tests.{eq-eqb, ne_eqb}
use Rattle.cells.proofs.Cases.{same?, at_most?}
use Rattle.places.specs.Ticks.{digit, level, place, wake_tick, wake_of}
use Rattle.places.proofs.Numbers.{power-positive}
use Rattle.places.proofs.Levels.{level-bound}
use Rattle.places.proofs.Wakes.{place-due, place-slot, wake-due, wake-later, lower-first, stands-still}
use Rattle.places.proofs.Cascades.{cascade-level}
use Rattle.slots.specs.Stand.{due_list}
use Rattle.dial.specs.Turns.{list_number, list_of, wake_at}

-- An entry whose deadline is the clock stands in the due list,
pub number-due : (t e : ℕ) → t ≡ e → list_of t e ≡ due_list
unfolding list_of list_number
number-due t e s = rw (s, place-due 64 6 e)

-- and any other in the list of its level and slot.
pub number-slot : (t e : ℕ) → t ≢ e → list_of t e ≡ level 64 6 t e * 64 + digit 64 (level 64 6 t e) e
unfolding list_of list_number
number-slot t e d = rw (place-slot 64 6 t e d)

-- There are 64 slots on a level,
digit-below : (p e : ℕ) → digit 64 p e < 64
unfolding digit
digit-below p e = omega arith

-- so that the number of a slot's list is below that of the due list,
pub number-below : (t e : ℕ) → t ≢ e → list_of t e < due_list
number-below t e d = omega (arith, number-slot t e d, level-bound 64 6 t e, digit-below (level 64 6 t e) e)

pub number-most : (t e : ℕ) → list_of t e ≤ due_list
number-most t e = same? t e (λ s. omega (arith, number-due t e s)) (λ d. omega (arith, number-below t e d))

-- and only an entry whose deadline is the clock stands in the due list.
pub due-test : (t e : ℕ) → eqb (list_of t e) due_list ≡ eqb e t
due-test t e =
    same? t e
    (λ s. eq-eqb (list_of t e) due_list (number-due t e s) ∙ sym (eq-eqb e t (sym s)))
    (λ d.
    ne_eqb (list_of t e) due_list (λ s. omega (arith, number-below t e d)) ∙ sym (ne_eqb e t (λ s. d (sym s))))

pub number-only : (t e : ℕ) → list_of t e ≡ due_list → t ≡ e
number-only t e q = same? t e (λ s. s) (λ d. absurd (omega (arith, number-below t e d)))

-- A list's number tells its level and slot, and so its wake tick.
pub wake-number : (t e : ℕ) → t ≢ e → wake_at t (list_of t e) ≡ wake_of 64 t (place 64 6 t e)
unfolding wake_at wake_of
wake-number t e d =
    let low : digit 64 (level 64 6 t e) e < 64 = digit-below (level 64 6 t e) e in
    let at : list_of t e / 64 ≡ level 64 6 t e = omega (arith, number-slot t e d) in
    let here : list_of t e % 64 ≡ digit 64 (level 64 6 t e) e = omega (arith, number-slot t e d) in
    rw (at, here, place-slot 64 6 t e d)

-- What an entry of deadline e is when list i, whose entries wake at t, was the first with entries at clock a:
pub data Turned (a t i e : ℕ) : Type 0 where
  -- it stood there and goes to a lower level, to a list of a lower number;
  lowers : list_of a e ≡ i → t < e → list_of t e < i → level 64 6 t e < level 64 6 a e → Turned a t i e
  -- it stood there and is due;
  falls : list_of a e ≡ i → t ≡ e → list_of t e ≡ due_list → Turned a t i e
  -- it stands in a list of a higher number, and stays there.
  waits : t < e → i < list_of a e → list_of a e < due_list → place 64 6 t e ≡ place 64 6 a e → Turned a t i e

module _ (a e : ℕ) (h : a < e) (he : e < 64 ^ 6) where
  -- The wake tick of an entry's list is later than the clock, and no later than its deadline.
  pub wake-after : a < wake_at a (list_of a e)
  wake-after = rw (wake-number a e (omega arith)) (wake-later 64 6 a e h he)

  pub wake-until : wake_at a (list_of a e) ≤ e
  wake-until = rw (wake-number a e (omega arith)) (wake-due 64 6 a e (omega arith) he)

  -- At its wake tick an entry of the list is due, or goes to a lower level.
  level-lower : wake_at a (list_of a e) < e → level 64 6 (wake_at a (list_of a e)) e < level 64 6 a e
  level-lower = rw (wake-number a e (omega arith)) (cascade-level 64 6 a e h he)

  wakes : Turned a (wake_at a (list_of a e)) (list_of a e) e
  wakes =
      let t : ℕ = wake_at a (list_of a e) in
      same? t e
      (λ s. falls refl s (number-due t e s))
      (λ d.
      let l : t < e = omega (arith, wake-until) in
      lowers refl l
      (omega (
        arith,
        number-slot a e (omega arith),
        number-slot t e d,
        level-lower l,
        digit-below (level 64 6 t e) e,
      ))
      (level-lower l))

-- Of two slots of a level the lower one wakes first,
wake-slots : (a i j : ℕ) → i / 64 ≡ j / 64 → i % 64 < j % 64 → 0 < 64 ^ (j / 64) → wake_at a i < wake_at a j
unfolding wake_at wake_tick
wake-slots a i j q l h = rw q (omega (arith, mul-lt-mul_of_pos_right l h))

module _ (a x e : ℕ) (hx : a < x) (lx : x < 64 ^ 6) (he : a < e) (le : e < 64 ^ 6) (l : list_of a x < list_of a e) where
  -- and of any two lists that of the lower number.
  pub wake-order : wake_at a (list_of a x) < wake_at a (list_of a e)
  wake-order =
      at_most? (level 64 6 a e) (level 64 6 a x)
      (λ k.
      wake-slots a (list_of a x) (list_of a e) (omega (arith, slots)) (omega (arith, slots))
      (power-positive 64 6 (list_of a e / 64) he le))
      (λ k.
      rw (wake-number a x (omega arith), wake-number a e (omega arith)) (lower-first 64 6 a x e he lx le k).0)
    where
      slots : (list_of a x ≡ level 64 6 a x * 64 + digit 64 (level 64 6 a x) x)
          × (digit 64 (level 64 6 a x) x < 64)
          × (list_of a e ≡ level 64 6 a e * 64 + digit 64 (level 64 6 a e) e)
          × (digit 64 (level 64 6 a e) e < 64)
      slots = (
        number-slot a x (omega arith),
        digit-below (level 64 6 a x) x,
        number-slot a e (omega arith),
        digit-below (level 64 6 a e) e,
      )

  -- So an entry of the higher one stays where it is when the lower one wakes.
  rests : Turned a (wake_at a (list_of a x)) (list_of a x) e
  rests =
      let t : ℕ = wake_at a (list_of a x) in
      let wakes-after : t < wake_of 64 a (place 64 6 a e) = rw (wake-number a e (omega arith)) at wake-order in
      waits (omega (arith, wake-order, wake-until a e he le)) l (number-below a e (omega arith))
      (stands-still 64 6 a t e (omega arith) le (omega (arith, wake-after a x hx lx)) wakes-after)

-- Where list i is the first with entries, and that of deadline x stands in it: what each entry is at its wake tick.
pub wake-turns : (a i x e : ℕ) → list_of a x ≡ i → a < x → x < 64 ^ 6 → a < e → e < 64 ^ 6 → i ≤ list_of a e → Turned a (wake_at a i) i e
wake-turns a i x e s hx lx he le l =
    same? (list_of a e) i
    (λ q. rw q at (wakes a e he le))
    (λ d. rw s at (rests a x e hx lx he le (omega arith)))

-- No deadline is before that tick.
pub turned-until : {a t i e : ℕ} → Turned a t i e → t ≤ e
turned-until (lowers s l k v) = omega arith
turned-until (falls s q k) = omega arith
turned-until (waits l k v q) = omega arith

-- An entry that stays keeps the number of its list.
pub number-stays : (a t e : ℕ) → place 64 6 t e ≡ place 64 6 a e → list_of t e ≡ list_of a e
unfolding list_of
number-stays a t e q = ap list_number q

-- It keeps its level.
pub level-stays : (a t e : ℕ) → a < e → t < e → place 64 6 t e ≡ place 64 6 a e → level 64 6 t e ≡ level 64 6 a e
level-stays a t e h l q =
    omega (
      arith,
      number-stays a t e q,
      number-slot a e (omega arith),
      number-slot t e (omega arith),
      digit-below (level 64 6 a e) e,
      digit-below (level 64 6 t e) e,
    )
