-- The moves that entering a wake tick makes are those that document 01 counts for an advance up to it.
-- Assumes nothing.
use Prim.Native.Nat.{ℕ, suc, ◌+◌, ◌^◌, ◌<◌}
use native.Mathlib.Omega.{arith}
use mathlib.Core.Bool.{Bool, true, false, cond}
use mathlib.Core.List.{List, [], ◌∷◌}
use mathlib.Core.Path.{◌≡◌, refl, sym, ◌∙◌}
use lib.Dec.{eqb}
use borrow.Author.Tests.{eq-eqb, ne_eqb}
use Rattle.cells.proofs.Lists.{all_map, all_both, sum_of-same}
use Rattle.cells.specs.Lists.{All, sum_of}
use Rattle.places.specs.Ticks.{place, wake_of, moves}
use Rattle.places.proofs.Counts.{left, moves-all, moves-part}
use Rattle.places.proofs.Cascades.{cascade-one, cascade-last}
use Rattle.meaning.specs.Entries.{Entry}
use Rattle.meaning.specs.Calls.{all_moves}
use Rattle.dial.specs.Turns.{list_of, wake_at}
use Rattle.dial.specs.Shows.{passing, standing}
use Rattle.dial.proofs.Numbers.{Turned, lowers, falls, waits, wake-number, level-stays}

-- A sum over the entries that pass a test is one over all, where the others count nothing.
sum_of-passing :
    (test : Entry → Bool) (f : Entry → ℕ) (es : List Entry)
    → sum_of f (passing test es) ≡ sum_of (λ (e : Entry). cond (test e) (f e) 0) es
unfolding sum_of passing
sum_of-passing test f [] = refl
sum_of-passing test f (e ∷ es) = go (test e) (sum_of-passing test f es)
  where
    go :
        (b : Bool)
        → sum_of f (passing test es) ≡ sum_of (λ (x : Entry). cond (test x) (f x) 0) es
        → sum_of f (cond b (e ∷ passing test es) (passing test es)) ≡ cond b (f e) 0 + sum_of (λ (x : Entry). cond (test x) (f x) 0) es
    go true more = omega arith
    go false more = omega arith

module _ (a t i e : ℕ) (late : a < t) (he : e < 64 ^ 6) (wakes : t ≡ wake_at a i) where
  -- The entries of list i wake at t.
  wake-here : a < e → list_of a e ≡ i → wake_of 64 a (place 64 6 a e) ≡ t
  wake-here h s = sym (wake-number a e (λ q. omega arith)) ∙ rw (s, wakes)

  -- One that goes to a lower level makes one move, one that is due none, and one that stays none.
  turned-moves : Turned a t i e → cond (eqb (list_of a e) i) (cond (eqb e t) 0 1) 0 ≡ moves 64 6 a t e
  turned-moves (lowers s l k v) =
      let woken : wake_of 64 a (place 64 6 a e) ≡ t = wake-here (omega arith) s in
      let one : left 64 6 a e ≡ suc (left 64 6 t e) =
      rw woken at (cascade-one 64 6 a e (omega arith) he (rw woken l)) in
      rw (eq-eqb (list_of a e) i s, ne_eqb e t (λ q. omega arith)) (omega (arith, one, moves-part 64 6 a t e (omega arith) (omega arith) he))
  turned-moves (falls s q k) =
      rw (eq-eqb (list_of a e) i s, eq-eqb e t (sym q))
      (omega (
        arith,
        moves-all 64 6 a t e (omega arith),
        cascade-last 64 6 a e (omega arith) he (wake-here (omega arith) s ∙ q),
      ))
  turned-moves (waits l k v q) =
      rw (ne_eqb (list_of a e) i (λ s. omega arith))
      (omega (arith, still, moves-part 64 6 a t e (omega arith) (omega arith) he))
    where
      still : left 64 6 t e ≡ left 64 6 a e
      still = unfold left in rw (level-stays a t e (omega arith) l q)

-- All together.
pub walked-moves :
    (a t i : ℕ) (es : List Entry)
    → a < t
    → t ≡ wake_at a i
    → All (λ (e : Entry). e.key < 64 ^ 6) es
    → All (λ (e : Entry). Turned a t i e.key) es
    → sum_of (λ (e : Entry). cond (eqb e.key t) 0 1) (standing a i es) ≡ all_moves 64 6 a t es
unfolding standing all_moves
walked-moves a t i es late wakes ticks all =
    sum_of-passing (λ (e : Entry). eqb (list_of a e.key) i) (λ (e : Entry). cond (eqb e.key t) 0 1) es
    ∙ sum_of-same (λ (e : Entry). cond (eqb (list_of a e.key) i) (cond (eqb e.key t) 0 1) 0)
    (λ (e : Entry). moves 64 6 a t e.key)
    es
    (all_map (λ e p. turned-moves a t i e.key late p.0 wakes p.1) es
    (all_both (λ (e : Entry). e.key < 64 ^ 6) (λ (e : Entry). Turned a t i e.key) es ticks all))
