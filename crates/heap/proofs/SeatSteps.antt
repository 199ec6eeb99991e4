-- The small functions over seats by cases: one law for each way out of a function or turn of a loop, from what its calls answer.
-- Assumes nothing.
use Prim.Native.Nat.{ℕ, zero, suc, ◌+◌, ◌-◌, ◌≤◌, ◌<◌}
use native.Mathlib.Omega.{arith}
use mathlib.Core.Bool.{cond}
use mathlib.Core.List.{List}
use mathlib.Core.Path.{◌≡◌}
use lib.Dec.{ltb}
use borrow.Author.Tests.{ltb-false}
use Rattle.cells.proofs.Cases.{by-arms}
use Rattle.heap.specs.declared.seats.Seat.{Seat}
use Rattle.heap.specs.Seats.{ranked, seat_at, sooner, soonest, first_child}

-- A seat knows its position.
pub seat-position : (w : List ℕ) (p : ℕ) (s : Seat) → s ≡ seat_at w p → s.position ≡ p
unfolding seat_at
seat-position w p s e = rw e

-- One position more is looked at, of the m from f on.
pub soonest-on : (w : List ℕ) (f m k : ℕ) (best s best' : Seat) → k < m → s ≡ seat_at w (f + k) → best' ≡ sooner best s
    → soonest w best (f + k) (m - k) ≡ soonest w best' (f + (k + 1)) (m - (k + 1))
unfolding soonest
soonest-on w f m k best s best' h i j =
    let more : m - k ≡ suc (m - (k + 1)) = omega arith in
    let next : f + (k + 1) ≡ suc (f + k) = omega arith in
    rw (more, next, j, i)

pub soonest-end : (w : List ℕ) (q m k : ℕ) (best : Seat) → m ≤ k → soonest w best q (m - k) ≡ best
unfolding soonest
soonest-end w q m k best h =
    let none : m - k ≡ 0 = omega arith in
    rw none

-- The earlier of two is one of them.
sooner-within : (f e : ℕ) (a b : Seat) → f ≤ a.position → a.position < e → f ≤ b.position → b.position < e
    → (f ≤ (sooner a b).position) × ((sooner a b).position < e)
unfolding sooner
sooner-within f e a b i j k l =
    by-arms (λ (s : Seat). (f ≤ s.position) × (s.position < e)) (ranked b.key b.order a.key a.order) b a (λ y. (k, l)) (λ y. (i, j))

-- The earliest is one of those looked at.
pub soonest-within : (w : List ℕ) (f e m q : ℕ) (best : Seat) → f ≤ best.position → best.position < e → f ≤ q → q + m ≤ e
    → (f ≤ (soonest w best q m).position) × ((soonest w best q m).position < e)
unfolding soonest seat_at
soonest-within w f e zero q best a b g h = (a, b)
soonest-within w f e (suc m) q best a b g h =
    let next = sooner-within f e best (seat_at w q) a b g (omega arith) in
    soonest-within w f e m (suc q) (sooner best (seat_at w q)) next.0 next.1 (omega arith) (omega arith)

-- The earliest child stands at the first or behind it, and in the heap.
pub child-within : (d n : ℕ) (w : List ℕ) (first : ℕ) → 1 ≤ d → first < n
    → (first ≤ (first_child d n w first).position) × ((first_child d n w first).position < n)
unfolding first_child seat_at
child-within d n w first some h =
    soonest-within w first n (cond (ltb n (first + d)) (n - first - 1) (d - 1)) (suc first) (seat_at w first) (omega arith) h (omega arith)
    (by-arms (λ (m : ℕ). suc first + m ≤ n) (ltb n (first + d)) (n - first - 1) (d - 1)
    (λ e. omega arith)
    (λ e. omega (arith, ltb-false n (first + d) e)))
