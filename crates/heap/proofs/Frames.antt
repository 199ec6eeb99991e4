-- No walk through lent words makes them more or fewer, or touches those past the last cell, whatever the words are.
-- Assumes nothing.
use Prim.Native.Nat.{ℕ, zero, suc, ◌+◌, ◌-◌, ◌*◌}
use mathlib.Core.List.{List}
use lib.Dec.{eqb}
use Rattle.cells.specs.Words.{word, put_word}
use Rattle.cells.proofs.Framed.{Framed, framed-none, framed-on, framed-put}
use Rattle.cells.proofs.Cases.{by-arms}
use Rattle.meaning.specs.Heap.{parent}
use Rattle.heap.specs.Seats.{
  Walk,
  seated,
  seat_at,
  first_child,
  may_rise,
  rise_walk,
  may_sink,
  sink_walk,
  settle_walk,
  standing,
  once_more,
  in_reach,
  enter_walk,
  refill_walk,
  vacate_walk,
  count_self,
  resettle_walk,
}
use Rattle.heap.proofs.Seating.{seated-size, seated-tail}

framed-seat : (w : List ℕ) (p c : ℕ) → Framed w (seated w p c)
framed-seat w p c = record { size = seated-size w p c; tail = seated-tail w p c }

module _ (d key order c : ℕ) where
  rise-framed : (k p s : ℕ) (w : List ℕ) → Framed w (rise_walk d key order c k p s w).words
  unfolding rise_walk
  rise-framed zero p s w = framed-seat w p c
  rise-framed (suc k) p s w =
      let e : ℕ = (seat_at w (parent d p)).cell in
      by-arms (λ (a : Walk). Framed w a.words) (may_rise d key order p w) _ _
      (λ t. framed-on w (seated w p e) _ (framed-seat w p e) (rise-framed k (parent d p) (suc s) (seated w p e)))
      (λ t. framed-seat w p c)

  sink-framed : (n k p s : ℕ) (w : List ℕ) → Framed w (sink_walk d n key order c k p s w).words
  unfolding sink_walk
  sink-framed n zero p s w = framed-seat w p c
  sink-framed n (suc k) p s w =
      let q = first_child d n w (d * p + 1) in
      by-arms (λ (a : Walk). Framed w a.words) (may_sink d n key order p w) _ _
      (λ t. framed-on w (seated w p q.cell) _ (framed-seat w p q.cell) (sink-framed n k q.position (suc s) (seated w p q.cell)))
      (λ t. framed-seat w p c)

settle-framed : (d n p c : ℕ) (w : List ℕ) → Framed w (settle_walk d n p c w).words
unfolding settle_walk
settle-framed d n p c w =
    by-arms (λ (a : Walk). Framed w a.words) (may_rise d (word w c 2) (word w c 1) p w) _ _
    (λ t. rise-framed d (word w c 2) (word w c 1) c p p 0 w)
    (λ t. sink-framed d (word w c 2) (word w c 1) c n n p 0 w)

pub enter-framed : (d n c : ℕ) (w : List ℕ) → Framed w (enter_walk d n c w).words
unfolding enter_walk standing
enter-framed d n c w =
    by-arms (λ (a : Walk). Framed w a.words) (in_reach d (suc n) n) _ _
    (λ t. rise-framed d (word w c 2) (word w c 1) c n n 0 w)
    (λ t. framed-none w)

pub vacate-framed : (d n p : ℕ) (w : List ℕ) → Framed w (vacate_walk d n p w).words
unfolding vacate_walk standing refill_walk once_more
vacate-framed d n p w =
    by-arms (λ (a : Walk). Framed w a.words) (in_reach d n p) _ _
    (λ t.
    by-arms (λ (a : Walk). Framed w a.words) (eqb p (n - 1)) _ _
    (λ u. framed-put w p 6 0)
    (λ u.
    framed-on w (put_word w (n - 1) 6 0) _ (framed-put w (n - 1) 6 0)
    (settle-framed d (n - 1) p (word w (n - 1) 6) (put_word w (n - 1) 6 0))))
    (λ t. framed-none w)

pub resettle-framed : (d n p c : ℕ) (w : List ℕ) → Framed w (resettle_walk d n p c w).words
unfolding resettle_walk standing count_self once_more
resettle-framed d n p c w =
    by-arms (λ (a : Walk). Framed w a.words) (in_reach d n p) _ _
    (λ t.
    by-arms (λ (a : Walk). Framed w a.words) (eqb (settle_walk d n p c w).steps 0) _ _
    (λ u. settle-framed d n p c w)
    (λ u. settle-framed d n p c w))
    (λ t. framed-none w)
