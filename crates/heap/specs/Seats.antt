-- The heap in lent words, on any words whatever: word 6 of cell p is the cell at position p, word 5 of a cell in use its position.
-- Assumes nothing.
use Rattle.std.specs.Prelude.{ℕ, zero, suc, ◌+◌, ◌*◌, ◌-◌, Bool, cond, ◌&&◌, ◌||◌, List, leb, ltb, eqb}
use Rattle.cells.specs.Words.{word, put_word}
use Rattle.meaning.specs.Heap.{parent}
use Rattle.heap.specs.declared.seats.Seat.{Seat}

-- "Entry x is before y if its key or deadline is smaller, or equal with the smaller order number": of their keys and order numbers.
unfoldable pub ranked : ℕ → ℕ → ℕ → ℕ → Bool
ranked key order key' order' = ltb key key' || (eqb key key' && ltb order order')

-- Cell c takes position p, and "each entry knows its position".
abbrev pub seated : List ℕ → ℕ → ℕ → List ℕ
seated w p c = put_word (put_word w p 6 c) c 5 p

-- Cell c as it would stand at position p.
abbrev pub seat_with : List ℕ → ℕ → ℕ → Seat
seat_with w p c = record { position = p; cell = c; key = word w c 2; order = word w c 1 }

-- Who stands at position p.
unfoldable pub seat_at : List ℕ → ℕ → Seat
seat_at w p =
    record { position = p; cell = word w p 6; key = word w (word w p 6) 2; order = word w (word w p 6) 1 }

-- The earlier of two, the first where neither is before the other.
abbrev pub sooner : Seat → Seat → Seat
sooner a b = cond (ranked b.key b.order a.key a.order) b a

-- The earliest of one and of the m positions from q on.
unfoldable pub soonest : List ℕ → Seat → ℕ → ℕ → Seat
soonest w best q zero = best
soonest w best q (suc m) = soonest w (sooner best (seat_at w q)) (suc q) m

-- "its earliest child", of the positions from first up to d of them, as far as a heap of n reaches.
unfoldable pub first_child : ℕ → ℕ → List ℕ → ℕ → Seat
first_child d n w first = soonest w (seat_at w first) (suc first) (cond (ltb n (first + d)) (n - first - 1) (d - 1))

-- The words afterwards, and how many entries made room.
pub record Walk : Type 0 where
  pub words : List ℕ
  pub steps : ℕ

-- An entry with that key and order number is before its parent at p.
unfoldable pub may_rise : ℕ → ℕ → ℕ → ℕ → List ℕ → Bool
may_rise d key order p w =
    let q = seat_at w (parent d p) in
    ltb 0 p && ranked key order q.key q.order

-- Cell c "rises past each parent that it is before" from the hole at p. The first number, p at least, bounds the steps.
unfoldable pub rise_walk : ℕ → ℕ → ℕ → ℕ → ℕ → ℕ → ℕ → List ℕ → Walk
rise_walk d key order c zero p steps w = record { words = seated w p c; steps = steps }
rise_walk d key order c (suc k) p steps w =
    let up = rise_walk d key order c k (parent d p) (suc steps) (seated w p (seat_at w (parent d p)).cell) in
    cond (may_rise d key order p w) up (record { words = seated w p c; steps = steps })

-- The earliest child of p stands in a heap of n, and is before an entry with that key and order number.
unfoldable pub may_sink : ℕ → ℕ → ℕ → ℕ → ℕ → List ℕ → Bool
may_sink d n key order p w =
    let q = first_child d n w (d * p + 1) in
    ltb (d * p + 1) n && ranked q.key q.order key order

-- Cell c "sinks past its earliest child while that child is before it" from the hole at p. The first number, n at least, bounds the steps.
unfoldable pub sink_walk : ℕ → ℕ → ℕ → ℕ → ℕ → ℕ → ℕ → ℕ → List ℕ → Walk
sink_walk d n key order c zero p steps w = record { words = seated w p c; steps = steps }
sink_walk d n key order c (suc k) p steps w =
    let q = first_child d n w (d * p + 1) in
    let down = sink_walk d n key order c k q.position (suc steps) (seated w p q.cell) in
    cond (may_sink d n key order p w) down (record { words = seated w p c; steps = steps })

-- "it rises if it is before its parent, else it sinks", cell c at the hole p of a heap of n
unfoldable pub settle_walk : ℕ → ℕ → ℕ → ℕ → List ℕ → Walk
settle_walk d n p c w =
    cond (may_rise d (word w c 2) (word w c 1) p w)
    (rise_walk d (word w c 2) (word w c 1) c p p 0 w)
    (sink_walk d n (word w c 2) (word w c 1) c n p 0 w)

-- Where nothing is done.
abbrev pub standing : List ℕ → Walk
standing w = record { words = w; steps = 0 }

-- The entry that is carried counts too.
abbrev pub once_more : Walk → Walk
once_more a = record { words = a.words; steps = suc a.steps }

-- There is a heap of n with arity d and a position p in it: outside of that nothing is done, so that no call owes a bound.
unfoldable pub in_reach : ℕ → ℕ → ℕ → Bool
in_reach d n p = leb 1 d && leb d 8 && leb n 4096 && ltb p n

-- "Put: the entry goes to position n and rises past each parent that it is before."
unfoldable pub enter_walk : ℕ → ℕ → ℕ → List ℕ → Walk
enter_walk d n c w = cond (in_reach d (suc n) n) (rise_walk d (word w c 2) (word w c 1) c n n 0 w) (standing w)

-- "the last entry fills the hole"
unfoldable pub refill_walk : ℕ → ℕ → ℕ → List ℕ → Walk
refill_walk d n p w = once_more (settle_walk d (n - 1) p (word w (n - 1) 6) (put_word w (n - 1) 6 0))

-- "the last entry fills the hole (nothing to fill when the hole is last)": position p of a heap of n is left.
unfoldable pub vacate_walk : ℕ → ℕ → ℕ → List ℕ → Walk
vacate_walk d n p w =
    cond (in_reach d n p) (cond (eqb p (n - 1)) (standing (put_word w p 6 0)) (refill_walk d n p w)) (standing w)

-- None moves where an entry that settles makes no step, else it moves itself too.
abbrev pub count_self : Walk → Walk
count_self a = cond (eqb a.steps 0) a (once_more a)

-- "Rekey: rise, else sink, in the same way."
unfoldable pub resettle_walk : ℕ → ℕ → ℕ → ℕ → List ℕ → Walk
resettle_walk d n p c w = cond (in_reach d n p) (count_self (settle_walk d n p c w)) (standing w)
