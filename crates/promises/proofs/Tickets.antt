-- Tickets and order numbers never repeat; every ticket given out is handed back at most once, and stands until then.
-- Assumes nothing.
use Prim.Native.Nat.{ℕ, suc, ◌+◌, ◌≤◌}
use native.Mathlib.Omega.{arith}
use mathlib.Core.List.{List, [], ◌∷◌, ◌++◌, map}
use mathlib.Core.Path.{◌≡◌, ap}
use Rattle.cells.specs.Lists.{times, Rising}
use Rattle.cells.proofs.Cases.{at_most?}
use Rattle.cells.proofs.Lists.{all_map, times-append, rising-weaken, rising-above, rising-once}
use Rattle.meaning.specs.Entries.{named, without}
use Rattle.meaning.specs.Plain.{Plain, Change, stays, files, refiles, frees, hands, apply, filed, refiled}
use Rattle.meaning.specs.Calls.{Call, outcome, result}
use Rattle.meaning.specs.Runs.{after}
use Rattle.meaning.proofs.Orders.{times-insert}
use Rattle.meaning.proofs.Handles.{ticket_of, named-names, names-own, times-without}
use Rattle.meaning.specs.Kept.{Kept}
use Rattle.promises.specs.Tickets.{takes_order, gives_ticket, ends_tickets, over}
use Rattle.meaning.proofs.Allowed.{Allowed, allowed, found}
use Rattle.meaning.proofs.Kept.{split, unused}

-- A number that a change takes is the counter's, and the counter is then above it.
Draws : (Change → Plain → List ℕ) → Type 0
Draws f = (ch : Change) (s : Plain) (rest : List ℕ) → Rising (apply ch s).counter rest → Rising s.counter (f ch s ++ rest)

orders-draw : Draws takes_order
unfolding Draws takes_order apply
orders-draw stays s rest r = r
orders-draw (files key load) s rest r = (omega arith, r)
orders-draw (refiles c k key) s rest r = (omega arith, r)
orders-draw (frees c k) s rest r = r
orders-draw (hands m t) s rest r = r

tickets-draw : Draws gives_ticket
unfolding Draws gives_ticket apply
tickets-draw stays s rest r = r
tickets-draw (files key load) s rest r = (omega arith, r)
tickets-draw (refiles c k key) s rest r = rising-weaken s.counter (suc s.counter) rest (omega arith) r
tickets-draw (frees c k) s rest r = r
tickets-draw (hands m t) s rest r = r

drawn-rising : (f : Change → Plain → List ℕ) → Draws f → (b n : ℕ) (calls : List Call) (s : Plain) → Rising s.counter (over f b n calls s)
unfolding Draws over result
drawn-rising f d b n [] s = tt
drawn-rising f d b n (call ∷ calls) s =
    d (outcome b n call s).change s (over f b n calls (result b n call s).next) (drawn-rising f d b n calls (result b n call s).next)

-- Over any calls the order numbers taken rise from the counter on: none is taken twice.
pub orders-rise : (b n : ℕ) (calls : List Call) (s : Plain) → Rising s.counter (over takes_order b n calls s)
orders-rise b n calls s = drawn-rising takes_order orders-draw b n calls s

-- Over any calls the tickets given out rise from the counter on: none is given twice.
pub tickets-rise : (b n : ℕ) (calls : List Call) (s : Plain) → Rising s.counter (over gives_ticket b n calls s)
tickets-rise b n calls s = drawn-rising gives_ticket tickets-draw b n calls s

-- Tickets are conserved: what leaves and what stays is what stood and what was given out.
conserved-apply : (k : ℕ) (ch : Change) (s : Plain) → Allowed ch s
    → times k (ends_tickets ch s) + times k (map ticket_of (apply ch s).entries) ≡ times k (map ticket_of s.entries) + times k (gives_ticket ch s)
unfolding apply ends_tickets gives_ticket times filed refiled
conserved-apply k stays s a = omega arith
conserved-apply k (files key load) s a = omega (arith, times-insert k ticket_of (filed key load s) s.entries)
conserved-apply k (refiles c j key) s a =
    let (e, q) = found (named c j s.entries) a.0 in
    rw q
    (omega (
      arith,
      times-insert k ticket_of (refiled key s e) (without c j s.entries),
      times-without c j k ticket_of e s.entries q,
    ))
conserved-apply k (frees c j) s a =
    let (e, q) = found (named c j s.entries) a in
    omega (
      arith,
      times-without c j k ticket_of e s.entries q,
      ap (λ (x : ℕ). times k (x ∷ [])) (names-own c j e (named-names c j e s.entries q)).1,
    )
conserved-apply k (hands m t) s a = omega (arith, split ticket_of k m s.entries)

-- Over any calls: each ticket that stood or was given out has left once or still stands, as often as it stood or was given.
pub conserved : (b n k : ℕ) (calls : List Call) (s : Plain)
    → times k (over ends_tickets b n calls s) + times k (map ticket_of (after b n calls s).entries)
    ≡ times k (map ticket_of s.entries) + times k (over gives_ticket b n calls s)
unfolding over after result
conserved b n k [] s = unfold times in omega arith
conserved b n k (call ∷ calls) s =
    omega (
      arith,
      conserved b n k calls (result b n call s).next,
      conserved-apply k (outcome b n call s).change s (allowed b n s call),
      times-append k (ends_tickets (outcome b n call s).change s) (over ends_tickets b n calls (result b n call s).next),
      times-append k (gives_ticket (outcome b n call s).change s) (over gives_ticket b n calls (result b n call s).next),
    )

-- "Nothing fires .. twice": no ticket leaves twice, be it fired, taken, cancelled or removed, and none that has left still stands.
pub once : (b n k : ℕ) (calls : List Call) (s : Plain) → Kept s
    → times k (over ends_tickets b n calls s) + times k (map ticket_of (after b n calls s).entries) ≤ 1
once b n k calls s kept =
    at_most? s.counter k
    (λ h.
    omega (
      arith,
      conserved b n k calls s,
      rising-once k s.counter (over gives_ticket b n calls s) (tickets-rise b n calls s),
      unused k ticket_of s.entries (all_map (λ e w. omega (arith, w.rising, w.taken)) s.entries kept.numbered),
    ))
    (λ h.
    omega (
      arith,
      conserved b n k calls s,
      rising-above k s.counter (over gives_ticket b n calls s) h (tickets-rise b n calls s),
      kept.tickets k,
    ))
