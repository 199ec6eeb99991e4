-- What an entry's way through lent words comes to on the heap that stands in them: the same rise and sink, with as many steps.
-- Assumes nothing.
use Prim.Native.Nat.{ℕ, zero, suc, ◌+◌, ◌≤◌, ◌<◌}
use native.Mathlib.Nat.{zero-add}
use native.Mathlib.Omega.{arith}
use mathlib.Core.List.{List}
use mathlib.Core.Path.{◌≡◌, ◌∙◌}
use lib.ListN.{length}
use Rattle.cells.specs.Lists.{All}
use Rattle.cells.proofs.Cases.{test}
use Rattle.meaning.specs.Entries.{Entry}
use Rattle.meaning.specs.Heap.{at, parent, exchange, early, rise, earlier, child, sink, settle}
use Rattle.meaning.proofs.ByPosition.{all-at}
use Rattle.heap.specs.Seats.{Walk, seated, rise_walk, sink_walk, settle_walk}
use Rattle.heap.specs.Stands.{Stands, StandsBut, Ranks, Apart, Reseated}
use Rattle.heap.proofs.Positions.{parent-below}
use Rattle.heap.proofs.Exchanges.{length-exchange, at-exchange-second}
use Rattle.heap.proofs.Permutes.{early-above, earlier-filled}
use Rattle.heap.proofs.Children.{child-from, child-below}
use Rattle.heap.proofs.Paths.{risen, sunk, settled}
use Rattle.heap.proofs.Seating.{Hole, seat-reseats, reseats-on, cells-exchange, hole-fills, hole-steps}
use Rattle.heap.proofs.Choosing.{seat-known, child-known, rise-known, sink-known}

-- The walk in the words w comes to the heap g, in so many steps.
pub record Comes (h g : List Entry) (w : List ℕ) (steps : ℕ) (a : Walk) : Type 0 where
  pub stands : Stands a.words g
  pub reseated : Reseated h w a.words
  pub counted : a.steps ≡ steps

-- The walk ends: the entry that is carried takes the hole.
fills-comes : (i s n : ℕ) (h : List Entry) (w : List ℕ) → s ≡ n → i < length h → Hole i w h
    → Comes h h w n (record { words = seated w i (at h i).cell; steps = s })
fills-comes i s n h w e l o = record {
  stands = hole-fills i h w l o;
  reseated = seat-reseats h w i i l l;
  counted = e;
}

-- The walk goes on: the entry at q steps into the hole, and the rest is a walk from q.
steps-comes : (i q m n : ℕ) (h g : List Entry) (w : List ℕ) (a : Walk) → m ≡ n → i < length h → q < length h
    → Comes (exchange i q h) g (seated w i (at h q).cell) m a → Comes h g w n a
steps-comes i q m n h g w a e l k c = record {
  stands = c.stands;
  reseated = reseats-on h (exchange i q h) (length-exchange i q h) (cells-exchange i q h l k) (seat-reseats h w i q l k) c.reseated;
  counted = c.counted ∙ e;
}

-- A rise through words in which all but the hole stands.
rise-walks : (d k i s : ℕ) (h : List Entry) (w : List ℕ) → i < length h → Hole i w h
    → Comes h (rise d k i h) w (s + length (risen d k i h)) (rise_walk d (at h i).key (at h i).order (at h i).cell k i s w)
unfolding rise risen rise_walk
rise-walks d zero i s h w l o = fills-comes i s (s + 0) h w (omega arith) l o
rise-walks d (suc k) i s h w l o =
    test (early d i h)
    (λ e.
    let q : ℕ = parent d i in
    let up : q < i = parent-below d i (early-above d i h e) in
    let g : List Entry = exchange i q h in
    let filled : q < length h = omega arith in
    let inside : q < length g = rw (length-exchange i q h) filled in
    let next = rise-walks d k q (suc s) g (seated w i (at h q).cell) inside (hole-steps i q h w l filled o) in
    rw (rise-known h i w o d l, e, seat-known h i w o q filled (omega arith))
    (steps-comes i q (suc s + length (risen d k q g)) _ h _ w _ (omega arith) l filled (rw (at-exchange-second i q h filled) at next)))
    (λ e. rw (rise-known h i w o d l, e) (fills-comes i s (s + 0) h w (omega arith) l o))

module _ (d : ℕ) (some : 1 ≤ d) where
  -- A sink through words in which all but the hole stands.
  sink-walks : (k i s : ℕ) (h : List Entry) (w : List ℕ) → i < length h → Hole i w h
      → Comes h (sink d k i h) w (s + length (sunk d k i h)) (sink_walk d (length h) (at h i).key (at h i).order (at h i).cell k i s w)
  unfolding sink sunk sink_walk
  sink-walks zero i s h w l o = fills-comes i s (s + 0) h w (omega arith) l o
  sink-walks (suc k) i s h w l o =
      test (earlier h (child d i h) i)
      (λ e.
      let q : ℕ = child d i h in
      let down : i < q = child-below d some i h in
      let g : List Entry = exchange i q h in
      let filled : q < length h = earlier-filled h q i e in
      let inside : q < length g = rw (length-exchange i q h) filled in
      let next = sink-walks k q (suc s) g (seated w i (at h q).cell) inside (hole-steps i q h w l filled o) in
      rw (sink-known h i w o d some, e, child-known h i w o d some (omega (arith, child-from d i h)))
      (steps-comes i q (suc s + length (sunk d k q g)) _ h _ w _ (omega arith) l filled
      (rw (at-exchange-second i q h filled, length-exchange i q h) at next)))
      (λ e. rw (sink-known h i w o d some, e) (fills-comes i s (s + 0) h w (omega arith) l o))

-- A rise in the words comes to the rise of the heap that stands in them but for a hole at i, where the entry at i is carried.
pub rise-comes : (d k i s : ℕ) (h : List Entry) (w : List ℕ) → i < length h
    → StandsBut i w h → All (Ranks w) h → Apart w h
    → Comes h (rise d k i h) w (s + length (risen d k i h)) (rise_walk d (at h i).key (at h i).order (at h i).cell k i s w)
rise-comes d k i s h w l b r a = rise-walks d k i s h w l (record { but = b; ranks = r; apart = a })

-- A sink in the words comes to the sink of that heap.
pub sink-comes : (d k i s : ℕ) (h : List Entry) (w : List ℕ) → 1 ≤ d → i < length h
    → StandsBut i w h → All (Ranks w) h → Apart w h
    → Comes h (sink d k i h) w (s + length (sunk d k i h)) (sink_walk d (length h) (at h i).key (at h i).order (at h i).cell k i s w)
sink-comes d k i s h w some l b r a = sink-walks d some k i s h w l (record { but = b; ranks = r; apart = a })

-- An entry that settles in the words comes to where it settles in that heap.
pub settle-comes : (d i : ℕ) (h : List Entry) (w : List ℕ) → 1 ≤ d → i < length h
    → StandsBut i w h → All (Ranks w) h → Apart w h
    → Comes h (settle d i h) w (length (settled d i h)) (settle_walk d (length h) i (at h i).cell w)
unfolding settle settled settle_walk
settle-comes d i h w some l b r a =
    let o : Hole i w h = record { but = b; ranks = r; apart = a } in
    let m = all-at (Ranks w) h r i l in
    test (early d i h)
    (λ e. rw (m.key, m.order, rise-known h i w o d l, e) (rw zero-add at (rise-walks d i i 0 h w l o)))
    (λ e. rw (m.key, m.order, rise-known h i w o d l, e) (rw zero-add at (sink-walks d some (length h) i 0 h w l o)))
