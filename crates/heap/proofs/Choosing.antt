-- The earliest child, looked for from the left among words: the same that the heap's steps find from the right.
-- Assumes nothing.
use Prim.Native.Nat.{ℕ, zero, suc, ◌+◌, ◌-◌, ◌*◌, ◌≤◌, ◌<◌}
use native.Mathlib.Omega.{arith}
use mathlib.Core.Bool.{false, cond}
use mathlib.Core.List.{List}
use mathlib.Core.Logic.{◌≢◌}
use mathlib.Core.Path.{◌≡◌, refl, sym, ap, ◌∙◌}
use lib.Dec.{ltb}
use lib.ListN.{length}
use borrow.Author.Tests.{ltb-true, ltb-false, lt-ltb, le-ltb}
use Rattle.cells.proofs.Cases.{test, at_most?}
use Rattle.meaning.specs.Entries.{Entry, before}
use Rattle.meaning.specs.Heap.{at, parent, early, earlier, earliest_of, child}
use Rattle.meaning.proofs.Orders.{before-trans}
use Rattle.heap.specs.declared.seats.Seat.{Seat}
use Rattle.heap.specs.Seats.{ranked, seat_at, sooner, soonest, first_child, may_rise, may_sink}
use Rattle.heap.specs.Stands.{Ranks}
use Rattle.meaning.proofs.Behind.{behind-trans}
use Rattle.meaning.proofs.ByPosition.{all-at}
use Rattle.heap.proofs.Positions.{parent-below, first-behind}
use Rattle.heap.proofs.Children.{earliest-among, earliest-filled, child-from, child-filled}
use Rattle.heap.proofs.Seating.{Hole}

-- Who stands at a position of a heap.
abbrev pub seat_of : List Entry → ℕ → Seat
seat_of h p = record { position = p; cell = (at h p).cell; key = (at h p).key; order = (at h p).order }

-- The earlier of two positions, the first where neither is before the other.
unfoldable choose : List Entry → ℕ → ℕ → ℕ
choose h a b = cond (before (at h b) (at h a)) b a

-- The earliest of one and of the m positions from q on, looked for from the left.
unfoldable chosen : List Entry → ℕ → ℕ → ℕ → ℕ
chosen h best q zero = best
chosen h best q (suc m) = chosen h (choose h best q) (suc q) m

module _ (h : List Entry) where
  -- Of three it does not matter which two are compared first.
  choose-assoc : (a b c : ℕ) → choose h (choose h a b) c ≡ choose h a (choose h b c)
  unfolding choose
  choose-assoc a b c =
      test (before (at h b) (at h a))
      (λ e.
      test (before (at h c) (at h b))
      (λ f. rw (e, f) (rw (before-trans (at h c) (at h b) (at h a) f e)))
      (λ f. rw (e, f) (rw e)))
      (λ e.
      test (before (at h c) (at h b))
      (λ f. rw (e, f))
      (λ f. rw (e, f) (rw (e, behind-trans (at h c) (at h b) (at h a) f e))))

  -- Where a position is filled, to be earlier is to be chosen.
  earlier-chosen : (q p : ℕ) → q < length h → cond (earlier h q p) q p ≡ choose h p q
  unfolding choose earlier
  earlier-chosen q p l = rw (lt-ltb q (length h) l)

  -- To compare one with each of some filled positions in turn is to compare it with their earliest.
  chosen-earliest : (m b p : ℕ) → p + m < length h → chosen h b p (suc m) ≡ choose h b (earliest_of m p h)
  unfolding chosen earliest_of
  chosen-earliest zero b p l = refl
  chosen-earliest (suc m) b p l =
      let q : ℕ = earliest_of m (suc p) h in
      chosen-earliest m (choose h b p) (suc p) (omega arith)
      ∙ choose-assoc b p q
      ∙ ap (choose h b) (sym (earlier-chosen q p (earliest-filled m (suc p) h (omega arith))))

  -- From the left and from the right the earliest of filled positions is the same.
  chosen-first : (m p : ℕ) → p + m < length h → chosen h p (suc p) m ≡ earliest_of m p h
  chosen-first zero p l = unfold chosen earliest_of in refl
  chosen-first (suc m) p l =
      let q : ℕ = earliest_of m (suc p) h in
      chosen-earliest m p (suc p) (omega arith)
      ∙ sym (unfold earliest_of in earlier-chosen q p (earliest-filled m (suc p) h (omega arith)))

  -- Positions that are not filled are not looked at.
  earliest-short : (j m p : ℕ) → suc (p + j) ≡ length h → j ≤ m → earliest_of m p h ≡ earliest_of j p h
  unfolding earliest_of
  earliest-short zero zero p e l = refl
  earliest-short zero (suc m) p e l =
      let q : ℕ = earliest_of m (suc p) h in
      rw (behind-last q p (omega (arith, (earliest-among m (suc p) h).0)))
    where
      behind-last : (q p : ℕ) → length h ≤ q → earlier h q p ≡ false
      behind-last q p b = unfold earlier in rw (le-ltb q (length h) b)
  earliest-short (suc j) zero p e l = absurd (omega arith)
  earliest-short (suc j) (suc m) p e l = rw (earliest-short j m (suc p) (omega arith) (omega arith))

  -- The earlier of two that stand in the heap is who stands at the earlier position.
  sooner-known : (a b : ℕ) → sooner (seat_of h a) (seat_of h b) ≡ seat_of h (choose h a b)
  unfolding sooner choose ranked before
  sooner-known a b = test (before (at h b) (at h a)) (λ e. rw e) (λ e. rw e)

  module _ (i : ℕ) (w : List ℕ) (o : Hole i w h) where
    -- The words say who stands at a filled position that is not the hole.
    pub seat-known : (p : ℕ) → p < length h → p ≢ i → seat_at w p ≡ seat_of h p
    unfolding seat_at
    seat-known p l n =
        let e = o.but.table p l n in
        let r = all-at (Ranks w) h o.ranks p l in
        rw (e, r.key, r.order)

    -- The earliest of one and of the m positions from q on, none of them the hole.
    soonest-known : (m b q : ℕ) → q + m ≤ length h → i < q → soonest w (seat_of h b) q m ≡ seat_of h (chosen h b q m)
    unfolding soonest chosen
    soonest-known zero b q l n = refl
    soonest-known (suc m) b q l n =
        rw (seat-known q (omega arith) (omega arith), sooner-known b q)
        (soonest-known m (choose h b q) (suc q) (omega arith) (omega arith))

    -- The earliest of filled positions behind the hole.
    among-known : (m p : ℕ) → p + m < length h → i < p → soonest w (seat_at w p) (suc p) m ≡ seat_of h (earliest_of m p h)
    among-known m p l n =
        rw (seat-known p (omega arith) (omega arith))
        (soonest-known m p (suc p) (omega arith) (omega arith) ∙ ap (seat_of h) (chosen-first m p l))

    module _ (d : ℕ) (some : 1 ≤ d) where
      -- The earliest child of the hole, where it has one.
      pub child-known : d * i + 1 < length h → first_child d (length h) w (d * i + 1) ≡ seat_of h (child d i h)
      unfolding first_child child
      child-known l =
          let first : ℕ = d * i + 1 in
          let n : ℕ = length h in
          test (ltb n (first + d))
          (λ e.
          let cut : n < first + d = ltb-true n (first + d) e in
          rw e
          (among-known (n - first - 1) first (omega arith) (first-behind d some i)
          ∙ ap (seat_of h) (sym (earliest-short (n - first - 1) (d - 1) first (omega arith) (omega arith)))))
          (λ e.
          let full : first + d ≤ n = ltb-false n (first + d) e in
          rw e (among-known (d - 1) first (omega arith) (first-behind d some i)))

      -- The words say whether an entry sinks from the hole.
      pub sink-known : may_sink d (length h) (at h i).key (at h i).order i w ≡ earlier h (child d i h) i
      unfolding may_sink earlier ranked before
      sink-known =
          at_most? (length h) (d * i + 1)
          (λ l.
          let off : length h ≤ child d i h = omega (arith, child-from d i h) in
          rw (le-ltb (d * i + 1) (length h) l, le-ltb (child d i h) (length h) off))
          (λ l. rw (lt-ltb (d * i + 1) (length h) l, lt-ltb (child d i h) (length h) (child-filled d i h l), child-known l))

    -- The words say whether an entry rises from the hole.
    pub rise-known : (d : ℕ) → i < length h → may_rise d (at h i).key (at h i).order i w ≡ early d i h
    unfolding may_rise early ranked before
    rise-known d l =
        at_most? i 0
        (λ z. rw (le-ltb 0 i z))
        (λ z.
        let up : parent d i < i = parent-below d i z in
        rw (seat-known (parent d i) (omega arith) (omega arith)))
