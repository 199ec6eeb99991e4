-- The tests of the wheel's arrays and lists decide the rules of its lists.
-- Assumes nothing.
use Prim.Native.Nat.{ℕ, zero, suc, ◌+◌, ◌-◌, ◌*◌, ◌/◌, ◌^◌, ◌≤◌, ◌<◌}
use native.Mathlib.Omega.{arith}
use mathlib.Core.Bool.{Bool, true, false, cond, not, ◌&&◌}
use mathlib.Core.List.{List}
use mathlib.Core.Path.{◌≡◌, refl, sym, ap, ◌∙◌}
use lib.Dec.{leb, ltb, eqb}
use lib.ListN.{length, get_or, length-append, get_or-eq_default}
use borrow.Author.Tests.{leb-true, le-leb, lt-ltb, ltb-true, eqb-true, eq-eqb}
use Rattle.cells.specs.Lists.{times}
use Rattle.cells.specs.Words.{word}
use Rattle.cells.specs.Stack.{no_cell, is_free, frees}
use Rattle.cells.specs.Rules.{in_use}
use Rattle.audits.specs.AuditTests.{all_below}
use Rattle.cells.proofs.Cases.{test, at_most?, clash, and-true}
use Rattle.audits.proofs.Below.{below_each, each_below}
use Rattle.cells.proofs.Sums.{all-standing}
use Rattle.cells.proofs.Chains.{chain-once}
use Rattle.cells.proofs.Used.{in-use-free, not-free-used}
use Rattle.places.specs.Ticks.{last_tick}
use Rattle.slots.specs.Rings.{Lists, next, previous, ends_of, slot_marked}
use Rattle.slots.specs.Stand.{due_list, RingOf, ends_at, has_cells, Stand}
use Rattle.slots.specs.declared.ring.Ends.{Ends}
use Rattle.slots.proofs.Linking.{linked-chain}
use Rattle.slots.proofs.OneRing.{Cells, ring-mark}
use Rattle.slots.proofs.Standing.{slot-first}
use Rattle.dial.specs.Turns.{list_of}
use Rattle.dial.proofs.Numbers.{number-most}
use Rattle.wheel_rules.specs.Rules.{Listing}
use Rattle.wheel_rules.specs.AuditTests.{mark_test, ends_in, list_cells, ring_test, noted, list_test, order_test}
use Rattle.dial.specs.declared.state.Dial.{Dial}
use Rattle.wheel_rules.proofs.ListSpans.{StandsIn}
use Rattle.wheel_rules.proofs.Walks.{Own, ring-walked, ring-closes}
use Rattle.wheel_rules.proofs.Climbing.{cells_of, noted-gathered, noted-own}
use Rattle.wheel_rules.proofs.Rising.{order-decides}
use Rattle.wheel_rules.proofs.Counting.{gathered, in_use_one, gathered-times, gathered-few, gathered-whole, gathered-count, rises-each, each-rises}

-- It counts 1 then, and 0 otherwise.
used-one : (w : List ℕ) (c : ℕ) → cond (in_use w c && true) 1 0 ≡ in_use_one w c
unfolding in_use
used-one w c = test (is_free w c) (λ e. rw e) (λ e. rw e)

-- A mark s that agrees with a first cell b says whether there is a cell h.
mark-reads : (s b h : Bool) → cond s (not b) b ≡ true → b ≡ not h → s ≡ h
mark-reads true b true t e = refl
mark-reads true b false t e = clash t (ap not e)
mark-reads false b true t e = clash t e
mark-reads false b false t e = refl

-- A mark that says whether there is a cell agrees with a first cell.
reads-mark : (s b h : Bool) → s ≡ h → b ≡ not h → cond s (not b) b ≡ true
reads-mark s b true e f = rw (e, f)
reads-mark s b false e f = rw (e, f)

module _ (l : Lists) where
  -- The ends of list i.
  abbrev ends : ℕ → Ends
  ends = ends_in l.first l.last l.due

  -- Where all marks pass, their words have 64 bits.
  marks-narrow : length l.marks ≡ 6 → all_below 384 (mark_test l.first l.marks) ≡ true → (p : ℕ) → get_or l.marks p 0 < 2 ^ 64
  unfolding mark_test
  marks-narrow six t p =
      at_most? 6 p
      (λ h. let none : get_or l.marks p 0 ≡ 0 = get_or-eq_default l.marks 0 {n = p} (omega arith) in omega arith)
      (λ h.
      let at : p * 64 / 64 ≡ p = omega arith in
      let one = and-true (leb (get_or l.marks (p * 64 / 64) 0) 18446744073709551615) _ (below_each (mark_test l.first l.marks) 384 t (p * 64) (omega arith)) in
      let bound : get_or l.marks (p * 64 / 64) 0 ≤ 18446744073709551615 = leb-true _ _ one.0 in
      omega (arith, rw at at bound))

  -- The mark of a slot whose ring is known.
  module _ (i : ℕ) (h : i < due_list) (xs : List ℕ) (cells : Cells l.words xs) (ring : RingOf l.words (ends_at l i) xs) where
    -- The slot has no first cell exactly if it has no cell.
    none_first : eqb (get_or l.first i no_cell) no_cell ≡ not (has_cells xs)
    none_first = rw (slot-first l i (λ e. omega arith)) at (ring-mark l.words xs cells (ends_at l i) ring)

    -- A mark that passes says whether the slot has a cell.
    mark-true : mark_test l.first l.marks i ≡ true → slot_marked l.marks i ≡ has_cells xs
    unfolding mark_test
    mark-true t =
        mark-reads (slot_marked l.marks i) (eqb (get_or l.first i no_cell) no_cell) (has_cells xs)
        (and-true (leb (get_or l.marks (i / 64) 0) 18446744073709551615) _ t).1
        none_first

    -- A mark that says so passes.
    true-mark : get_or l.marks (i / 64) 0 < 2 ^ 64 → slot_marked l.marks i ≡ has_cells xs → mark_test l.first l.marks i ≡ true
    unfolding mark_test
    true-mark narrow e =
        rw (le-leb (get_or l.marks (i / 64) 0) 18446744073709551615 (omega arith))
        (reads-mark (slot_marked l.marks i) (eqb (get_or l.first i no_cell) no_cell) (has_cells xs) e none_first)

  module _ (d : Dial) (size : d.store.cells ≡ length l.words / 8) (small : d.store.cells ≤ 4096) where
    -- The words.
    abbrev w : List ℕ
    w = l.words

    -- The number of cells.
    abbrev n : ℕ
    n = d.store.cells

    -- The clock.
    abbrev t : ℕ
    t = d.clock

    -- The list to which a cell belongs.
    abbrev place_of : ℕ → ℕ
    place_of c = list_of t (word w c 2)

    -- Whether a cell is to stand in list i.
    abbrev stands : ℕ → ℕ → Bool
    stands i c = ltb c n && (in_use w c && eqb (place_of c) i)

    -- A cell in use whose place is list i is to stand there.
    place-stands : (i c : ℕ) → c < n → in_use w c ≡ true → place_of c ≡ i → stands i c ≡ true
    place-stands i c h u e = rw (lt-ltb c n h, u, eq-eqb (place_of c) i e)

    -- A cell of list i is one.
    own-stands : (i c : ℕ) → Own w n t i c → stands i c ≡ true
    own-stands i c o = place-stands i c o.inside (not-free-used w c o.used) o.stands.place

    -- What is to stand in list i is a cell in use whose place is there.
    stands-place : (i c : ℕ) → stands i c ≡ true → (c < n) × (in_use w c ≡ true) × (place_of c ≡ i)
    stands-place i c e =
        let one = and-true (ltb c n) (in_use w c && eqb (place_of c) i) e in
        let two = and-true (in_use w c) (eqb (place_of c) i) one.1 in
        (ltb-true _ _ one.0, two.0, eqb-true _ _ two.1)

    -- What passes the tests of arrays and lists has lists that keep the rules.
    module _
        (firsts : length l.first ≡ 384)
        (lasts : length l.last ≡ 384)
        (levels : length l.marks ≡ 6)
        (marks : all_below 384 (mark_test l.first l.marks) ≡ true)
        (rings : all_below 385 (list_test w n t ends) ≡ true)
        (whole : length (noted w n t ends 385) + frees w n ≡ n)
        (order : order_test w (noted w n t ends 385) ≡ true) where
      -- The cells that were noted of list i.
      abbrev ls : ℕ → List ℕ
      ls = cells_of w n t ends

      -- A cell noted of list i belongs there.
      own : (i c : ℕ) → 1 ≤ times c (ls i) → Own w n t i c
      own = noted-own w n t ends

      -- The cells noted of list i are linked both ways.
      ring : (i : ℕ) → i ≤ due_list → RingOf w (ends i) (ls i)
      unfolding list_test
      ring i h =
          ring-walked w n t i small (ends i) (n - length (noted w n t ends i)) (below_each (list_test w n t ends) 385 rings i (omega arith))

      -- The same of its ends as the slots have them.
      ring-at : (i : ℕ) → i ≤ due_list → RingOf w (ends_at l i) (ls i)
      unfolding ends_in ends_at ends_of
      ring-at i h = ring i h

      -- No cell is noted twice of a list: its links lead to its end.
      once : (i c : ℕ) → i ≤ due_list → times c (ls i) ≤ 1
      once i c h =
          chain-once (next w (ends i)) c (next w (ends i) no_cell) (ls i)
          (linked-chain (next w (ends i)) (previous w (ends i)) no_cell (ls i) (ring i h))
          (all-standing (λ (x : ℕ). x < no_cell) (ls i) (λ x k. omega (arith, (own i x k).inside)))

      -- So they are cells of the words, each once.
      cells : (i : ℕ) → i ≤ due_list → Cells w (ls i)
      cells i h = record { room = omega arith; inside = λ c k. omega (arith, (own i c k).inside); once = λ c. once i c h }

      -- The lists stand in words and arrays.
      stand : Stand l ls
      stand =
          record {
            firsts = firsts;
            lasts = lasts;
            levels = levels;
            room = omega arith;
            rings = ring-at;
            marks =
                λ i h.
                mark-true i h (ls i) (cells i (omega arith)) (ring-at i (omega arith))
                (below_each (mark_test l.first l.marks) 384 marks i h);
            narrow = marks-narrow levels marks;
            inside = λ i c h k. omega (arith, (own i c k).inside);
            once = once;
            apart = λ i j c h k p q. sym (own i c p).stands.place ∙ (own j c q).stands.place;
          }

      -- Each cell in use stands in its list.
      placed : (i c : ℕ) → i ≤ due_list → times c (ls i) ≡ cond (stands i c) 1 0
      placed i c h =
          test (stands i c)
          (λ e.
          let o = stands-place i c e in
          let all : times c (gathered ls 385) ≡ in_use_one w c =
          gathered-whole ls place_of 385 (λ j x k s. (own j x s).stands.place) n (λ j x k s. (own j x s).inside)
          (λ j x k. once j x (omega arith))
          w
          (λ j x k s. (own j x s).used)
          (rw (noted-gathered w n t ends 385) at whole)
          c
          o.0
          in
          let there : times c (gathered ls 385) ≡ times c (ls i) =
          rw (o.2, lt-ltb i 385 (omega arith)) at (gathered-times ls place_of 385 (λ j x k s. (own j x s).stands.place) 385 c (omega arith))
          in
          rw e (sym there ∙ all ∙ rw (in-use-free w c o.1)))
          (λ e. rw e (at_most? 1 (times c (ls i)) (λ k. clash (own-stands i c (own i c k)) e) (λ k. omega arith)))

      -- So its deadline is one that may stand there.
      pub tests-within : (c : ℕ) → c < n → in_use w c ≡ true → StandsIn t (place_of c) (word w c 2)
      tests-within c h u =
          (own (place_of c) c
          (omega (arith, rw (place-stands (place_of c) c h u refl) at (placed (place_of c) c (number-most t (word w c 2)))))).stands

      -- So the lists keep the rules.
      pub tests-listing : Listing l d
      tests-listing =
          record {
            cells = ls;
            stand = stand;
            placed = placed;
            stable = λ i h.
                rises-each w ls 385 i (omega arith)
                (rw (noted-gathered w n t ends 385) at ((order-decides w (noted w n t ends 385)).0 order));
          }

    -- Lists that keep the rules, of deadlines that do, pass the tests.
    module _
        (r : Listing l d)
        (late : (c : ℕ) → c < n → in_use w c ≡ true → t ≤ word w c 2)
        (last : (c : ℕ) → c < n → in_use w c ≡ true → word w c 2 ≤ last_tick 64 6) where
      -- A cell stands in its own list.
      kept-own : (i c : ℕ) → i < 385 → 1 ≤ times c (r.cells i) → Own w n t i c
      kept-own i c h k =
          test (stands i c)
          (λ e.
          let o = stands-place i c e in
          record {
            inside = o.0;
            used = in-use-free w c o.1;
            stands = record { late = late c o.0 o.1; last = last c o.0 o.1; place = o.2 };
          })
          (λ e. absurd (omega (arith, rw e at (r.placed i c (omega arith)))))

      -- Its place is that list.
      kept-place : (i c : ℕ) → i < 385 → 1 ≤ times c (r.cells i) → place_of c ≡ i
      kept-place i c h k = (kept-own i c h k).stands.place

      -- It is one of the first n.
      kept-inside : (i c : ℕ) → i < 385 → 1 ≤ times c (r.cells i) → c < n
      kept-inside i c h k = (kept-own i c h k).inside

      -- The list is linked both ways.
      kept-ring : (i : ℕ) → i ≤ due_list → RingOf w (ends i) (r.cells i)
      unfolding ends_in ends_at ends_of
      kept-ring i h = r.stand.rings i h

      -- So list k is walked whole where the lists before it were.
      walk-whole : (k : ℕ) → k < 385 → (m : ℕ) → m ≡ length (gathered r.cells k)
          → (list_cells w n t k (ends k) (n - m) ≡ r.cells k) × (ring_test w n t k (ends k) (n - m) ≡ true)
      unfolding gathered
      walk-whole k h m e =
          ring-closes w n t k small (ends k) (r.cells k) (n - m) (kept-ring k (omega arith))
          (all-standing (Own w n t k) (r.cells k) (λ c s. kept-own k c h s))
          (omega (
            arith,
            length-append (gathered r.cells k) (r.cells k),
            gathered-few r.cells place_of 385 kept-place n kept-inside (λ j x s. r.stand.once j x (omega arith)) (suc k) (omega arith),
          ))

      -- What is noted of the lists below k is their cells.
      kept-noted : (k : ℕ) → k ≤ 385 → noted w n t ends k ≡ gathered r.cells k
      kept-noted zero h = unfold noted in unfold gathered in refl
      kept-noted (suc k) h = go (kept-noted k (omega arith))
        where
          go : noted w n t ends k ≡ gathered r.cells k → noted w n t ends (suc k) ≡ gathered r.cells (suc k)
          go e = unfold noted in unfold gathered in cc (e, (walk-whole k (omega arith) (length (noted w n t ends k)) (ap length e)).0)

      -- Each list passes its test.
      pub listing-rings : all_below 385 (list_test w n t ends) ≡ true
      listing-rings =
          each_below (list_test w n t ends) 385
          (λ i h. unfold list_test in (walk-whole i h (length (noted w n t ends i)) (ap length (kept-noted i (omega arith)))).1)

      -- A cell stands in the lists together if it is in use.
      kept-all : (c : ℕ) → c < n → times c (gathered r.cells 385) ≡ in_use_one w c
      kept-all c h =
          gathered-times r.cells place_of 385 kept-place 385 c (omega arith)
          ∙ rw (lt-ltb (place_of c) 385 (omega (arith, number-most t (word w c 2))))
          (r.placed (place_of c) c (number-most t (word w c 2))
          ∙ rw (lt-ltb c n h, eq-eqb (place_of c) (place_of c) refl) (used-one w c))

      -- As many cells are noted as are in use.
      pub listing-whole : length (noted w n t ends 385) + frees w n ≡ n
      listing-whole = rw (kept-noted 385 (omega arith)) (gathered-count r.cells place_of 385 kept-place n kept-inside w kept-all)

      -- Equal deadlines pass the test of their order.
      pub listing-order : order_test w (noted w n t ends 385) ≡ true
      listing-order =
          rw (kept-noted 385 (omega arith))
          ((order-decides w (gathered r.cells 385)).1
          (each-rises w r.cells (list_of t) 385 kept-place 385 (omega arith) (λ i h. r.stable i (omega arith))))

      -- Each mark passes its test.
      pub listing-marks : all_below 384 (mark_test l.first l.marks) ≡ true
      listing-marks =
          each_below (mark_test l.first l.marks) 384
          (λ i h.
          true-mark i h (r.cells i)
          (record {
            room = r.stand.room;
            inside = λ c k. r.stand.inside i c (omega arith) k;
            once = λ c. r.stand.once i c (omega arith);
          })
          (r.stand.rings i (omega arith))
          (r.stand.narrow (i / 64))
          (r.stand.marks i h))
