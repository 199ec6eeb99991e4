-- The tests of the queue's audit decide its rules.
-- Assumes nothing.
use Prim.Native.Nat.{ℕ, ◌+◌, ◌-◌, ◌≤◌, ◌<◌}
use native.Mathlib.Omega.{arith}
use mathlib.Core.Bool.{Bool, true, false, not, ◌&&◌}
use mathlib.Core.List.{List}
use mathlib.Core.Logic.{◌↔◌}
use mathlib.Core.Path.{◌≡◌, refl, sym, ◌∙◌}
use lib.Dec.{leb, ltb, eqb}
use borrow.Author.Tests.{leb-true, le-leb, ltb-true, lt-ltb, le-ltb, eqb-true, eq-eqb, ne_eqb, not-true}
use Rattle.cells.specs.Words.{word}
use Rattle.cells.specs.Stack.{is_free, frees}
use Rattle.cells.specs.Rules.{Sound}
use Rattle.audits.specs.AuditTests.{all_below, shared_test}
use Rattle.audits.specs.Verdicts.{Judged}
use Rattle.std.specs.Prelude.{Some}
use Rattle.cells.proofs.Cases.{same?, at_most?, clash, and-true, or-true}
use Rattle.audits.proofs.Below.{below_each, each_below}
use Rattle.audits.proofs.Audits.{shared-decides}
use Rattle.cells.proofs.Used.{in-use-free, not-free-used}
use Rattle.meaning.specs.Heap.{parent}
use Rattle.heap.specs.Seats.{ranked, seat_at}
use Rattle.queue.specs.Rules.{used_mask, free_mask, SeatRule, QueueSound}
use Rattle.queue.specs.AuditTests.{head_test, behind_test, seat_test, count_test, beyond_test, audit_test}
use Rattle.queue.specs.declared.head.Head.{Head}
use Rattle.queue.proofs.Counted.{each-sits, sits-count}

-- What must pass and fails rules out what it must pass for.
refuted : {Q : Type 0} (r : Bool) → (Q → r ≡ true) → r ≡ false → (false ≡ true) ↔ Q
refuted r f e = (λ z. clash z refl, λ q. clash (f q) e)

-- What the head's test finds.
pub record HeadRule (h : Head) : Type 0 where
  pub counts : h.store.counter ≤ 18446744073709551615
  pub some : 2 ≤ h.arity
  pub most : h.arity ≤ 8
  pub fits : h.count ≤ h.store.cells

-- The test of the head finds its rules.
pub head-rule : (h : Head) → head_test h ≡ true → HeadRule h
unfolding head_test
head-rule h t =
    let zeroth =
    and-true (leb h.store.counter 18446744073709551615) (leb 2 h.arity && (leb h.arity 8 && leb h.count h.store.cells)) t in
    let one = and-true (leb 2 h.arity) (leb h.arity 8 && leb h.count h.store.cells) zeroth.1 in
    let two = and-true (leb h.arity 8) (leb h.count h.store.cells) one.1 in
    record { counts = leb-true _ _ zeroth.0; some = leb-true _ _ one.0; most = leb-true _ _ two.0; fits = leb-true _ _ two.1 }

-- The head that keeps its rules passes.
rule-head : (h : Head) → HeadRule h → head_test h ≡ true
unfolding head_test
rule-head h r =
    rw (le-leb _ _ r.counts, le-leb 2 h.arity r.some, le-leb h.arity 8 r.most, le-leb h.count h.store.cells r.fits)

module _ (w : List ℕ) where
  -- The order test of one position.
  abbrev ahead : ℕ → ℕ → Bool
  ahead d p = ranked (seat_at w p).key (seat_at w p).order (seat_at w (parent d p)).key (seat_at w (parent d p)).order

  -- Where it passes, the order rule holds.
  behind-true : (d p : ℕ) → behind_test w d p ≡ true → 0 < p → ahead d p ≡ false
  unfolding behind_test
  behind-true d p t l =
      or-true (eqb p 0) (not (ahead d p)) t
      (λ e. absurd (omega (arith, eqb-true p 0 e)))
      (λ e. not-true (ahead d p) e)

  -- A position that keeps the order rule passes.
  true-behind : (d p : ℕ) → (0 < p → ahead d p ≡ false) → behind_test w d p ≡ true
  unfolding behind_test
  true-behind d p f =
      same? p 0
      (λ e. rw (eq-eqb p 0 e))
      (λ n. rw (ne_eqb p 0 n, f (omega arith)))

  -- Where the test of a filled position passes, its rule holds.
  seat-rule : (h : Head) (p : ℕ) → seat_test w h.arity h.store.cells p ≡ true → SeatRule w h p
  unfolding seat_test
  seat-rule h p t =
      let c : ℕ = word w p 6 in
      let one = and-true (ltb c h.store.cells) (not (is_free w c) && (eqb (word w c 5) p && behind_test w h.arity p)) t in
      let two = and-true (not (is_free w c)) (eqb (word w c 5) p && behind_test w h.arity p) one.1 in
      let three = and-true (eqb (word w c 5) p) (behind_test w h.arity p) two.1 in
      record {
        inside = ltb-true _ _ one.0;
        used = not-free-used w c (not-true (is_free w c) two.0);
        known = eqb-true _ _ three.0;
        behind = behind-true h.arity p three.1;
      }

  -- A position that keeps its rule passes.
  rule-seat : (h : Head) (p : ℕ) → SeatRule w h p → seat_test w h.arity h.store.cells p ≡ true
  unfolding seat_test
  rule-seat h p r =
      let c : ℕ = word w p 6 in
      rw (lt-ltb c h.store.cells r.inside, in-use-free w c r.used, eq-eqb (word w c 5) p r.known)
      (true-behind h.arity p r.behind)

  -- Where the test of the table beyond the filled positions passes, that rule holds.
  beyond-rule : (count p : ℕ) → beyond_test w count p ≡ true → count ≤ p → word w p 6 ≡ 0
  unfolding beyond_test
  beyond-rule count p t l = eqb-true _ _ (rw (le-ltb p count l) at t)

  -- A position that keeps that rule passes.
  rule-beyond : (count p : ℕ) → (count ≤ p → word w p 6 ≡ 0) → beyond_test w count p ≡ true
  unfolding beyond_test
  rule-beyond count p f =
      at_most? count p
      (λ l. rw (le-ltb p count l, eq-eqb (word w p 6) 0 (f l)))
      (λ l. rw (lt-ltb p count l))

module _ (w : List ℕ) (h : Head) where
  -- The test of the walk of positions.
  abbrev seats_test : Bool
  seats_test = all_below h.count (seat_test w h.arity h.store.cells)

  -- The test of the table beyond them.
  abbrev beyond_all : Bool
  beyond_all = all_below h.store.cells (beyond_test w h.count)

  -- A sound head passes.
  sound-head : QueueSound w h → head_test h ≡ true
  sound-head q = rule-head h (record { counts = q.counts; some = q.some; most = q.most; fits = q.fits })

  -- Its positions pass.
  sound-seats : QueueSound w h → seats_test ≡ true
  sound-seats q =
      each_below (seat_test w h.arity h.store.cells) h.count (λ p l. rule-seat w h p (q.seats p l))

  -- There are as many positions as entries.
  sound-count : QueueSound w h → count_test w h ≡ true
  unfolding count_test
  sound-count q = eq-eqb _ _ (sits-count w h q.seats q.placed q.found)

  -- The table beyond them passes.
  sound-beyond : QueueSound w h → beyond_all ≡ true
  sound-beyond q = each_below (beyond_test w h.count) h.store.cells (λ p l. rule-beyond w h.count p (λ k. q.beyond p k l))

  -- What passes all tests is sound.
  tests-sound : head_test h ≡ true → Sound w h.store used_mask free_mask → count_test w h ≡ true → seats_test ≡ true → beyond_all ≡ true
      → QueueSound w h
  unfolding count_test
  tests-sound a s n b t =
      let head : HeadRule h = head-rule h a in
      record {
        shared = s;
        counts = head.counts;
        some = head.some;
        most = head.most;
        fits = head.fits;
        seats = seats;
        placed = λ c l u. (each-sits w h seats (eqb-true _ _ n) c l u).low;
        found = λ c l u. (each-sits w h seats (eqb-true _ _ n) c l u).here;
        beyond = λ p l k. beyond-rule w h.count p (below_each (beyond_test w h.count) h.store.cells t p k) l;
      }
    where
      seats : (p : ℕ) → p < h.count → SeatRule w h p
      seats p l = seat-rule w h p (below_each (seat_test w h.arity h.store.cells) h.count b p l)

  -- All tests together decide soundness.
  pub audit-decides : (audit_test w h ≡ true) ↔ QueueSound w h
  unfolding audit_test
  audit-decides = (to, from)
    where
      shared : Bool
      shared = shared_test w h.store used_mask free_mask

      to : head_test h && (shared && (count_test w h && (seats_test && beyond_all))) ≡ true → QueueSound w h
      to t =
          let one = and-true (head_test h) (shared && (count_test w h && (seats_test && beyond_all))) t in
          let two = and-true shared (count_test w h && (seats_test && beyond_all)) one.1 in
          let three = and-true (count_test w h) (seats_test && beyond_all) two.1 in
          let four = and-true seats_test beyond_all three.1 in
          tests-sound one.0 ((shared-decides w h.store used_mask free_mask).0 two.0) three.0 four.0 four.1

      from : QueueSound w h → head_test h && (shared && (count_test w h && (seats_test && beyond_all))) ≡ true
      from q =
          let passed : shared ≡ true = (shared-decides w h.store used_mask free_mask).1 q.shared in
          rw (sound-head q, passed, sound-count q, sound-seats q) (sound-beyond q)

  -- The code's ways out. Where the head fails it is not sound.
  pub fails-head : (r : Bool) → r ≡ head_test h → r ≡ false → (false ≡ true) ↔ QueueSound w h
  fails-head r e = refuted r (λ q. e ∙ sound-head q)

  -- After the shared part, which counted the free cells.
  module _ (free : ℕ) (judged : Judged w h.store used_mask free_mask (Some free)) where
    -- Where there are more or fewer positions than entries it is not sound.
    pub fails-count : (h.store.cells - h.count ≡ free → ⊥) → (false ≡ true) ↔ QueueSound w h
    unfolding count_test
    fails-count n = (
      λ z. clash z refl,
      λ q.
          let same = eqb-true (h.count + frees w h.store.cells) h.store.cells (sound-count q) in
          absurd (n (omega (arith, same, judged.count, q.fits))),
    )

    module _ (a : Bool) (head : a ≡ head_test h) (fits : a ≡ true) (same : h.store.cells - h.count ≡ free) where
      count-passes : count_test w h ≡ true
      unfolding count_test
      count-passes =
          eq-eqb (h.count + frees w h.store.cells) h.store.cells
          (omega (arith, same, judged.count, (head-rule h (sym head ∙ fits)).fits))

      -- What passes the others is sound exactly if it passes the last.
      pub passes-all : (b r : Bool) → b ≡ seats_test → b ≡ true → r ≡ beyond_all → (r ≡ true) ↔ QueueSound w h
      passes-all b r eb b' er =
          (λ t. tests-sound (sym head ∙ fits) (judged.exact.0 refl) count-passes (sym eb ∙ b') (sym er ∙ t), λ q. er ∙ sound-beyond q)

  -- Where a position fails it is not sound.
  pub fails-seats : (r : Bool) → r ≡ seats_test → r ≡ false → (false ≡ true) ↔ QueueSound w h
  fails-seats r e = refuted r (λ q. e ∙ sound-seats q)
