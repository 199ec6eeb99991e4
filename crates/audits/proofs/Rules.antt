-- The tests of the shared audit decide its rules.
-- Assumes nothing.
use Prim.Native.Nat.{ℕ, zero, suc, ◌+◌, ◌<◌}
use native.Mathlib.Omega.{arith}
use mathlib.Core.Bool.{Bool, true, false, cond, not, ◌&&◌}
use mathlib.Core.List.{List, [], ◌∷◌}
use mathlib.Core.Logic.{◌↔◌}
use mathlib.Core.Path.{◌≡◌, refl, sym, ap, ◌∙◌}
use lib.Dec.{leb, ltb, eqb}
use borrow.Author.Tests.{leb-true, le-leb, ltb-true, lt-ltb, le-ltb, eqb-true, eq-eqb, not-true, not-false}
use Rattle.cells.proofs.Cases.{test, same?, at_most?, clash, and-true, or-true}
use Rattle.audits.proofs.Below.{below_each, each_below}
use Rattle.cells.proofs.Used.{in-use-free, free-not-used}
use Rattle.cells.proofs.Lists.{times-here, times-past, times-append}
use Rattle.cells.specs.Lists.{times}
use Rattle.cells.specs.Words.{word}
use Rattle.cells.specs.Rules.{in_use, in_mask, CellRule}
use Rattle.cells.specs.Stack.{is_free}
use Rattle.audits.specs.AuditTests.{all_below, field_test, blank_test, numbered_test, used_test, used_below}

module _ (w : List ℕ) where
  -- The fields of a mask are zero.
  blank-each : (m c : ℕ) → blank_test w m c ≡ true → (f : ℕ) → f < 8 → in_mask m f ≡ true → word w c f ≡ 0
  unfolding blank_test field_test
  blank-each m c t f h i =
      or-true (not (in_mask m f)) (eqb (word w c f) 0) (below_each (field_test w m c) 8 t f h)
      (λ e. clash i (not-true (in_mask m f) e))
      (λ e. eqb-true (word w c f) 0 e)

  each-blank : (m c : ℕ) → ((f : ℕ) → f < 8 → in_mask m f ≡ true → word w c f ≡ 0) → blank_test w m c ≡ true
  unfolding blank_test
  each-blank m c h =
      each_below (field_test w m c) 8
      (λ f k.
      test (in_mask m f)
      (λ t. unfold field_test in rw (t, eq-eqb (word w c f) 0 (h f k t)))
      (λ t. unfold field_test in rw t))

  -- A cell that is not in use is free.
  not-used-free : (c : ℕ) → in_use w c ≡ false → is_free w c ≡ true
  unfolding in_use
  not-used-free c e = not-false (is_free w c) e

  -- The rules of a cell, by the test of an entry, and by that of a free cell.
  test-rule : (counter used free c : ℕ) → used_test w counter used c ≡ true → (is_free w c ≡ true → blank_test w free c ≡ true)
      → CellRule w counter used free c
  unfolding used_test numbered_test
  test-rule counter used free c u b =
      test (in_use w c)
      (λ e.
      let parts = and-true (numbered_test w counter c) (blank_test w used c) (rw (in-use-free w c e) at u) in
      let numbers = and-true (leb (word w c 0) (word w c 1)) (ltb (word w c 1) counter) parts.0 in
      record {
        ticket = λ h. leb-true (word w c 0) (word w c 1) numbers.0;
        order = λ h. ltb-true (word w c 1) counter numbers.1;
        blank = λ f k i. blank-each used c parts.1 f k (rw e at i);
      })
      (λ e.
      record {
        ticket = λ h. clash h e;
        order = λ h. clash h e;
        blank = λ f k i. blank-each free c (b (not-used-free c e)) f k (rw e at i);
      })

  rule-used : (counter used free c : ℕ) → CellRule w counter used free c → used_test w counter used c ≡ true
  unfolding used_test numbered_test
  rule-used counter used free c r =
      test (in_use w c)
      (λ e.
      rw (in-use-free w c e)
      (rw (le-leb (word w c 0) (word w c 1) (r.ticket e), lt-ltb (word w c 1) counter (r.order e))
      (each-blank used c (λ f k i. r.blank f k (rw e i)))))
      (λ e. rw (not-used-free c e))

  rule-free : (counter used free c : ℕ) → CellRule w counter used free c → is_free w c ≡ true → blank_test w free c ≡ true
  rule-free counter used free c r e = each-blank free c (λ f k i. r.blank f k (rw (free-not-used w c e) i))

  -- The test of all entries and that of all free cells decide the rules of each cell.
  pub cells-rules : (n counter used free : ℕ)
      → ((all_below n (used_test w counter used) ≡ true) × ((c : ℕ) → c < n → is_free w c ≡ true → blank_test w free c ≡ true))
      ↔ ((c : ℕ) → c < n → CellRule w counter used free c)
  cells-rules n counter used free = (
    λ t c h. test-rule counter used free c (below_each (used_test w counter used) n t.0 c h) (t.1 c h),
    λ r. (
      each_below (used_test w counter used) n (λ c h. rule-used counter used free c (r c h)),
      λ c h e. rule-free counter used free c (r c h) e,
    ),
  )

-- A list of one cell or none.
times-one : (c : ℕ) (t : Bool) → times c (cond t (c ∷ []) []) ≡ cond t 1 0
unfolding times
times-one c true = times-here c c [] refl
times-one c false = refl

times_none : (c n : ℕ) (t : Bool) → (n ≡ c → ⊥) → times c (cond t (n ∷ []) []) ≡ 0
unfolding times
times_none c n true d = times-past c n [] d
times_none c n false d = refl

-- One cell more: it stands in the list if it is in use, and changes nothing for the others.
used-more : (w : List ℕ) (n c k : ℕ) → k ≡ cond (ltb c n && in_use w c) 1 0
    → k + times c (cond (in_use w n) (n ∷ []) []) ≡ cond (ltb c (suc n) && in_use w c) 1 0
used-more w n c k r =
    same? n c
    (λ q.
    let none : k ≡ 0 = rw (le-ltb c n (omega arith)) at r in
    let own : times c (cond (in_use w n) (n ∷ []) []) ≡ cond (in_use w c) 1 0 =
    ap (λ (x : ℕ). times c (cond (in_use w x) (x ∷ []) [])) q ∙ times-one c (in_use w c) in
    rw (lt-ltb c (suc n) (omega arith)) (omega arith))
    (λ d.
    let same : ltb c (suc n) ≡ ltb c n =
    at_most? n c
    (λ h. le-ltb c (suc n) (omega arith) ∙ sym (le-ltb c n h))
    (λ h. lt-ltb c (suc n) (omega arith) ∙ sym (lt-ltb c n h)) in
    rw same (omega (arith, times_none c n (in_use w n) d)))

-- The cells in use stand in their list once each, and nothing else does.
pub times-used : (w : List ℕ) (n c : ℕ) → times c (used_below w n) ≡ cond (ltb c n && in_use w c) 1 0
unfolding used_below
times-used w zero c = rw (le-ltb c 0 (omega arith)) (unfold times in refl)
times-used w (suc n) c =
    times-append c (used_below w n) (cond (in_use w n) (n ∷ []) []) ∙ used-more w n c (times c (used_below w n)) (times-used w n c)
