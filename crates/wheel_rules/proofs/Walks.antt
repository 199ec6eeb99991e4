-- Walks through lists of cells: a walk that closes is a list linked both ways, and a list linked both ways is walked whole.
-- Assumes nothing.
use Prim.Native.Nat.{ℕ, zero, suc, ◌≤◌, ◌<◌}
use native.Mathlib.Omega.{arith}
use mathlib.Core.Bool.{Bool, true, false, not, ◌&&◌}
use mathlib.Core.List.{List, [], ◌∷◌}
use mathlib.Core.Path.{◌≡◌, refl, sym, ap, ◌∙◌}
use lib.Dec.{ltb, eqb}
use lib.ListN.{length}
use borrow.Author.Tests.{lt-ltb, le-ltb, ltb-true, eq-eqb, eqb-true, not-true}
use Rattle.cells.specs.Lists.{All}
use Rattle.cells.specs.Words.{word}
use Rattle.cells.specs.Stack.{no_cell, is_free, link}
use Rattle.cells.proofs.Cases.{test, and-true}
use Rattle.slots.specs.Rings.{next, previous}
use Rattle.slots.specs.Stand.{Linked, RingOf}
use Rattle.slots.specs.declared.ring.Ends.{Ends}
use Rattle.slots.proofs.Relinking.{next-none, next-some, previous-none, previous-some}
use Rattle.wheel_rules.specs.AuditTests.{stands_in, stand_test, walked, closes, list_cells, ring_test}
use Rattle.wheel_rules.proofs.ListSpans.{StandsIn, stands-rule, rule-stands}

-- A walk, by whether the next cell passes.
module _ (ok : ℕ → ℕ → Bool) (follow : ℕ → ℕ) (last : ℕ) where
  -- Where the next cell fails no cell is walked.
  pub walked_stop : (k p c : ℕ) → ok p c ≡ false → walked ok follow k p c ≡ []
  unfolding walked
  walked_stop zero p c e = refl
  walked_stop (suc k) p c e = rw e

  -- Where it passes it is walked, and the walk goes on behind it.
  pub walked_on : (k p c : ℕ) → ok p c ≡ true → walked ok follow (suc k) p c ≡ c ∷ walked ok follow k c (follow c)
  unfolding walked
  walked_on k p c e = rw e

  -- Where the next cell fails the walk is at its end.
  pub closes-stop : (k p c : ℕ) → ok p c ≡ false → closes ok follow last k p c ≡ (eqb c no_cell && eqb p last)
  unfolding closes
  closes-stop zero p c e = refl
  closes-stop (suc k) p c e = rw e

  -- Where it passes the rest decides.
  pub closes-on : (k p c : ℕ) → ok p c ≡ true → closes ok follow last (suc k) p c ≡ closes ok follow last k c (follow c)
  unfolding closes
  closes-on k p c e = rw e

  -- No more cells are walked than were asked for.
  pub walked-few : (k p c : ℕ) → length (walked ok follow k p c) ≤ k
  walked-few zero p c = unfold walked in omega arith
  walked-few (suc k) p c =
      test (ok p c)
      (λ e. rw (walked_on k p c e) (omega (arith, walked-few k c (follow c))))
      (λ e. rw (walked_stop (suc k) p c e) (omega arith))

-- What the test of a cell finds.
pub record Stands (w : List ℕ) (n t i p c : ℕ) : Type 0 where
  pub inside : c < n
  pub used : is_free w c ≡ false
  pub back : word w c 5 ≡ p
  pub stands : StandsIn t i (word w c 2)

module _ (w : List ℕ) (n t i : ℕ) where
  -- The test of a cell finds its rules.
  pub stand-rule : (p c : ℕ) → stand_test w n t i p c ≡ true → Stands w n t i p c
  unfolding stand_test
  stand-rule p c e =
      let one = and-true (ltb c n) (not (is_free w c) && (eqb (word w c 5) p && stands_in t i (word w c 2))) e in
      let two = and-true (not (is_free w c)) (eqb (word w c 5) p && stands_in t i (word w c 2)) one.1 in
      let three = and-true (eqb (word w c 5) p) (stands_in t i (word w c 2)) two.1 in
      record {
        inside = ltb-true _ _ one.0;
        used = not-true (is_free w c) two.0;
        back = eqb-true _ _ three.0;
        stands = stands-rule t i (word w c 2) three.1;
      }

  -- A cell that keeps the rules passes.
  rule-stand : (p c : ℕ) → Stands w n t i p c → stand_test w n t i p c ≡ true
  unfolding stand_test
  rule-stand p c s =
      rw (lt-ltb c n s.inside, s.used, eq-eqb (word w c 5) p s.back) (rule-stands t i (word w c 2) s.stands)

  -- What is no cell of the first n does not stand.
  pub stand-none : (p c : ℕ) → n ≤ c → stand_test w n t i p c ≡ false
  unfolding stand_test
  stand-none p c h = rw (le-ltb c n h)

  -- A cell of list i, wherever it stands in it.
  pub record Own (c : ℕ) : Type 0 where
    pub inside : c < n
    pub used : is_free w c ≡ false
    pub stands : StandsIn t i (word w c 2)

  -- Each cell that was walked is one.
  walked-own : (k p c : ℕ) → All Own (walked (stand_test w n t i) (link w) k p c)
  walked-own zero p c = unfold walked in tt
  walked-own (suc k) p c =
      test (stand_test w n t i p c)
      (λ e.
      let s : Stands w n t i p c = stand-rule p c e in
      rw (walked_on (stand_test w n t i) (link w) 0 k p c e)
      (record { inside = s.inside; used = s.used; stands = s.stands }, walked-own k c (link w c)))
      (λ e. rw (walked_stop (stand_test w n t i) (link w) 0 (suc k) p c e) tt)

  module _ (small : n ≤ no_cell) (e : Ends) where
    -- A walk that is at its end.
    ended : (p c : ℕ) → next w e p ≡ c → (eqb c no_cell && eqb p e.last) ≡ true → Linked (next w e) (previous w e) p [] no_cell
    ended p c h u =
        let both = and-true (eqb c no_cell) (eqb p e.last) u in
        (h ∙ eqb-true _ _ both.0, previous-none w e no_cell refl ∙ sym (eqb-true _ _ both.1))

    -- A walk that closes is a list linked both ways.
    closes-linked : (k p c : ℕ) → next w e p ≡ c → closes (stand_test w n t i) (link w) e.last k p c ≡ true
        → Linked (next w e) (previous w e) p (walked (stand_test w n t i) (link w) k p c) no_cell
    unfolding walked closes
    closes-linked zero p c h u = ended p c h u
    closes-linked (suc k) p c h u =
        test (stand_test w n t i p c)
        (λ s.
        let r : Stands w n t i p c = stand-rule p c s in
        let cell : c ≡ no_cell → ⊥ = λ q. omega (arith, r.inside) in
        rw s (h, previous-some w e c cell ∙ r.back, closes-linked k c (link w c) (next-some w e c cell) (rw s at u)))
        (λ s. rw s (ended p c h (rw s at u)))

    -- A list linked both ways of cells that belong to list i is walked whole, and closes.
    linked-walked : (p : ℕ) (xs : List ℕ) (k : ℕ) → Linked (next w e) (previous w e) p xs no_cell → All Own xs → length xs ≤ k
        → (walked (stand_test w n t i) (link w) k p (next w e p) ≡ xs)
        × (closes (stand_test w n t i) (link w) e.last k p (next w e p) ≡ true)
    linked-walked p [] k h a l =
        let none : stand_test w n t i p (next w e p) ≡ false = stand-none p (next w e p) (omega (arith, h.0)) in
        let back : p ≡ e.last = sym h.1 ∙ previous-none w e no_cell refl in (
          walked_stop (stand_test w n t i) (link w) e.last k p (next w e p) none,
          closes-stop (stand_test w n t i) (link w) e.last k p (next w e p) none
              ∙ rw (eq-eqb (next w e p) no_cell h.0, eq-eqb p e.last back),
        )
    linked-walked p (x ∷ xs) zero h a l = absurd (omega arith)
    linked-walked p (x ∷ xs) (suc k) h a l =
        let cell : x ≡ no_cell → ⊥ = λ q. omega (arith, a.0.inside) in
        let some : stand_test w n t i p x ≡ true =
        rule-stand p x
        (record { inside = a.0.inside; used = a.0.used; back = sym (previous-some w e x cell) ∙ h.1; stands = a.0.stands }) in
        let rest = linked-walked x xs k h.2 a.1 (omega arith) in
        let on : link w x ≡ next w e x = sym (next-some w e x cell) in
        rw h.0 (
          walked_on (stand_test w n t i) (link w) e.last k p x some ∙ rw on (ap (λ (l : List ℕ). x ∷ l) rest.0),
          closes-on (stand_test w n t i) (link w) e.last k p x some ∙ rw on rest.1,
        )

    -- A ring that passes is linked both ways, as the audit walks it.
    pub ring-walked : (k : ℕ) → ring_test w n t i e k ≡ true → RingOf w e (list_cells w n t i e k)
    unfolding ring_test list_cells
    ring-walked k u = closes-linked k no_cell e.first (next-none w e no_cell refl) u

    -- A ring of cells that belong to list i is walked whole, and passes.
    pub ring-closes : (xs : List ℕ) (k : ℕ) → RingOf w e xs → All Own xs → length xs ≤ k
        → (list_cells w n t i e k ≡ xs) × (ring_test w n t i e k ≡ true)
    unfolding ring_test list_cells
    ring-closes xs k h a l = rw (next-none w e no_cell refl) at (linked-walked no_cell xs k h a l)

  -- Its cells belong to it.
  pub cells-own : (e : Ends) (k : ℕ) → All Own (list_cells w n t i e k)
  unfolding list_cells
  cells-own e k = walked-own k no_cell e.first
