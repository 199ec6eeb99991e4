-- Cells of equal deadline stand by rising order number exactly if they do where the cells are sorted by deadline, and there it shows at neighbours.
-- Assumes nothing.
use Prim.Native.Nat.{ℕ, ◌≤◌, ◌<◌}
use native.Mathlib.Omega.{arith}
use mathlib.Core.Bool.{Bool, true, false, not}
use mathlib.Core.List.{List, [], ◌∷◌, ◌++◌}
use mathlib.Core.Logic.{◌↔◌}
use mathlib.Core.Path.{◌≡◌, refl, sym, ◌∙◌}
use lib.Dec.{ltb, eqb}
use borrow.Author.Tests.{lt-ltb, ltb-true, le-leb, eq-eqb, ne_eqb, eqb-true, eqb-false, not-true}
use Rattle.cells.specs.Lists.{All, times}
use Rattle.cells.specs.Words.{word}
use Rattle.cell_sort.specs.Sorted.{Sorted, sort_by, cell_leq}
use Rattle.cells.proofs.Cases.{test, same?, and-true, or-true}
use Rattle.cells.proofs.Lists.{all_map, all_both, times-here, times-past, all_append}
use Rattle.cells.proofs.Sums.{all-standing}
use Rattle.cell_sort.proofs.Sorting.{sort_sorted}
use Rattle.cell_sort.proofs.Stability.{picked, picked-here, picked-past, sort-stable}
use Rattle.cell_sort.proofs.CellOrder.{cell_leq-total, cell_leq-trans, by-one-field, leq-same}
use Rattle.wheel_rules.specs.Rules.{Rises}
use Rattle.wheel_rules.specs.AuditTests.{rise_test, neighbours_rise, order_test}

-- What holds of each of two lists joined holds of each of the first.
all-front : (P : ℕ → Type 0) (xs ys : List ℕ) → All P (xs ++ ys) → All P xs
all-front P [] ys h = tt
all-front P (x ∷ xs) ys h = (h.0, all-front P xs ys h.1)

-- What holds of each element holds of those picked.
all-picked : (P : ℕ → Type 0) (p : ℕ → Bool) (xs : List ℕ) → All P xs → All P (picked p xs)
all-picked P p [] h = unfold picked in tt
all-picked P p (x ∷ xs) h =
    test (p x)
    (λ e. rw (picked-here p x xs e) (h.0, all-picked P p xs h.1))
    (λ e. rw (picked-past p x xs e) (all-picked P p xs h.1))

-- What holds of those picked, and of whatever is not picked, holds of each element.
picked_all : (P : ℕ → Type 0) (p : ℕ → Bool) → ((x : ℕ) → p x ≡ false → P x) → (xs : List ℕ) → All P (picked p xs) → All P xs
picked_all P p f [] h = tt
picked_all P p f (x ∷ xs) h =
    test (p x)
    (λ e. let both : All P (x ∷ picked p xs) = rw (picked-here p x xs e) at h in (both.0, picked_all P p f xs both.1))
    (λ e. (f x e, picked_all P p f xs (rw (picked-past p x xs e) at h)))

module _ (w : List ℕ) where
  -- Cells c and d, in this order, rise if they are of equal deadline.
  abbrev Rise : ℕ → ℕ → Type 0
  Rise c d = word w c 2 ≡ word w d 2 → word w c 1 < word w d 1

  -- The cells with that deadline.
  abbrev keyed : ℕ → ℕ → Bool
  keyed e c = eqb (word w c 2) e

  -- Those picked from what rises rise.
  rises-picked : (p : ℕ → Bool) (xs : List ℕ) → Rises w xs → Rises w (picked p xs)
  rises-picked p [] r = unfold picked in tt
  rises-picked p (x ∷ xs) r =
      test (p x)
      (λ e. rw (picked-here p x xs e) (all-picked (Rise x) p xs r.0, rises-picked p xs r.1))
      (λ e. rw (picked-past p x xs e) (rises-picked p xs r.1))

  -- What rises at each deadline by itself rises.
  picked-rises : (xs : List ℕ) → ((e : ℕ) → Rises w (picked (keyed e) xs)) → Rises w xs
  picked-rises [] r = tt
  picked-rises (x ∷ xs) r = (
    picked_all (Rise x) (keyed (word w x 2)) (λ d e s. absurd (eqb-false _ _ e (sym s))) xs own.0,
    picked-rises xs (λ e. test (keyed e x)
        (λ t. let whole : Rises w (x ∷ picked (keyed e) xs) = rw (picked-here (keyed e) x xs t) at (r e) in whole.1)
        (λ t. rw (picked-past (keyed e) x xs t) at (r e))),
  )
    where
      own : Rises w (x ∷ picked (keyed (word w x 2)) xs)
      own = rw (picked-here (keyed (word w x 2)) x xs (eq-eqb (word w x 2) (word w x 2) refl)) at (r (word w x 2))

  -- Sorting by deadline keeps the order of equal deadlines.
  stable : (e : ℕ) (xs : List ℕ) → picked (keyed e) (sort_by (cell_leq w 2 2) xs) ≡ picked (keyed e) xs
  stable e =
      sort-stable (cell_leq w 2 2) (cell_leq-total w 2 2) (cell_leq-trans w 2 2) (keyed e)
      (λ a b s t.
      let x : word w a 2 ≡ e = eqb-true _ _ s in
      let y : word w b 2 ≡ e = eqb-true _ _ t in
      leq-same w 2 2 a b (x ∙ sym y) ∙ le-leb (word w a 2) (word w b 2) (omega arith))

  -- What rises still rises once it is sorted.
  rises-sort : (xs : List ℕ) → Rises w xs → Rises w (sort_by (cell_leq w 2 2) xs)
  rises-sort xs r = picked-rises (sort_by (cell_leq w 2 2) xs) (λ e. rw (stable e xs) (rises-picked (keyed e) xs r))

  -- What rises once it is sorted rose before.
  sort-rises : (xs : List ℕ) → Rises w (sort_by (cell_leq w 2 2) xs) → Rises w xs
  sort-rises xs r =
      picked-rises xs (λ e. rw (stable e xs) at (rises-picked (keyed e) (sort_by (cell_leq w 2 2) xs) r))

  -- The test of two cells.
  rise-rule : (c d : ℕ) → rise_test w c d ≡ true → Rise c d
  unfolding rise_test
  rise-rule c d t e =
      or-true (not (eqb (word w c 2) (word w d 2))) (ltb (word w c 1) (word w d 1)) t
      (λ n. absurd (eqb-false _ _ (not-true (eqb (word w c 2) (word w d 2)) n) e))
      (λ l. ltb-true _ _ l)

  -- Two cells that rise pass.
  rule-rise : (c d : ℕ) → Rise c d → rise_test w c d ≡ true
  unfolding rise_test
  rule-rise c d r =
      same? (word w c 2) (word w d 2)
      (λ e. rw (eq-eqb (word w c 2) (word w d 2) e) (lt-ltb _ _ (r e)))
      (λ n. rw (ne_eqb (word w c 2) (word w d 2) n))

  -- Sorted, and neighbours rise: all do.
  neighbours-rises : (xs : List ℕ) → Sorted (cell_leq w 2 2) xs → neighbours_rise w xs ≡ true → Rises w xs
  unfolding neighbours_rise
  neighbours-rises [] s t = tt
  neighbours-rises (x ∷ []) s t = (tt, tt)
  neighbours-rises (x ∷ (y ∷ ys)) s t =
      let both = and-true (rise_test w x y) (neighbours_rise w (y ∷ ys)) t in
      go (rise-rule x y both.0) (neighbours-rises (y ∷ ys) s.1 both.1)
    where
      go : Rise x y → Rises w (y ∷ ys) → Rises w (x ∷ (y ∷ ys))
      go h r = (
        (h, all_map far ys (all_both (λ (z : ℕ). cell_leq w 2 2 y z ≡ true) (Rise y) ys s.1.0 r.0)),
        r,
      )
        where
          far : (z : ℕ) → (cell_leq w 2 2 y z ≡ true) × Rise y z → Rise x z
          far z k e =
              let one : word w x 2 ≤ word w y 2 = by-one-field w 2 x y s.0.0 in
              let two : word w y 2 ≤ word w z 2 = by-one-field w 2 y z k.0 in
              omega (arith, h (omega arith), k.1 (omega arith))

  -- Where all rise neighbours do.
  rises-neighbours : (xs : List ℕ) → Rises w xs → neighbours_rise w xs ≡ true
  unfolding neighbours_rise
  rises-neighbours [] r = refl
  rises-neighbours (x ∷ []) r = refl
  rises-neighbours (x ∷ (y ∷ ys)) r = rw (rule-rise x y r.0.0) (rises-neighbours (y ∷ ys) r.1)

  -- The test of the order decides its rule.
  pub order-decides : (xs : List ℕ) → (order_test w xs ≡ true) ↔ Rises w xs
  unfolding order_test
  order-decides xs = (
    λ t.
        sort-rises xs
        (neighbours-rises (sort_by (cell_leq w 2 2) xs) (sort_sorted (cell_leq w 2 2) (cell_leq-total w 2 2) (cell_leq-trans w 2 2) xs) t),
    λ r. rises-neighbours (sort_by (cell_leq w 2 2) xs) (rises-sort xs r),
  )

  -- The first part of what rises rises.
  pub rises-front : (xs ys : List ℕ) → Rises w (xs ++ ys) → Rises w xs
  rises-front [] ys r = tt
  rises-front (x ∷ xs) ys r = (all-front (Rise x) xs ys r.0, rises-front xs ys r.1)

  -- The second part of what rises rises.
  pub rises-rest : (xs ys : List ℕ) → Rises w (xs ++ ys) → Rises w ys
  rises-rest [] ys r = r
  rises-rest (x ∷ xs) ys r = rises-rest xs ys r.1

  -- Two lists that rise, with no deadline in both, rise one behind the other.
  pub rises-append :
      (xs ys : List ℕ)
      → Rises w xs
      → Rises w ys
      → ((c d : ℕ) → 1 ≤ times c xs → 1 ≤ times d ys → word w c 2 ≡ word w d 2 → ⊥)
      → Rises w (xs ++ ys)
  rises-append [] ys r s apart = s
  rises-append (x ∷ xs) ys r s apart = (
    all_append (Rise x) xs ys r.0
        (all-standing (Rise x) ys (λ d k e. absurd (apart x d (omega (arith, times-here x x xs refl)) (omega arith) e))),
    rises-append xs ys r.1 s (λ c d h k e. apart c d (more c h) k e),
  )
    where
      more : (c : ℕ) → 1 ≤ times c xs → 1 ≤ times c (x ∷ xs)
      more c h = same? x c (λ e. omega (arith, times-here c x xs e)) (λ d. omega (arith, times-past c x xs d))
