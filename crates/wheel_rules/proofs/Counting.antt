-- Lists one behind the other, each cell in the list of its place only: how often it stands in all of them, how many they are, and their order.
-- Assumes nothing.
use Prim.Native.Nat.{ℕ, zero, suc, ◌+◌, ◌≤◌, ◌<◌}
use native.Mathlib.Omega.{arith}
use mathlib.Core.Bool.{Bool, true, false, cond}
use mathlib.Core.List.{List, [], ◌++◌}
use mathlib.Core.Path.{◌≡◌, refl, ◌∙◌}
use lib.Dec.{ltb}
use lib.ListN.{length}
use borrow.Author.Tests.{lt-ltb, le-ltb}
use Rattle.cells.specs.Lists.{All, times, sum_below}
use Rattle.cells.specs.Words.{word}
use Rattle.cells.specs.Stack.{is_free, frees}
use Rattle.cells.proofs.Cases.{test, same?, at_most?, clash}
use Rattle.cells.proofs.Lists.{times-append}
use Rattle.cells.proofs.Sums.{sum_below-same, sum_below-most, sum_below-pinned, length-times, all-standing, sum_below-ones}
use Rattle.wheel_rules.specs.Rules.{Rises}
use Rattle.wheel_rules.proofs.Rising.{rises-front, rises-rest, rises-append}

-- The cells of the first n lists, list after list.
unfoldable pub gathered : (ℕ → List ℕ) → ℕ → List ℕ
gathered ls zero = []
gathered ls (suc n) = gathered ls n ++ ls n

-- A cell that is in use counts 1.
abbrev pub in_use_one : List ℕ → ℕ → ℕ
in_use_one w c = cond (is_free w c) 0 1

-- A cell is free or in use.
used-frees : (w : List ℕ) (n : ℕ) → sum_below (in_use_one w) n + frees w n ≡ n
unfolding frees sum_below
used-frees w zero = refl
used-frees w (suc n) = go (is_free w n) (used-frees w n)
  where
    go : (t : Bool) → sum_below (in_use_one w) n + sum_below (λ (c : ℕ). cond (is_free w c) 1 0) n ≡ n
        → sum_below (in_use_one w) n + cond t 0 1 + (sum_below (λ (c : ℕ). cond (is_free w c) 1 0) n + cond t 1 0) ≡ suc n
    go true h = omega arith
    go false h = omega arith

module _ (ls : ℕ → List ℕ) (place : ℕ → ℕ) (most : ℕ) (own : (i c : ℕ) → i < most → 1 ≤ times c (ls i) → place c ≡ i) where
  -- A cell stands in the list of its place only.
  elsewhere : (i c : ℕ) → i < most → (place c ≡ i → ⊥) → times c (ls i) ≡ 0
  elsewhere i c h d = at_most? 1 (times c (ls i)) (λ k. absurd (d (own i c h k))) (λ k. omega arith)

  -- In all lists below k it stands as often as in that one.
  pub gathered-times : (k c : ℕ) → k ≤ most → times c (gathered ls k) ≡ cond (ltb (place c) k) (times c (ls (place c))) 0
  unfolding gathered
  gathered-times zero c h = rw (le-ltb (place c) 0 (omega arith)) (unfold times in refl)
  gathered-times (suc k) c h = times-append c (gathered ls k) (ls k) ∙ go (gathered-times k c (omega arith))
    where
      go : times c (gathered ls k) ≡ cond (ltb (place c) k) (times c (ls (place c))) 0
          → times c (gathered ls k) + times c (ls k) ≡ cond (ltb (place c) (suc k)) (times c (ls (place c))) 0
      go r =
          same? (place c) k
          (λ e.
          let before : times c (gathered ls k) ≡ 0 = rw (le-ltb (place c) k (omega arith)) at r in
          rw (lt-ltb (place c) (suc k) (omega arith)) (rw e (omega arith)))
          (λ d.
          let here : times c (ls k) ≡ 0 = elsewhere k c (omega arith) d in
          at_most? k (place c)
          (λ l. rw (le-ltb (place c) (suc k) (omega arith)) (omega (arith, rw (le-ltb (place c) k l) at r)))
          (λ l. rw (lt-ltb (place c) (suc k) (omega arith)) (omega (arith, rw (lt-ltb (place c) k l) at r))))

  -- A cell that stands there stands in the list of its place.
  gathered-stands : (k c : ℕ) → k ≤ most → 1 ≤ times c (gathered ls k) → (place c < k) × (1 ≤ times c (ls (place c)))
  gathered-stands k c h s =
      at_most? k (place c)
      (λ l. absurd (omega (arith, rw (le-ltb (place c) k l) at (gathered-times k c h))))
      (λ l. (l, omega (arith, rw (lt-ltb (place c) k l) at (gathered-times k c h))))

  module _ (n : ℕ) (inside : (i c : ℕ) → i < most → 1 ≤ times c (ls i) → c < n) where
    -- Each cell in the lists is one of the first n.
    all-inside : (k : ℕ) → k ≤ most → All (λ (c : ℕ). c < n) (gathered ls k)
    all-inside k h =
        all-standing (λ (c : ℕ). c < n) (gathered ls k)
        (λ c s. let r = gathered-stands k c h s in inside (place c) c (omega (arith, r.0)) r.1)

    -- Their number is the sum of how often each cell stands there.
    counted : (k : ℕ) → k ≤ most → sum_below (λ (c : ℕ). times c (gathered ls k)) n ≡ length (gathered ls k)
    counted k h = length-times n (gathered ls k) (all-inside k h)

    module _ (once : (i c : ℕ) → i < most → times c (ls i) ≤ 1) where
      -- Each stands at most once in all of them.
      gathered-once : (k c : ℕ) → k ≤ most → times c (gathered ls k) ≤ 1
      gathered-once k c h =
          at_most? 1 (times c (gathered ls k))
          (λ s.
          let r = gathered-stands k c h s in
          omega (arith, rw (lt-ltb (place c) k r.0) at (gathered-times k c h), once (place c) c (omega (arith, r.0))))
          (λ s. omega arith)

      -- There are no more than n.
      pub gathered-few : (k : ℕ) → k ≤ most → length (gathered ls k) ≤ n
      gathered-few k h =
          omega (arith, counted k h, sum_below-ones n, sum_below-most (λ (c : ℕ). times c (gathered ls k)) (λ (c : ℕ). 1) n (λ c l. gathered-once k c h))

      -- As many as are in use, all of them in use: each cell in use stands there.
      pub gathered-whole :
          (w : List ℕ)
          → ((i c : ℕ) → i < most → 1 ≤ times c (ls i) → is_free w c ≡ false)
          → length (gathered ls most) + frees w n ≡ n
          → (c : ℕ)
          → c < n
          → times c (gathered ls most) ≡ in_use_one w c
      gathered-whole w used whole =
          sum_below-pinned (λ (c : ℕ). times c (gathered ls most)) (in_use_one w) n
          (λ c l. test (is_free w c) (λ e. rw e (omega (arith, free c e))) (λ e. rw e (gathered-once most c (omega arith))))
          (omega (arith, counted most (omega arith), used-frees w n))
        where
          free : (c : ℕ) → is_free w c ≡ true → times c (gathered ls most) ≡ 0
          free c e =
              at_most? 1 (times c (gathered ls most))
              (λ s. let r = gathered-stands most c (omega arith) s in clash e (used (place c) c r.0 r.1))
              (λ s. omega arith)

    -- Where each cell in use stands there once, and no other does, they are as many as are in use.
    pub gathered-count : (w : List ℕ) → ((c : ℕ) → c < n → times c (gathered ls most) ≡ in_use_one w c) → length (gathered ls most) + frees w n ≡ n
    gathered-count w each =
        omega (arith, counted most (omega arith), used-frees w n, sum_below-same (λ (c : ℕ). times c (gathered ls most)) (in_use_one w) n each)

-- Where the place goes by the deadline, the lists together rise exactly if each does.
module _ (w : List ℕ) (ls : ℕ → List ℕ) where
  -- Each list of lists that rise together rises.
  pub rises-each : (k i : ℕ) → i < k → Rises w (gathered ls k) → Rises w (ls i)
  unfolding gathered
  rises-each zero i h r = absurd (omega arith)
  rises-each (suc k) i h r =
      same? i k
      (λ e. rw e (rises-rest w (gathered ls k) (ls k) r))
      (λ d. rises-each k i (omega arith) (rises-front w (gathered ls k) (ls k) r))

  module _ (at : ℕ → ℕ) (most : ℕ) (own : (i c : ℕ) → i < most → 1 ≤ times c (ls i) → at (word w c 2) ≡ i) where
    -- Lists that rise each rise together.
    pub each-rises : (k : ℕ) → k ≤ most → ((i : ℕ) → i < most → Rises w (ls i)) → Rises w (gathered ls k)
    unfolding gathered
    each-rises zero h r = tt
    each-rises (suc k) h r =
        rises-append w (gathered ls k) (ls k) (each-rises k (omega arith) r) (r k (omega arith))
        (λ c d s u e.
        let before : at (word w c 2) < k = (gathered-stands ls (λ (x : ℕ). at (word w x 2)) most own k c (omega arith) s).0 in
        let here : at (word w d 2) ≡ k = own k d (omega arith) u in
        omega (arith, rw e at before))
