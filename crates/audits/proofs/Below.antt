-- Laws of a test at each number below a bound.
-- Assumes nothing.
use Prim.Native.Nat.{ℕ, zero, suc, ◌+◌, ◌≤◌, ◌<◌}
use native.Mathlib.Omega.{arith}
use native.Mathlib.Numerals.{add-one}
use mathlib.Core.Bool.{Bool, true, false}
use mathlib.Core.Path.{◌≡◌, refl, sym}
use Rattle.std.proofs.Common.{◌-◌, length}
use Rattle.std.specs.Bool.{MatchBool}
use Rattle.std.specs.List.{AllWithin, HoldsAt, range_with_len}
use Rattle.std.proofs.lemmas.List.FromFn.{length-range_with_len, get_or-range_with_len}
use Rattle.cells.proofs.Cases.{test, same?, at_most?, clash, and-true, and-false}
use Rattle.audits.specs.AuditTests.{all_below}

module _ (p : ℕ → Bool) where
  -- One more number that passes.
  pub below_step : (n : ℕ) → all_below n p ≡ true → p n ≡ true → all_below (n + 1) p ≡ true
  unfolding all_below
  below_step n a h = rw add-one (rw a h)

  -- A loop that has come to its end.
  pub below_end : (c n : ℕ) → c ≡ n → all_below c p ≡ true → true ≡ all_below n p
  below_end c n e a = sym (rw e at a)

  -- One number that fails makes the whole fail.
  pub below_fails : (n i : ℕ) → i < n → p i ≡ false → all_below n p ≡ false
  unfolding all_below
  below_fails zero i h e = absurd (omega arith)
  below_fails (suc n) i h e =
      same? i n
      (λ q. rw (← q) (rw e (and-false (all_below i p))))
      (λ d. rw (below_fails n i (omega arith) e))

  -- Where all pass each passes, and the other way round.
  pub below_each : (n : ℕ) → all_below n p ≡ true → (i : ℕ) → i < n → p i ≡ true
  unfolding all_below
  below_each zero a i h = absurd (omega arith)
  below_each (suc n) a i h =
      let both = and-true (all_below n p) (p n) a in
      same? i n (λ q. rw q both.1) (λ d. below_each n both.0 i (omega arith))

  pub each_below : (n : ℕ) → ((i : ℕ) → i < n → p i ≡ true) → all_below n p ≡ true
  unfolding all_below
  each_below zero h = refl
  each_below (suc n) h = rw (each_below n (λ i k. h i (omega arith))) (h n (omega arith))

  -- What fails below a bound fails below a higher one.
  pub below-short : (k n : ℕ) → k ≤ n → all_below k p ≡ false → all_below n p ≡ false
  below-short k n h e = test (all_below n p) (λ t. clash (each_below k (λ i l. below_each n t i (omega arith))) e) (λ f. f)

  -- What `all` says of the numbers from low up to n is said of all below n, where those below low pass.
  pub looked_below : (low n : ℕ) → all_below low p ≡ true → (r : Bool)
      → MatchBool r (AllWithin (λ x. p x ≡ true) (range_with_len low (n - low)) 0 (length (range_with_len low (n - low))))
      ((k : ℕ) × (k < length (range_with_len low (n - low))) × HoldsAt (λ x. p x ≡ false) (range_with_len low (n - low)) k)
      → r ≡ all_below n p
  looked_below low n before true each =
      sym
      (each_below n
      (λ i h.
      at_most? low i
      (λ l.
      let near : i - low < n - low = omega arith in
      let same : low + (i - low) ≡ i = omega arith in
      let here = each (i - low) 0 (omega arith) (omega (arith, length-range_with_len low (n - low))) in
      rw (get_or-range_with_len low (n - low) (i - low) 0 near, same) at here)
      (λ l. below_each low before i l)))
  looked_below low n before false (k, near, fails) =
      let within : k < n - low = omega (arith, near, length-range_with_len low (n - low)) in
      sym (below_fails n (low + k) (omega arith) (rw (get_or-range_with_len low (n - low) k 0 within) at (fails 0)))
