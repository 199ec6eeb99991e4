-- Each position looked at is zero, or one of them is not; a filled one is not looked at, and passes.
use Rattle.std.proofs.Common.{rules, arith, ℕ, ◌+◌, ◌-◌, ◌<◌, ◌≡◌, ◌≢◌, refl, sym, List, length, Bool, true, false}
use Rattle.std.specs.Bool.{MatchBool}
use Rattle.std.specs.List.{AllWithin, HoldsAt, range_with_len}
use Rattle.std.proofs.lemmas.Iterator.{cases_from_all, YieldsList-from_range}
use Rattle.std.proofs.lemmas.List.FromFn.{length-range_with_len, get_or-range_with_len}
use borrow.Author.Tests.{tests, lt-ltb}
use Rattle.cells.specs.Words.{word}
use Rattle.cells.proofs.Cases.{at_most?}
use Rattle.audits.specs.AuditTests.{all_below}
use Rattle.audits.proofs.Below.{each_below, below_fails}
use Rattle.queue.specs.AuditTests.{beyond_test}
use Rattle.queue.proofs.AuditSteps.{beyond-zero, beyond-other}
use Rattle.queue.proofs.audit.rest_blank.Goals as goal

module _ (w : List ℕ) (count n : ℕ) where
  abbrev Blank : ℕ → Type 0
  Blank p = word w p 6 ≡ 0

  abbrev Filled : ℕ → Type 0
  Filled p = word w p 6 ≢ 0

  abbrev looked : List ℕ
  looked = range_with_len count (n - count)

  beyond-filled : (p : ℕ) → p < count → beyond_test w count p ≡ true
  unfolding beyond_test
  beyond-filled p h = rw (lt-ltb p count h)

  beyond-looked : (r : Bool) → MatchBool r (AllWithin Blank looked 0 (length looked)) ((k : ℕ) × (k < length looked) × HoldsAt Filled looked k)
      → r ≡ all_below n (beyond_test w count)
  beyond-looked true each =
      sym
      (each_below (beyond_test w count) n
      (λ p h.
      at_most? count p
      (λ l.
      let near : p - count < n - count = omega arith in
      let same : count + (p - count) ≡ p = omega arith in
      let blank = each (p - count) 0 (omega arith) (omega (arith, length-range_with_len count (n - count))) in
      beyond-zero w count p (word w p 6) l refl (rw (get_or-range_with_len count (n - count) (p - count) 0 near, same) at blank))
      (λ l. beyond-filled p l)))
  beyond-looked false (k, near, filled) =
      let within : k < n - count = omega (arith, near, length-range_with_len count (n - count)) in
      sym
      (below_fails (beyond_test w count) n (count + k) (omega arith)
      (beyond-other w count (count + k) (word w (count + k) 6) (omega arith) refl
      (rw (get_or-range_with_len count (n - count) k 0 within) at (filled 0))))

pub returns : goal.returns
returns c =
    let w = c.args.w.now in
    beyond-looked w c.args.count c.args.n _
    (cases_from_all _ _ _ (λ p. word w p 6 ≡ 0) (λ p. word w p 6 ≢ 0) c.all.ensures.ran
    (YieldsList-from_range c.args.count c.args.n (c.args.n - c.args.count) refl refl)
    (λ x q k. search (rules, tests)) (λ x q k. search (rules, tests)))
