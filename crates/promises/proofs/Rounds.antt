-- Repeated calls to one target answer *done* at call ceil(k/r), or at the first when k is 0.
-- Assumes nothing.
use Prim.Native.Nat.{ℕ, zero, suc, ◌+◌, ◌-◌, ◌*◌, ◌/◌, ◌≤◌, ◌<◌}
use native.Mathlib.Omega.{arith}
use native.Mathlib.Nat.{div-lt_iff_lt-mul}
use mathlib.Core.Path.{◌≡◌, sym, ap, ◌∙◌}
use lib.Dec.{leb}
use borrow.Author.Tests.{le-leb, lt-leb}
use Rattle.cells.proofs.Cases.{at_most?}
use Rattle.places.specs.Ticks.{last_tick}
use Rattle.meaning.specs.Plain.{Plain, apply}
use Rattle.meaning.specs.Refusals.{Free}
use Rattle.meaning.specs.Calls.{Advance, report_of, result, causes, hand_out, due_by}
use Rattle.meaning.specs.Runs.{after}
use Rattle.meaning.proofs.Due.{due-length, due-front, due-next, due-split}
use Rattle.promises.specs.Rounds.{ceil, done_after}
use Rattle.meaning.proofs.Handed.{advance-free, advance-done, advance-more}

-- Two tests of numbers that say the same are equal.
leb-same : (a b c d : ℕ) → (a ≤ b → c ≤ d) → (c ≤ d → a ≤ b) → leb a b ≡ leb c d
leb-same a b c d f g =
    at_most? a b
    (λ h. le-leb a b h ∙ sym (le-leb c d (f h)))
    (λ h. at_most? c d (λ k. absurd (omega (arith, g k))) (λ k. lt-leb a b h ∙ sym (lt-leb c d k)))

-- ceil(k/r) is at most i exactly if i times r is k or more.
ceil-at_most : (k r i : ℕ) → 0 < r → leb (ceil k r) i ≡ leb k (i * r)
unfolding ceil
ceil-at_most k r i p =
    leb-same ((k + (r - 1)) / r) i k (i * r)
    (λ h. omega (arith, (div-lt_iff_lt-mul {k = r} {x = k + (r - 1)} {y = suc i} p).0 (omega arith)))
    (λ h. omega (arith, (div-lt_iff_lt-mul {k = r} {x = k + (r - 1)} {y = suc i} p).1 (omega arith)))

module _ (b n t r : ℕ) (inside : t ≤ last_tick b n) where
  -- One call hands out r of those due, or all.
  fewer : (s : Plain) → s.clock ≤ t
      → ((result b n (Advance t r) s).next.clock ≤ t) × (due_by t (result b n (Advance t r) s).next.entries ≡ due_by t s.entries - r)
  unfolding result hand_out apply
  fewer s h =
      let f : Free (causes b n (Advance t r) s) = advance-free b n t r s h inside in
      at_most? (due_by t s.entries) r
      (λ k.
      rw (advance-done b n t r s f k) (
        omega arith,
        omega (
          arith,
          due-split t (due_by t s.entries) s.entries (due-length t s.entries) (due-front t (due_by t s.entries) s.entries (omega arith)),
        ),
      ))
      (λ k.
      rw (advance-more b n t r s f k) (
        due-next t r s.entries k,
        omega (arith, due-split t r s.entries (omega (arith, due-length t s.entries)) (due-front t r s.entries (omega arith))),
      ))

  -- One call answers *done* exactly if it has room for all that is due.
  done-now : (s : Plain) → s.clock ≤ t → (report_of (result b n (Advance t r) s).answer).done ≡ leb (due_by t s.entries) r
  unfolding result hand_out report_of
  done-now s h =
      let f : Free (causes b n (Advance t r) s) = advance-free b n t r s h inside in
      at_most? (due_by t s.entries) r
      (λ k. rw (advance-done b n t r s f k) (sym (le-leb (due_by t s.entries) r k)))
      (λ k. rw (advance-more b n t r s f k) (sym (lt-leb (due_by t s.entries) r k)))

  done-after : (i : ℕ) (s : Plain) → s.clock ≤ t → done_after b n t r i s ≡ leb (due_by t s.entries) (suc i * r)
  unfolding done_after after
  done-after zero s h = done-now s h ∙ ap (leb (due_by t s.entries)) (omega arith)
  done-after (suc i) s h =
      let one = fewer s h in
      done-after i (result b n (Advance t r) s).next one.0
      ∙ ap (λ (k : ℕ). leb k (suc i * r)) one.1
      ∙ leb-same (due_by t s.entries - r) (suc i * r) (due_by t s.entries) (suc (suc i) * r) (λ l. omega arith) (λ l. omega arith)

  -- The call after i equal ones answers *done* exactly if ceil(k/r) is at most its number, i + 1.
  pub rounds : (i : ℕ) (s : Plain) → 0 < r → s.clock ≤ t → done_after b n t r i s ≡ leb (ceil (due_by t s.entries) r) (suc i)
  rounds i s p h = done-after i s h ∙ sym (ceil-at_most (due_by t s.entries) r (suc i) p)
