-- The deadlines that may stand in a list are those of its span of ticks.
-- Assumes nothing.
use Prim.Native.Nat.{ℕ, ◌+◌, ◌-◌, ◌*◌, ◌/◌, ◌%◌, ◌^◌, ◌≤◌, ◌<◌}
use native.Mathlib.Nat.{one-le-pow}
use native.Mathlib.Omega.{arith}
use mathlib.Core.Bool.{true, false, ◌&&◌, ◌||◌}
use mathlib.Core.Path.{◌≡◌, sym, ap, ◌∙◌}
use lib.Dec.{leb, ltb, eqb}
use borrow.Author.Tests.{leb-true, le-leb, ltb-true, ltb-false, lt-ltb, eqb-true, eq-eqb}
use Rattle.cells.proofs.Cases.{test, same?, clash, and-true, or-true, or-false}
use Rattle.places.specs.Ticks.{digit, level, last_tick, wake_tick}
use Rattle.places.specs.Answers.{wake_answer}
use Rattle.places.proofs.Digits.{tick-below, tick-upto}
use Rattle.places.proofs.Spans.{Spanned, own-span, span-after, span-tick, span-place, span-ends}
use Rattle.dial.specs.Turns.{list_number, list_of}
use Rattle.dial.proofs.Numbers.{number-due, number-slot, number-most, number-only}
use Rattle.wheel_rules.specs.AuditTests.{stands_in}
use Rattle.wheel_rules.specs.Spans.{in_span, SpanOf}
use Rattle.wheel_rules.specs.declared.span.Span.{Span}

-- What the test of a deadline finds.
pub record StandsIn (t i e : ℕ) : Type 0 where
  pub late : t ≤ e
  pub last : e ≤ last_tick 64 6
  pub place : list_of t e ≡ i

module _ (t i e : ℕ) where
  -- The test of a deadline finds its rules.
  pub stands-rule : stands_in t i e ≡ true → StandsIn t i e
  unfolding stands_in
  stands-rule h =
      let one = and-true (leb t e) (leb e (last_tick 64 6) && eqb (list_of t e) i) h in
      let two = and-true (leb e (last_tick 64 6)) (eqb (list_of t e) i) one.1 in
      record { late = leb-true _ _ one.0; last = leb-true _ _ two.0; place = eqb-true _ _ two.1 }

  -- A deadline that keeps the rules passes.
  pub rule-stands : StandsIn t i e → stands_in t i e ≡ true
  unfolding stands_in
  rule-stands s = rw (le-leb t e s.late, le-leb e (last_tick 64 6) s.last, eq-eqb (list_of t e) i s.place)

module _ (t i : ℕ) where
  -- A span whose ticks are deadlines of the list, with no other such deadline, is the list's.
  span-exact : (s : Span)
      → ((e : ℕ) → s.low ≤ e → e ≤ s.high → StandsIn t i e)
      → ((e : ℕ) → StandsIn t i e → (s.low ≤ e) × (e ≤ s.high))
      → SpanOf t i s
  unfolding in_span
  span-exact s to from =
      record {
        exact = λ e.
            test (stands_in t i e)
            (λ y. let r = from e (stands-rule t i e y) in rw (le-leb s.low e r.0, le-leb e s.high r.1) (sym y))
            (λ y.
            test (leb s.low e && leb e s.high)
            (λ x.
            let both = and-true (leb s.low e) (leb e s.high) x in
            clash (rule-stands t i e (to e (leb-true _ _ both.0) (leb-true _ _ both.1))) y)
            (λ x. x ∙ sym y));
      }

  -- A list of no deadline has no tick.
  span_none : ((e : ℕ) → StandsIn t i e → ⊥) → (s : Span) → s.low ≡ 1 → s.high ≡ 0 → SpanOf t i s
  span_none h s x y = span-exact s (λ e l k. absurd (omega arith)) (λ e r. absurd (h e r))

  -- The clock is no tick, or there is no such list.
  pub span-no-list : (ltb 68719476735 t || ltb 384 i) ≡ true → (s : Span) → s.low ≡ 1 → s.high ≡ 0 → SpanOf t i s
  unfolding last_tick
  span-no-list h =
      span_none
      (λ e r.
      or-true (ltb 68719476735 t) (ltb 384 i) h
      (λ x. omega (arith, ltb-true 68719476735 t x, r.late, r.last))
      (λ x. omega (arith, ltb-true 384 i x, r.place, number-most t e)))

  module _ (some : (ltb 68719476735 t || ltb 384 i) ≡ false) where
    -- The clock is a tick, and there is such a list.
    known : (t ≤ 68719476735) × (i ≤ 384)
    known = let both = or-false (ltb 68719476735 t) (ltb 384 i) some in (ltb-false _ _ both.0, ltb-false _ _ both.1)

    -- The due list has the clock alone.
    pub span-due : i ≡ 384 → (s : Span) → s.low ≡ t → s.high ≡ t → SpanOf t i s
    unfolding last_tick
    span-due q s x y =
        span-exact s
        (λ e l k. record { late = omega arith; last = omega (arith, known); place = number-due t e (omega arith) ∙ sym q })
        (λ e r. let here : t ≡ e = number-only t e (r.place ∙ q) in (omega arith, omega arith))

  module _ (tick : t ≤ 68719476735) (below : i < 384) where
    -- The clock has no digit above the six.
    clock-below : t < 64 ^ 6
    unfolding last_tick
    clock-below = omega arith

    -- A deadline of the slot lies in the span of its level and digit,
    stands-spanned : (e : ℕ) → StandsIn t i e → Spanned 64 t (i / 64) (i % 64) e
    unfolding digit
    stands-spanned e r =
        let later : t < e = same? t e (λ q. absurd (omega (arith, number-due t e q, r.place))) (λ d. omega (arith, r.late)) in
        let number : list_of t e ≡ level 64 6 t e * 64 + digit 64 (level 64 6 t e) e = number-slot t e (λ q. omega arith) in
        let small : digit 64 (level 64 6 t e) e < 64 = omega arith in
        let here : level 64 6 t e ≡ i / 64 = omega (arith, r.place) in
        let at : digit 64 (level 64 6 t e) e ≡ i % 64 = omega (arith, r.place) in
        rw (at, here) at (own-span 64 6 t e later (tick-below 64 6 e (omega arith) r.last))

    -- and a tick of that span is a deadline of the slot.
    spanned-stands : (e : ℕ) → Spanned 64 t (i / 64) (i % 64) e → StandsIn t i e
    unfolding list_of list_number
    spanned-stands e r =
        let low : i / 64 < 6 = omega arith in
        let small : i % 64 < 64 = omega arith in
        record {
          late = omega (arith, span-after 64 6 t (i / 64) (i % 64) (omega arith) clock-below low small e r);
          last = tick-upto 64 6 e (span-tick 64 6 t (i / 64) (i % 64) (omega arith) clock-below low small e r);
          place = ap list_number (span-place 64 6 t (i / 64) (i % 64) (omega arith) clock-below low small e r) ∙ omega arith;
        }

    module _ (g : ℕ) (clocks : g ≡ digit 64 (i / 64) t) where
      -- The clock is at the slot, or past it.
      pub span-passed : i % 64 ≤ g → (s : Span) → s.low ≡ 1 → s.high ≡ 0 → SpanOf t i s
      span-passed h = span_none (λ e r. omega (arith, (stands-spanned e r).over))

      module _ (ahead : g < i % 64) (low : ℕ) (wakes : low ≡ wake_answer t (i / 64) (i % 64)) where
        -- The slot's wake tick.
        wake : low ≡ wake_tick 64 t (i / 64) (i % 64)
        unfolding wake_answer
        wake = wakes ∙ rw (lt-ltb (i / 64) 6 (omega arith), lt-ltb (i % 64) 64 (omega arith))

        -- Its span ends with the ticks at the latest, so that no number in it is too large.
        pub span-room : (u : ℕ) → u ≡ 64 ^ (i / 64) → (1 ≤ u) × (low + u ≤ 68719476736)
        span-room u q =
            let some : 0 < 64 ^ (i / 64) = one-le-pow (i / 64) 64 (omega arith) in
            let most : wake_tick 64 t (i / 64) (i % 64) + 64 ^ (i / 64) ≤ 64 ^ 6 =
            span-ends 64 6 t (i / 64) (i % 64) (omega arith) clock-below (omega arith) (omega arith) (omega arith) in
            (omega arith, omega (arith, wake))

        -- The slot's ticks.
        pub span-ahead : (u : ℕ) → u ≡ 64 ^ (i / 64) → (s : Span) → s.low ≡ low → s.high ≡ low + u - 1 → SpanOf t i s
        span-ahead u q s x y =
            let room = span-room u q in
            span-exact s
            (λ e l k. spanned-stands e (record { over = omega arith; from = omega (arith, wake); until = omega (arith, wake) }))
            (λ e r. let v = stands-spanned e r in (omega (arith, wake, v.from), omega (arith, wake, v.until)))
