-- The tests of the wheel's audit decide its rules.
-- Assumes nothing.
use Prim.Native.Nat.{ℕ, ◌+◌, ◌≤◌}
use mathlib.Core.Bool.{Bool, true, false, ◌&&◌}
use mathlib.Core.List.{List}
use mathlib.Core.Logic.{◌↔◌}
use mathlib.Core.Path.{◌≡◌, sym, ◌∙◌}
use lib.Dec.{leb, eqb}
use lib.ListN.{length}
use borrow.Author.Tests.{leb-true, le-leb, eqb-true, eq-eqb}
use Rattle.cells.specs.Stack.{frees}
use Rattle.cells.specs.Rules.{Sound}
use Rattle.audits.specs.AuditTests.{all_below, shared_test}
use Rattle.audits.specs.Verdicts.{Judged}
use Rattle.std.specs.Option.{is_some}
use Rattle.std.specs.declared.option.Option.{Option}
use Rattle.cells.proofs.Cases.{test, clash, and-true}
use Rattle.audits.proofs.Audits.{shared-decides}
use Rattle.places.specs.Ticks.{last_tick}
use Rattle.slots.specs.Rings.{Lists}
use Rattle.slots.specs.declared.ring.Ends.{Ends}
use Rattle.wheel_rules.specs.Rules.{used_mask, free_mask, WheelSound}
use Rattle.wheel_rules.specs.AuditTests.{dial_test, arrays_test, mark_test, ends_in, noted, list_test, order_test, lists_test, audit_test}
use Rattle.dial.specs.declared.state.Dial.{Dial}
use Rattle.wheel_rules.proofs.Listed.{tests-within, tests-listing, listing-rings, listing-whole, listing-order, listing-marks}

-- The test of the numbers.
dial-rule : (d : Dial) → dial_test d ≡ true → (d.store.counter ≤ 18446744073709551615) × (d.clock ≤ last_tick 64 6)
unfolding dial_test
dial-rule d t =
    let both = and-true (leb d.store.counter 18446744073709551615) (leb d.clock (last_tick 64 6)) t in
    (leb-true _ _ both.0, leb-true _ _ both.1)

-- Numbers that keep the rules pass.
rule-dial : (d : Dial) → d.store.counter ≤ 18446744073709551615 → d.clock ≤ last_tick 64 6 → dial_test d ≡ true
unfolding dial_test
rule-dial d h k = rw (le-leb d.store.counter 18446744073709551615 h, le-leb d.clock (last_tick 64 6) k)

-- The test of the arrays.
pub record Arrays (first last marks : List ℕ) : Type 0 where
  pub firsts : length first ≡ 384
  pub lasts : length last ≡ 384
  pub levels : length marks ≡ 6

-- Arrays that pass have these lengths.
arrays-rule : (first last marks : List ℕ) → arrays_test first last marks ≡ true → Arrays first last marks
unfolding arrays_test
arrays-rule first last marks t =
    let one = and-true (eqb (length first) 384) (eqb (length last) 384 && eqb (length marks) 6) t in
    let two = and-true (eqb (length last) 384) (eqb (length marks) 6) one.1 in
    record { firsts = eqb-true _ _ one.0; lasts = eqb-true _ _ two.0; levels = eqb-true _ _ two.1 }

-- Arrays of these lengths pass.
rule-arrays : (first last marks : List ℕ) → Arrays first last marks → arrays_test first last marks ≡ true
unfolding arrays_test
rule-arrays first last marks r =
    rw (eq-eqb (length first) 384 r.firsts, eq-eqb (length last) 384 r.lasts, eq-eqb (length marks) 6 r.levels)

module _ (l : Lists) (d : Dial) where
  -- The tests, one after the other: of what every engine shares,
  abbrev shared : Bool
  shared = shared_test l.words d.store used_mask free_mask

  -- Of the arrays' lengths.
  abbrev arrays : Bool
  arrays = arrays_test l.first l.last l.marks

  -- Of the marks.
  abbrev marks : Bool
  marks = all_below 384 (mark_test l.first l.marks)

  -- Of the lists.
  abbrev lists : Bool
  lists = lists_test l.words d.store.cells d.clock (ends_in l.first l.last l.due)

  -- What passes all tests is sound.
  tests-sound : dial_test d ≡ true → shared ≡ true → arrays ≡ true → marks ≡ true → lists ≡ true → WheelSound l d
  unfolding lists_test
  tests-sound a b e m z =
      let sound : Sound l.words d.store used_mask free_mask = (shared-decides l.words d.store used_mask free_mask).0 b in
      let dial = dial-rule d a in
      let sized : Arrays l.first l.last l.marks = arrays-rule l.first l.last l.marks e in
      let one = and-true (all_below 385 (list_test w n t ends)) (eqb (length (noted w n t ends 385) + frees w n) n && order_test w (noted w n t ends 385)) z in
      let two = and-true (eqb (length (noted w n t ends 385) + frees w n) n) (order_test w (noted w n t ends 385)) one.1 in
      let whole : length (noted w n t ends 385) + frees w n ≡ n = eqb-true _ _ two.0 in
      let within = tests-within l d sound.size sound.most sized.firsts sized.lasts sized.levels m one.0 whole two.1 in
      record {
        shared = sound;
        counts = dial.0;
        clock = dial.1;
        late = λ c h u. (within c h u).late;
        last = λ c h u. (within c h u).last;
        listing = tests-listing l d sound.size sound.most sized.firsts sized.lasts sized.levels m one.0 whole two.1;
      }
    where
      w : List ℕ
      w = l.words

      n : ℕ
      n = d.store.cells

      t : ℕ
      t = d.clock

      ends : ℕ → Ends
      ends = ends_in l.first l.last l.due

  -- What is sound passes each test.
  module _ (s : WheelSound l d) where
    -- The numbers pass.
    sound-dial : dial_test d ≡ true
    sound-dial = rule-dial d s.counts s.clock

    -- What every engine shares passes.
    sound-shared : shared ≡ true
    sound-shared = (shared-decides l.words d.store used_mask free_mask).1 s.shared

    -- The arrays pass.
    sound-arrays : arrays ≡ true
    sound-arrays =
        rule-arrays l.first l.last l.marks
        (record { firsts = s.listing.stand.firsts; lasts = s.listing.stand.lasts; levels = s.listing.stand.levels })

    -- The marks pass.
    sound-marks : marks ≡ true
    sound-marks = listing-marks l d s.shared.size s.shared.most s.listing s.late s.last

    -- The lists pass.
    sound-lists : lists ≡ true
    unfolding lists_test
    sound-lists =
        rw (
          listing-rings l d s.shared.size s.shared.most s.listing s.late s.last,
          eq-eqb _ _ (listing-whole l d s.shared.size s.shared.most s.listing s.late s.last),
        )
        (listing-order l d s.shared.size s.shared.most s.listing s.late s.last)

  -- All tests together decide soundness.
  pub audit-decides : (audit_test l d ≡ true) ↔ WheelSound l d
  unfolding audit_test
  audit-decides = (to, from)
    where
      to : dial_test d && (shared && (arrays && (marks && lists))) ≡ true → WheelSound l d
      to t =
          let one = and-true (dial_test d) (shared && (arrays && (marks && lists))) t in
          let two = and-true shared (arrays && (marks && lists)) one.1 in
          let three = and-true arrays (marks && lists) two.1 in
          let four = and-true marks lists three.1 in
          tests-sound one.0 two.0 three.0 four.0 four.1

      from : WheelSound l d → dial_test d && (shared && (arrays && (marks && lists))) ≡ true
      from s = rw (sound-dial s, sound-shared s, sound-arrays s, sound-marks s) (sound-lists s)

  -- The code's ways out: by the first test that fails, or by the last.
  module _ (a : Bool) (ea : a ≡ dial_test d) where
    -- The numbers fail.
    pub audit-dial : a ≡ false → false ≡ audit_test l d
    unfolding audit_test
    audit-dial x = rw (sym ea ∙ x)

    module _ (ta : a ≡ true) (v : Option ℕ) (ev : Judged l.words d.store used_mask free_mask v) where
      -- The shared audit's answer is its test.
      answer : is_some v ≡ shared
      answer =
          test (is_some v)
          (λ x. x ∙ sym ((shared-decides l.words d.store used_mask free_mask).1 (ev.exact.0 x)))
          (λ x.
          test shared
          (λ y. clash (ev.exact.1 ((shared-decides l.words d.store used_mask free_mask).0 y)) x)
          (λ y. x ∙ sym y))

      module _ (tv : is_some v ≡ true) (e : Bool) (ee : e ≡ arrays) where
        -- The arrays fail.
        pub audit-arrays : e ≡ false → false ≡ audit_test l d
        unfolding audit_test
        audit-arrays x = rw (sym ea ∙ ta, sym answer ∙ tv, sym ee ∙ x)

        module _ (te : e ≡ true) (m : Bool) (em : m ≡ marks) where
          -- A mark fails.
          pub audit-marks : m ≡ false → false ≡ audit_test l d
          unfolding audit_test
          audit-marks x = rw (sym ea ∙ ta, sym answer ∙ tv, sym ee ∙ te, sym em ∙ x)

          -- All that passes, so that the lists decide.
          pub audit-lists : m ≡ true → (z : Bool) → z ≡ lists → z ≡ audit_test l d
          unfolding audit_test
          audit-lists tm z ez = rw (sym ea ∙ ta, sym answer ∙ tv, sym ee ∙ te, sym em ∙ tm) ez

-- The answer of the audit.
pub audit-answers : (l : Lists) (d : Dial) (r : Bool) → r ≡ audit_test l d → (r ≡ true) ↔ WheelSound l d
audit-answers l d r e = let law = audit-decides l d in (λ t. law.0 (sym e ∙ t), λ s. e ∙ law.1 s)
