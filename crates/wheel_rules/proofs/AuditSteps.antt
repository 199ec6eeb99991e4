-- What the audit's small functions find, as equations of their tests: one law for each way out of a function.
-- Assumes nothing.
use Prim.Native.Nat.{ℕ, ◌+◌, ◌-◌, ◌≤◌, ◌<◌}
use native.Mathlib.Omega.{arith}
use mathlib.Core.Bool.{Bool, true, false}
use mathlib.Core.List.{List}
use mathlib.Core.Path.{◌≡◌, sym, ap, ◌∙◌}
use lib.ListN.{length, take}
use borrow.Author.Tests.{le-leb, eq-eqb, ne_eqb}
use Rattle.cells.specs.Stack.{no_cell, frees}
use Rattle.audits.specs.AuditTests.{all_below}
use Rattle.cell_sort.specs.Sorted.{sorted_list}
use Rattle.cell_sort.proofs.CellSort.{list-fits}
use Rattle.slots.specs.declared.ring.Ends.{Ends}
use Rattle.wheel_rules.specs.AuditTests.{noted, list_test, walk_test, neighbours_rise, order_test, sort_test, lists_test, WalkFound}
use Rattle.wheel_rules.specs.declared.walk.Noted.{Noted}
use Rattle.std.specs.Option.{is_some}
use Rattle.std.specs.declared.option.Option.{Option}
use Rattle.std.specs.declared.option.Option.TheVariants.{None, Some}
use Rattle.wheel_rules.proofs.Noting.{found-few, walk-many, same-front}
use Rattle.wheel_rules.proofs.Climbing.{climbs-order}

-- The lists, by what a walk through them found.
module _ (w : List ℕ) (n t : ℕ) (ends : ℕ → Ends) where
  -- There are too many cells.
  pub sorted-many : no_cell < n → false ≡ sort_test w n t ends
  unfolding sort_test
  sorted-many h = rw (walk-many w n t ends h)

  -- A list is not sound, so that no sort is needed.
  pub sorted-unsound : WalkFound w n t ends None → false ≡ sort_test w n t ends
  unfolding sort_test
  sorted-unsound d = rw (sym d.sound)

  -- The walk is the test of each list.
  each-list : (o : Option Noted) → WalkFound w n t ends o → n ≤ no_cell → is_some o ≡ all_below 385 (list_test w n t ends)
  unfolding walk_test
  each-list o d small = d.sound ∙ rw (le-leb n no_cell small)

  -- A list is not sound.
  pub lists-unsound : WalkFound w n t ends None → n ≤ no_cell → false ≡ lists_test w n t ends
  unfolding lists_test
  lists-unsound d small = rw (sym (each-list None d small))

  module _ (r : Noted) (d : WalkFound w n t ends (Some r)) where
    -- They are sound, and sorted.
    pub sorted-order : (a b : List ℕ) → n ≤ length a → n ≤ length b → take r.count a ≡ noted w n t ends 385
        → (q : Bool)
        → q ≡ neighbours_rise w (sorted_list w 2 2 (take r.count a) (take r.count b))
        → q ≡ sort_test w n t ends
    unfolding order_test sort_test
    sorted-order a b room spare whole q h =
        let few : r.count ≤ n = found-few w n t ends r d in
        let front : length (take r.count a) ≡ length (take r.count b) = same-front r.count a b (omega arith) (omega arith) in
        h
        ∙ ap (neighbours_rise w) (list-fits w 2 2 (take r.count a) (take r.count b) front)
        ∙ rw (sym d.sound, whole)

    module _ (small : n ≤ no_cell) (f : ℕ) (free : f ≡ frees w n) where
      -- They are not those in use.
      pub lists-others : (n - r.count ≡ f → ⊥) → false ≡ lists_test w n t ends
      unfolding lists_test
      lists-others q =
          rw (
            sym (each-list (Some r) d small),
            ne_eqb (length (noted w n t ends 385) + frees w n) n (λ e. q (omega (arith, d.count))),
          )

      module _ (whole : n - r.count ≡ f) where
        -- The order decides.
        lists-order : lists_test w n t ends ≡ order_test w (noted w n t ends 385)
        unfolding lists_test
        lists-order =
            rw (
              sym (each-list (Some r) d small),
              eq-eqb (length (noted w n t ends 385) + frees w n) n (omega (arith, d.count, found-few w n t ends r d)),
            )

        -- Order numbers rise along each list.
        pub lists-climb : r.rise ≡ true → true ≡ lists_test w n t ends
        lists-climb u = sym (lists-order ∙ climbs-order w n t ends (sym d.rise ∙ u))

        -- They do not, so that the sort decides.
        pub lists-sorted : (q : Bool) → q ≡ sort_test w n t ends → q ≡ lists_test w n t ends
        unfolding sort_test
        lists-sorted q h = h ∙ rw (sym d.sound) (sym lists-order)
