-- The steps of the audit's last part, and that all its tests together decide the shared rules.
-- Assumes nothing.
use Prim.Native.Nat.{ℕ, ◌≤◌, ◌<◌, ◌/◌}
use native.Mathlib.Omega.{arith}
use mathlib.Core.Bool.{Bool, true, false, cond, ◌&&◌}
use mathlib.Core.List.{List}
use mathlib.Core.Logic.{◌↔◌}
use mathlib.Core.Path.{◌≡◌, refl, sym, ap, ◌∙◌}
use lib.Dec.{leb, ltb, eqb}
use lib.ListN.{length}
use borrow.Author.Tests.{eq-eqb, eqb-true, leb-true, le-leb, lt-ltb, ltb-true}
use Rattle.cells.specs.Lists.{times}
use Rattle.cell_sort.specs.Sorted.{sort_by, cell_leq, neighbours_differ}
use Rattle.cells.specs.Rules.{in_use, Differ, Sound}
use Rattle.audits.specs.AuditTests.{all_below, blank_test, used_test, differ_test, used_below, size_test, shared_test}
use Rattle.cells.specs.Stack.{stands_as, walks, stack_test}
use Rattle.audits.specs.Sweeping.{Swept}
use Rattle.audits.specs.Verdicts.{Judged, TellsApart}
use Rattle.std.specs.declared.option.Option.TheVariants.{None, Some}
use Rattle.audits.specs.declared.sweep.Findings.{Findings}
use Rattle.cells.specs.declared.store.Store.{Store}
use Rattle.cells.proofs.Cases.{test, clash, and-true}
use Rattle.cell_sort.proofs.Sorting.{times-sort}
use Rattle.cells.proofs.Stacks.{stack_test-exactly}
use Rattle.audits.proofs.Rules.{cells-rules, times-used}
use Rattle.cell_sort.proofs.Distinct.{sorted-differ}
use Rattle.audits.proofs.Steps.{used-length}

-- The first of two tests fails, or the second decides.
pub both_first : (w a : List ℕ) (r : Bool) → r ≡ neighbours_differ w 0 (sort_by (cell_leq w 0 0) a) → r ≡ false → false ≡ differ_test w a
unfolding differ_test
both_first w a r e f = rw (sym e ∙ f)

pub both-second : (w a b : List ℕ) (r q : Bool) → r ≡ neighbours_differ w 0 (sort_by (cell_leq w 0 0) a) → r ≡ true → b ≡ sort_by (cell_leq w 0 0) a
    → q ≡ neighbours_differ w 1 (sort_by (cell_leq w 1 1) b)
    → q ≡ differ_test w a
unfolding differ_test
both-second w a b r q e t p h = rw (sym e ∙ t) (h ∙ ap (λ (l : List ℕ). neighbours_differ w 1 (sort_by (cell_leq w 1 1) l)) p)

pub gathered-few : (w : List ℕ) (n r : ℕ) → r ≡ length (used_below w n) → r ≤ n
gathered-few w n r count = omega (arith, used-length w n)

-- A cell stands in the list of those in use exactly if it is one of them.
used-stands : (w : List ℕ) (n c : ℕ) → c < n → in_use w c ≡ true → 1 ≤ times c (used_below w n)
used-stands w n c h u = rw (times-used w n c) (rw (lt-ltb c n h, u) (omega arith))

stands-used : (w : List ℕ) (n c : ℕ) → 1 ≤ times c (used_below w n) → (c < n) × (in_use w c ≡ true)
stands-used w n c h =
    test (ltb c n && in_use w c)
    (λ t.
    let both = and-true (ltb c n) (in_use w c) t in
    (ltb-true c n both.0, both.1))
    (λ t. absurd (omega (arith, rw t at (times-used w n c))))

used-once : (w : List ℕ) (n c : ℕ) → times c (used_below w n) ≤ 1
used-once w n c = rw (times-used w n c) (go (ltb c n && in_use w c))
  where
    go : (t : Bool) → cond t 1 0 ≤ 1
    go true = omega arith
    go false = omega arith

-- Sorting a list that holds just those cells tells whether they differ.
differ-either : (w xs : List ℕ) (n f : ℕ) → ((c : ℕ) → times c xs ≡ times c (used_below w n))
    → (neighbours_differ w f (sort_by (cell_leq w f f) xs) ≡ true) ↔ Differ w n f
differ-either w xs n f same =
    let law = sorted-differ w f xs (λ c. omega (arith, same c, used-once w n c)) in (
      λ t c d h k u v e. law.0 t c d (omega (arith, same c, used-stands w n c h u)) (omega (arith, same d, used-stands w n d k v)) e,
      λ r.
          law.1
          (λ c d p q e.
          let left = stands-used w n c (omega (arith, same c)) in
          let right = stands-used w n d (omega (arith, same d)) in
          r c d left.0 right.0 left.1 right.1 e),
    )

-- The test of both decides both rules.
differ-rules : (w : List ℕ) (n : ℕ) → (differ_test w (used_below w n) ≡ true) ↔ (Differ w n 0 × Differ w n 1)
unfolding differ_test
differ-rules w n =
    let used = used_below w n in
    let first = sort_by (cell_leq w 0 0) used in
    let tickets = differ-either w used n 0 (λ c. refl) in
    let orders = differ-either w first n 1 (λ c. times-sort (cell_leq w 0 0) c used) in (
      λ t.
          let both = and-true (neighbours_differ w 0 first) (neighbours_differ w 1 (sort_by (cell_leq w 1 1) first)) t in
          (tickets.0 both.0, orders.0 both.1),
      λ r. rw (tickets.1 r.0) (orders.1 r.1),
    )

-- Sizes.
pub record Sized (l : ℕ) (s : Store) : Type 0 where
  pub size : s.cells ≡ l / 8
  pub some : 1 ≤ s.cells
  pub most : s.cells ≤ 4096
  pub counted : 1 ≤ s.counter

pub size-true : (l : ℕ) (s : Store) → size_test l s ≡ true → Sized l s
unfolding size_test
size-true l s t =
    let one = and-true (eqb s.cells (l / 8)) _ t in
    let two = and-true (leb 1 s.cells) (leb s.cells 4096 && leb 1 s.counter) one.1 in
    let three = and-true (leb s.cells 4096) (leb 1 s.counter) two.1 in
    record {
      size = eqb-true _ _ one.0;
      some = leb-true _ _ two.0;
      most = leb-true _ _ three.0;
      counted = leb-true _ _ three.1;
    }

size-sized : (l : ℕ) (s : Store) → Sized l s → size_test l s ≡ true
unfolding size_test
size-sized l s h =
    rw (eq-eqb s.cells (l / 8) h.size, le-leb 1 s.cells h.some, le-leb s.cells 4096 h.most, le-leb 1 s.counter h.counted)

module _ (w : List ℕ) (s : Store) (used free : ℕ) where
  -- Sound memory passes each test.
  sound-size : Sound w s used free → size_test (length w) s ≡ true
  sound-size h = size-sized (length w) s (record { size = h.size; some = h.some; most = h.most; counted = h.counted })

  sound-used : Sound w s used free → all_below s.cells (used_test w s.counter used) ≡ true
  sound-used h = ((cells-rules w s.cells s.counter used free).1 h.cell).0

  sound-stack : Sound w s used free → stack_test w s.cells (blank_test w free) s.free ≡ true
  sound-stack h =
      (stack_test-exactly w s.cells (blank_test w free) s.free h.most).1
      (h.stack, ((cells-rules w s.cells s.counter used free).1 h.cell).1)

  sound-differ : Sound w s used free → differ_test w (used_below w s.cells) ≡ true
  sound-differ h = (differ-rules w s.cells).1 (h.tickets, h.orders)

  -- And memory that passes each is sound.
  sounds : size_test (length w) s ≡ true → all_below s.cells (used_test w s.counter used) ≡ true
      → stack_test w s.cells (blank_test w free) s.free ≡ true
      → Differ w s.cells 0 × Differ w s.cells 1
      → Sound w s used free
  sounds a b c d =
      let sized : Sized (length w) s = size-true (length w) s a in
      let stack = (stack_test-exactly w s.cells (blank_test w free) s.free sized.most).0 c in
      record {
        size = sized.size;
        some = sized.some;
        most = sized.most;
        counted = sized.counted;
        cell = (cells-rules w s.cells s.counter used free).0 (b, stack.1);
        stack = stack.0;
        tickets = d.0;
        orders = d.1;
      }

  -- The tests that every engine shares decide the rules that it shares.
  pub shared-decides : (shared_test w s used free ≡ true) ↔ Sound w s used free
  unfolding shared_test
  shared-decides = (
    λ t.
        let one = and-true (size_test (length w) s) _ t in
        let two = and-true (all_below s.cells (used_test w s.counter used)) _ one.1 in
        let three = and-true (stack_test w s.cells (blank_test w free) s.free) (differ_test w (used_below w s.cells)) two.1 in
        sounds one.0 two.0 three.0 ((differ-rules w s.cells).0 three.1),
    λ h. rw (sound-size h, sound-used h, sound-stack h) (sound-differ h),
  )

  -- The first test that fails.
  refused : (Sound w s used free → ⊥) → Judged w s used free None
  refused n = record { exact = (λ t. clash t refl, λ h. absurd (n h)); count = tt }

  pub refused-size : (r : Bool) → r ≡ size_test (length w) s → r ≡ false → Judged w s used free None
  refused-size r e f = refused (λ h. clash (e ∙ sound-size h) f)

  pub refused-entry : Swept w s.cells s.counter used None → Judged w s used free None
  refused-entry e = refused (λ h. clash (e.test ∙ rw (le-leb s.cells 4096 h.most) (sound-used h)) refl)

  module _ (r : Findings) (seen : Swept w s.cells s.counter used (Some r)) (x : Bool)
      (stack : x ≡ walks w (stands_as w s.cells (blank_test w free)) s.free r.free)
    where
      -- The stack is walked as far as there are free cells.
      stack-walked : x ≡ stack_test w s.cells (blank_test w free) s.free
      unfolding stack_test
      stack-walked = stack ∙ ap (walks w (stands_as w s.cells (blank_test w free)) s.free) seen.count

      pub refused-stack : x ≡ false → Judged w s used free None
      refused-stack f = refused (λ h. clash (stack-walked ∙ sound-stack h) f)

      module _ (size : Bool) (sized : size ≡ size_test (length w) s) (fits : size ≡ true) (walked : x ≡ true) where
        accepted : Differ w s.cells 0 × Differ w s.cells 1 → Judged w s used free (Some r.free)
        accepted d =
            record {
              exact = (
                λ t. sounds (sym sized ∙ fits) (and-true (leb s.cells 4096) _ (sym seen.test)).1 (sym stack-walked ∙ walked) d,
                λ h. refl,
              );
              count = seen.count;
            }

        pub accepted-tables : 1 ≤ r.left → Judged w s used free (Some r.free)
        accepted-tables h = accepted (seen.differ h)

        pub accepted-differ : (b : Bool) → TellsApart w s b → b ≡ true → Judged w s used free (Some r.free)
        accepted-differ b t e = accepted (t.differ e)

-- Whether the numbers differ, as the scattered tables tell it, and as the sort does.
module _ (w : List ℕ) (s : Store) where
  pub apart-sorted : (b : Bool) → b ≡ leb s.cells 4096 && differ_test w (used_below w s.cells) → TellsApart w s b
  apart-sorted b e =
      record {
        differ = λ t. (differ-rules w s.cells).0 (and-true (leb s.cells 4096) (differ_test w (used_below w s.cells)) (sym e ∙ t)).1;
        found = λ m x y. e ∙ rw (le-leb s.cells 4096 m) ((differ-rules w s.cells).1 (x, y));
      }
