-- What one pass over the cells finds, cell by cell.
-- Assumes nothing.
use Prim.Native.Nat.{ℕ, ◌+◌, ◌≤◌, ◌<◌}
use native.Mathlib.Omega.{arith}
use mathlib.Core.Bool.{Bool, true, false, ◌&&◌}
use mathlib.Core.List.{List}
use mathlib.Core.Path.{◌≡◌, refl, sym, ◌∙◌}
use lib.Dec.{leb}
use borrow.Author.Tests.{le-leb}
use Rattle.cells.specs.Lists.{sum_below}
use Rattle.cells.specs.Rules.{in_use}
use Rattle.cells.specs.Stack.{is_free, frees}
use Rattle.cells.proofs.Stacks.{counts-free, counts-used}
use Rattle.audits.specs.AuditTests.{all_below, blank_test, numbered_test, used_test}
use Rattle.audits.specs.Tables.{EntersBoth}
use Rattle.audits.specs.Sweeping.{Visits, Swept}
use Rattle.audits.proofs.Below.{below_step, below_fails}
use Rattle.audits.proofs.Tabled.{Held, held_none, held_next, both-pass}
use Rattle.std.specs.declared.option.Option.TheVariants.{None, Some}
use Rattle.audits.specs.declared.sweep.Findings.{Findings}
use Rattle.audits.specs.declared.table.Layout.{Layout}

-- One cell: it is free, an entry that is sound, or one that is not.
module _ (w : List ℕ) (counter used : ℕ) (k : Layout) (c : ℕ) (s : Findings) (t u : List ℕ) (a : Bool) (free : a ≡ is_free w c) where
  pub visits-free : a ≡ true → Visits w counter used k c s t u (Some (record { free = s.free + 1; left = s.left })) t u
  unfolding used_test in_use
  visits-free e =
      let f : is_free w c ≡ true = sym free ∙ e in
      record { test = rw f; count = rw f; both = both-pass w k c t u s.left (rw f) }

  module _ (b : Bool) (entry : b ≡ numbered_test w counter c && blank_test w used c) (used-now : a ≡ false) where
    f : is_free w c ≡ false
    f = sym free ∙ used-now

    pub visits-entry : (left : ℕ) (t' u' : List ℕ) → b ≡ true → EntersBoth w k c t u s.left left t' u'
        → Visits w counter used k c s t u (Some (record { free = s.free; left = left })) t' u'
    unfolding used_test
    visits-entry left t' u' e both = record { test = rw f (sym e ∙ entry); count = rw f (omega arith); both = both }

    pub visits-broken : b ≡ false → Visits w counter used k c s t u None t u
    unfolding used_test
    visits-broken e = record { test = rw f (sym e ∙ entry); count = tt; both = tt }

-- The cells below c are passed.
pub record Sweeping (w : List ℕ) (counter used : ℕ) (k : Layout) (c : ℕ) (s : Findings) (t u : List ℕ) : Type 0 where
  pub each : all_below c (used_test w counter used) ≡ true
  pub count : s.free ≡ frees w c
  pub few : s.free ≤ c
  pub held : Held w k c t u s.left

module _ (w : List ℕ) (counter used : ℕ) (k : Layout) where
  pub sweeping-none : (left : ℕ) (t u : List ℕ) → Sweeping w counter used k 0 (record { free = 0; left = left }) t u
  unfolding all_below frees sum_below
  sweeping-none left t u = record { each = refl; count = refl; few = omega arith; held = held_none w k t u left }

  pub sweeping-next : (c : ℕ) (s r : Findings) (t u t' u' : List ℕ) → Sweeping w counter used k c s t u
      → Visits w counter used k c s t u (Some r) t' u'
      → Sweeping w counter used k (c + 1) r t' u'
  sweeping-next c s r t u t' u' at v =
      record {
        each = below_step (used_test w counter used) c at.each (sym v.test);
        count = counted (is_free w c) refl;
        few = fewer (is_free w c) refl;
        held = held_next w k c t u t' u' s.left r.left v.both at.held;
      }
    where
      counted : (b : Bool) → is_free w c ≡ b → r.free ≡ frees w (c + 1)
      counted true q = v.count ∙ rw q (counts-free w c s.free at.count q)
      counted false q = v.count ∙ rw q (omega (arith, counts-used w c s.free at.count q))

      fewer : (b : Bool) → is_free w c ≡ b → r.free ≤ c + 1
      fewer true q = let h : r.free ≡ s.free + 1 = v.count ∙ rw q in omega (arith, h, at.few)
      fewer false q = let h : r.free ≡ s.free + 0 = v.count ∙ rw q in omega (arith, h, at.few)

  pub swept_all : (n c : ℕ) (s : Findings) (t u : List ℕ) → n ≤ 4096 → c ≡ n → Sweeping w counter used k c s t u
      → Swept w n counter used (Some s)
  swept_all n c s t u few e at =
      record {
        test = sym (rw (le-leb n 4096 few) (rw e at at.each));
        count = rw e at at.count;
        differ = λ l. (rw e at (at.held.tickets l).differ, rw e at (at.held.orders l).differ);
      }

  pub swept-broken : (n c : ℕ) (s : Findings) (t u t' u' : List ℕ) → c < n → Visits w counter used k c s t u None t' u'
      → Swept w n counter used None
  swept-broken n c s t u t' u' h v = record { test = sym (fail (leb n 4096)); count = tt; differ = tt }
    where
      fail : (b : Bool) → b && all_below n (used_test w counter used) ≡ false
      fail true = below_fails (used_test w counter used) n c h (sym v.test)
      fail false = refl
