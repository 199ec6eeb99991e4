-- One pass over the cells.
-- Assumes nothing.
use Rattle.std.specs.Prelude.{ℕ, ◌+◌, ◌≤◌, cond, ◌&&◌, List, ◌≡◌, leb, is_some, IfSome}
use Rattle.std.specs.declared.option.Option.{Option}
use Rattle.cells.specs.Rules.{Differ}
use Rattle.cells.specs.Stack.{is_free, frees}
use Rattle.audits.specs.AuditTests.{all_below, used_test}
use Rattle.audits.specs.Tables.{EntersBoth}
use Rattle.audits.specs.declared.sweep.Findings.{Findings}
use Rattle.audits.specs.declared.table.Layout.{Layout}

-- What going over cell c finds, from s on, and leaves in the two tables.
pub record Visits (w : List ℕ) (counter used : ℕ) (k : Layout) (c : ℕ) (s : Findings) (t u : List ℕ) (r : Option Findings) (t' u' : List ℕ)
    : Type 0 where
  pub test : is_some r ≡ used_test w counter used c
  pub count : IfSome r (λ f. f.free ≡ s.free + cond (is_free w c) 1 0)
  pub both : IfSome r (λ f. EntersBoth w k c t u s.left f.left t' u')

-- What going over the first n cells finds: whether each entry keeps its rules, how many cells are free, and, where steps are left, that the
-- tickets differ and the order numbers too.
pub record Swept (w : List ℕ) (n counter used : ℕ) (r : Option Findings) : Type 0 where
  pub test : is_some r ≡ leb n 4096 && all_below n (used_test w counter used)
  pub count : IfSome r (λ f. f.free ≡ frees w n)
  pub differ : IfSome r (λ f. 1 ≤ f.left → Differ w n 0 × Differ w n 1)
