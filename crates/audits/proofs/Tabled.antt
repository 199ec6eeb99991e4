-- A cell put into the first empty slot from its word's start on, past cells with other words, differs from all that stand in the table.
-- Assumes nothing.
use Prim.Native.Nat.{ℕ, ◌+◌, ◌≤◌}
use native.Mathlib.Omega.{arith}
use mathlib.Core.Bool.{false}
use mathlib.Core.List.{List}
use mathlib.Core.Path.{◌≡◌, sym, ap, ◌∙◌}
use Rattle.cells.specs.Rules.{in_use}
use Rattle.cells.proofs.Cases.{same?, clash}
use Rattle.audits.specs.Tables.{Passed, Table, EntersBoth}
use Rattle.audits.specs.declared.table.Layout.{Layout}

-- A look for the key that has come from slot i to slot j of a table that is as it was.
pub record Looking (w : List ℕ) (f key i : ℕ) (t₀ t : List ℕ) (j : ℕ) : Type 0 where
  pub same : t ≡ t₀
  pub from : i ≤ j
  pub passed : Passed w f key t i j

-- A free cell is not put in.
table-free : (w : List ℕ) (f : ℕ) (k : Layout) (c : ℕ) (t : List ℕ) → in_use w c ≡ false → Table w f k c t → Table w f k (c + 1) t
table-free w f k c t free table =
    record {
      sits = λ d h u. same? d c (λ q. clash (sym (ap (in_use w) q) ∙ u) free) (λ n. table.sits d (omega arith) u);
      differ =
          λ a b h l u v e.
          same? a c
          (λ p. clash (sym (ap (in_use w) p) ∙ u) free)
          (λ p. same? b c (λ q. clash (sym (ap (in_use w) q) ∙ v) free) (λ q. table.differ a b (omega arith) (omega arith) u v e));
    }

-- A table holds no cell below 0.
table_none : (w : List ℕ) (f : ℕ) (k : Layout) (t : List ℕ) → Table w f k 0 t
table_none w f k t = record { sits = λ d h u. absurd (omega arith); differ = λ a b h l u v e. absurd (omega arith) }

-- Both tables: a free cell changes neither.
module _ (w : List ℕ) (k : Layout) (c : ℕ) where
  pub both-pass : (t u : List ℕ) (left : ℕ) → in_use w c ≡ false → EntersBoth w k c t u left left t u
  both-pass t u left e =
      record { fewer = omega arith; tickets = λ h table. table-free w 0 k c t e table; orders = λ h table. table-free w 1 k c u e table }

-- Where steps are left, the cells below c stand in both tables.
pub record Held (w : List ℕ) (k : Layout) (c : ℕ) (t u : List ℕ) (left : ℕ) : Type 0 where
  pub tickets : 1 ≤ left → Table w 0 k c t
  pub orders : 1 ≤ left → Table w 1 k c u

pub held_none : (w : List ℕ) (k : Layout) (t u : List ℕ) (left : ℕ) → Held w k 0 t u left
held_none w k t u left = record { tickets = λ h. table_none w 0 k t; orders = λ h. table_none w 1 k u }

pub held_next : (w : List ℕ) (k : Layout) (c : ℕ) (t u t' u' : List ℕ) (given left : ℕ) → EntersBoth w k c t u given left t' u'
    → Held w k c t u given
    → Held w k (c + 1) t' u' left
held_next w k c t u t' u' given left e v =
    record {
      tickets = λ h. e.tickets h (v.tickets (omega (arith, e.fewer)));
      orders = λ h. e.orders h (v.orders (omega (arith, e.fewer)));
    }
