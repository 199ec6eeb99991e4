-- A mask without the first four fields asks nothing of them. Assumes nothing.
use Rattle.std.proofs.Common.{arith, refl, ◌∙◌}
use borrow.Author.Tests.{eq-eqb}
use Rattle.audits.specs.AuditTests.{all_below}
use Rattle.audits.proofs.Steps.{lower-none}
use Rattle.audits.proofs.cell.lower_blank.Goals as goal

pub fields_blank-requires : goal.fields_blank-requires
unfolding all_below
fields_blank-requires c = (omega arith, omega arith, refl)

pub returns-then-m-eq0 : goal.returns-then-m-eq0
returns-then-m-eq0 c = eq-eqb _ _ c.if-m-eq0.true ∙ lower-none _ _ _ c.if-m-eq0.true
