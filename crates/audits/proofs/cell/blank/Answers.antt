-- Both halves, or the first that is not zero. Assumes nothing.
use Rattle.std.proofs.Common.{arith, sym, ◌∙◌}
use Rattle.audits.specs.AuditTests.{blank_test}
use Rattle.audits.proofs.Below.{below-short}
use Rattle.audits.proofs.cell.blank.Goals as goal

pub returns-then-lower_blank : goal.returns-then-lower_blank
unfolding blank_test
returns-then-lower_blank c = c.fields_blank.ensures

pub returns-else-lower_blank : goal.returns-else-lower_blank
unfolding blank_test
returns-else-lower_blank c =
    c.if-lower_blank.false
    ∙ sym (below-short _ 4 8 (omega arith) (sym c.lower_blank.ensures ∙ c.if-lower_blank.false))
