-- By the number's range; the byte's is the check's own.
use Rattle.std.proofs.Common.{◌∙◌, arith}
use Rattle.script.proofs.Fields.{digit-yes, above_tenth, one-digit-sum}
use Rattle.script.proofs.reading.one_digit.Goals as goal

pub returns-in_err-tens : goal.returns-in_err-tens
returns-in_err-tens c = c.from_residual.ensures ∙ above_tenth _ _ (omega (arith, c.in_err-tens.ensures))

pub returns : goal.returns
returns c =
    one-digit-sum _ _ _ _ _ (digit-yes _ (omega arith) (omega arith)) c.in_ok-tens.ensures.1 c.from.ensures c.checked_add.ensures
