-- Digit by digit.
use Rattle.std.proofs.Common.{sym, ◌∙◌, rules, tests}
use Rattle.script.proofs.Fields.{digit-fits, number_digits, digits-again, digits-refused, digits-over}
use Rattle.script.proofs.reading.number.Goals as goal

pub returns-in_err-value : goal.returns-in_err-value
returns-in_err-value c =
    c.from_residual.ensures
    ∙ digits-refused _ _ _ c.loop-b-test.true (sym c.in_err-value.was ∙ c.one_digit.ensures) c.loop-b.invariant.left
    ∙ sym (number_digits _ (search (rules, tests)) (search rules))

pub loop-b-preserved : goal.loop-b-preserved
loop-b-preserved c =
    let e = sym c.in_ok-value.was ∙ c.one_digit.ensures in
    record { fits = digit-fits _ _ _ e; left = digits-again _ _ _ _ c.loop-b-test.true e c.loop-b.invariant.left }

pub returns : goal.returns
returns c =
    digits-over _ _ _ c.loop-b-test.false c.loop-b.invariant.fits c.loop-b.invariant.left
    ∙ sym (number_digits _ (search (rules, tests)) (search rules))
