-- None is laid, and one more is.
use Rattle.std.proofs.Common.{rules}
use Rattle.script.specs.Answers.{spaced}
use Rattle.script.proofs.Laying.{numbers-again}
use Rattle.script.proofs.writing.Page.numbers.Goals as goal

pub loop-n-init : goal.loop-n-init
loop-n-init c = unfold spaced in c.text.ensures

pub loop-n-preserved : goal.loop-n-preserved
loop-n-preserved c = record {
  bytes = (search rules, search rules);
  written = numbers-again _ _ _ _ _ _ _ _ c.loop-n-test.true c.loop-n.invariant.written c.spaced.ensures.written;
}
