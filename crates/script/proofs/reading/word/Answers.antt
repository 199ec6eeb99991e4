-- Byte by byte.
use Rattle.std.proofs.Common.{sym, ◌∙◌, arith, rules, tests}
use Rattle.script.proofs.Fields.{word_bytes, word-again, word_over, word-larger}
use Rattle.script.proofs.reading.word.Goals as goal

pub loop-b-preserved : goal.loop-b-preserved
loop-b-preserved c = record {
  fits = word-larger _ _ _ c.loop-b.invariant.fits (omega arith);
  left = word-again _ _ _ _ c.loop-b-test.true c.from.ensures (omega arith) c.loop-b.invariant.left;
}

pub returns : goal.returns
returns c =
    word_over _ _ _ c.loop-b-test.false c.loop-b.invariant.left
    ∙ sym (word_bytes _ (search (rules, tests)) (search rules))
