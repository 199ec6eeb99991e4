-- The loop's invariant: the value so far and the bytes to come give the word, and so many bytes make less than that power of 256.
use Rattle.std.proofs.Common.{◌≡◌, ◌<◌, ◌^◌, drop}
use Rattle.script.proofs.Fields.{word_from}
use Rattle.script.proofs.reading.word.Given as goal

abbrev pub invariant-loop-b : goal.invariant-loop-b
invariant-loop-b l = record {
  fits : l.value < 256 ^ l.b-index;
  left : word_from l.value (drop l.b-index l.s) ≡ word_from 0 l.s;
}
