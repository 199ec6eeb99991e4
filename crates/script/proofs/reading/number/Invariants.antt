-- The loop's invariant: the value so far fits, and with the digits to come it gives the number.
use Rattle.std.proofs.Common.{◌≡◌, ◌≤◌, drop}
use Rattle.script.proofs.Fields.{digits_from}
use Rattle.script.proofs.reading.number.Given as goal

abbrev pub invariant-loop-b : goal.invariant-loop-b
invariant-loop-b l = record {
  fits : l.value ≤ 18446744073709551615;
  left : digits_from l.value (drop l.b-index l.s) ≡ digits_from 0 l.s;
}
