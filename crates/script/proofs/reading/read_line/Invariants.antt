-- The loop's invariant: the numbers so far and the fields to come give what all the fields after the word do.
use Rattle.std.proofs.Common.{◌≡◌, Some, length, drop, eqb}
use Rattle.std.specs.List.{slice_split}
use Rattle.script.specs.Steps.{fields_from}
use Rattle.script.specs.declared.reading.Numbers.TheVariants as numbers
use Rattle.script.proofs.reading.read_line.Given as goal

abbrev pub invariant-loop-field : goal.invariant-loop-field
invariant-loop-field l =
    fields_from (Some l.numbers) (drop (length l.yielded) (drop 1 (slice_split (λ b. eqb b 32) l.s)))
    ≡ fields_from (Some numbers.Zero) (drop 1 (slice_split (λ b. eqb b 32) l.s))
