-- The loop's invariant: the numbers so far are laid.
use Rattle.std.proofs.Common.{take}
use Rattle.script.specs.Answers.{spaced}
use Rattle.script.specs.Pages.{same_bytes, Written}
use Rattle.script.proofs.writing.Page.numbers.Given as goal

abbrev pub invariant-loop-n : goal.invariant-loop-n
invariant-loop-n l = record {
  bytes : same_bytes l.fn.self l.self;
  written : Written l.fn.self (spaced (take l.n-index l.ns)) l.self;
}
