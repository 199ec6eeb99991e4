-- A line that sets a queue up has "N 1 to 512".
-- Assumes nothing.
use Prim.Native.Nat.{ℕ, ◌≤◌}
use native.Mathlib.Omega.{arith}
use mathlib.Core.Bool.{Bool, true, false, cond}
use mathlib.Core.Path.{◌≡◌, subst}
use lib.Dec.{eqb}
use borrow.Author.Tests.{le-leb, lt-leb, eq-eqb, ne_eqb}
use Rattle.cells.proofs.Cases.{same?, at_most?}
use Rattle.std.specs.Prelude.{Option, None, Some}
use Rattle.script.specs.declared.reading.Line.{Line}
use Rattle.script.specs.declared.reading.Numbers.{Numbers}
use Rattle.script.specs.declared.reading.Numbers.TheVariants as numbers
use Rattle.queue_script.specs.Commands.{queue_of, of_none, of_two, of_three, of_line, command_of}
use Rattle.queue_script.specs.Runs.{opening_of}
use Rattle.queue_script.specs.declared.commands.Opening.{Opening}
use Rattle.queue_script.specs.declared.commands.Command.{Command}
use Rattle.queue_script.specs.declared.commands.Command.TheVariants as command

-- What holds of the numbers of a first line.
abbrev Sized : Option Opening → Type 0
Sized None = Unit {0}
Sized (Some o) = (1 ≤ o.cells) × (o.cells ≤ 512)

-- Of two commands either sets a queue within the range up, or none.
either : (t : Bool) (x y : Option Command) → Sized (opening_of x) → Sized (opening_of y) → Sized (opening_of (cond t x y))
either true x y p q = p
either false x y p q = q

queue-sized : (n d : ℕ) → Sized (opening_of (queue_of n d))
unfolding queue_of opening_of
queue-sized n d =
    same? n 0 (λ e. rw (eq-eqb n 0 e) tt)
    (λ e.
    rw (ne_eqb n 0 e)
    (at_most? n 512 (λ h. rw (le-leb n 512 h) (omega arith, h)) (λ h. rw (lt-leb n 512 h) tt)))

line-sized : (w : ℕ) (n : Numbers) → Sized (opening_of (of_line w n))
unfolding of_line of_none of_two of_three opening_of
line-sized w numbers.Zero = either (eqb w 70) (Some command.First) _ tt (either (eqb w 84) (Some command.Take) None tt tt)
line-sized w (numbers.One a) = tt
line-sized w (numbers.Two a b) =
    either (eqb w 80) (Some (command.Put a b)) _ tt
    (either (eqb w 82) (Some (command.Remove a b)) _ tt (either (eqb w 487300887909) _ None (queue-sized a b) tt))
line-sized w (numbers.Three a b c) = either (eqb w 75) (Some (command.Rekey a b c)) None tt tt

sized : (r : Option Line) → Sized (opening_of (command_of r))
unfolding command_of opening_of
sized None = tt
sized (Some l) = line-sized l.word l.numbers

pub size-bound : (r : Option Line) (o : Opening) → opening_of (command_of r) ≡ Some o → (1 ≤ o.cells) × (o.cells ≤ 512)
size-bound r o e = subst Sized e (sized r)
