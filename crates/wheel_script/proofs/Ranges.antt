-- A line that is an advance has "room 0 to 64", and one that sets a wheel up has "N 1 to 512".
-- Assumes nothing.
use Prim.Native.Nat.{ℕ, ◌≤◌}
use native.Mathlib.Omega.{arith}
use mathlib.Core.Bool.{Bool, true, false, cond}
use mathlib.Core.Path.{◌≡◌, subst}
use lib.Dec.{leb, eqb}
use borrow.Author.Tests.{leb-true, le-leb, lt-leb, eq-eqb, ne_eqb}
use Rattle.cells.proofs.Cases.{test, same?, at_most?}
use Rattle.std.specs.Prelude.{Option, None, Some}
use Rattle.script.specs.declared.reading.Line.{Line}
use Rattle.script.specs.declared.reading.Numbers.{Numbers}
use Rattle.script.specs.declared.reading.Numbers.TheVariants as numbers
use Rattle.wheel_script.specs.Commands.{wheel_of, advance_of, of_two, of_three, of_line, command_of}
use Rattle.wheel_script.specs.Runs.{opening_of}
use Rattle.wheel_script.specs.declared.commands.Opening.{Opening}
use Rattle.wheel_script.specs.declared.commands.Command.{Command}
use Rattle.wheel_script.specs.declared.commands.Command.TheVariants as command

-- What holds of the numbers of a command.
abbrev Ranged : Option Command → Type 0
Ranged None = Unit {0}
Ranged (Some (command.Wheel n t)) = (1 ≤ n) × (n ≤ 512)
Ranged (Some (command.Arm e x)) = Unit {0}
Ranged (Some (command.Cancel c k)) = Unit {0}
Ranged (Some (command.Move c k e)) = Unit {0}
Ranged (Some (command.Advance t r)) = r ≤ 64

-- Of two commands within their ranges, either is.
either : (t : Bool) (x y : Option Command) → Ranged x → Ranged y → Ranged (cond t x y)
either true x y p q = p
either false x y p q = q

advance-ranged : (t r : ℕ) → Ranged (advance_of t r)
unfolding advance_of
advance-ranged t r = test (leb r 64) (λ e. rw e (leb-true r 64 e)) (λ e. rw e tt)

wheel-ranged : (n t : ℕ) → Ranged (wheel_of n t)
unfolding wheel_of
wheel-ranged n t =
    same? n 0 (λ e. rw (eq-eqb n 0 e) tt)
    (λ e.
    rw (ne_eqb n 0 e)
    (at_most? n 512 (λ h. rw (le-leb n 512 h) (omega arith, h)) (λ h. rw (lt-leb n 512 h) tt)))

line-ranged : (w : ℕ) (n : Numbers) → Ranged (of_line w n)
unfolding of_line of_two of_three
line-ranged w numbers.Zero = tt
line-ranged w (numbers.One a) = tt
line-ranged w (numbers.Two a b) =
    either (eqb w 65) (Some (command.Arm a b)) _ tt
    (either (eqb w 67) (Some (command.Cancel a b)) _ tt
    (either (eqb w 71) _ _ (advance-ranged a b) (either (eqb w 512852583788) _ None (wheel-ranged a b) tt)))
line-ranged w (numbers.Three a b c) = either (eqb w 77) (Some (command.Move a b c)) None tt tt

ranged : (r : Option Line) → Ranged (command_of r)
unfolding command_of
ranged None = tt
ranged (Some l) = line-ranged l.word l.numbers

pub room_bound : (r : Option Line) (t room : ℕ) → command_of r ≡ Some (command.Advance t room) → room ≤ 64
room_bound r t room e = subst Ranged e (ranged r)

-- What holds of the numbers of a first line.
abbrev Sized : Option Opening → Type 0
Sized None = Unit {0}
Sized (Some o) = (1 ≤ o.cells) × (o.cells ≤ 512)

sized : (x : Option Command) → Ranged x → Sized (opening_of x)
unfolding opening_of
sized None p = tt
sized (Some (command.Wheel n t)) p = p
sized (Some (command.Arm e x)) p = tt
sized (Some (command.Cancel c k)) p = tt
sized (Some (command.Move c k e)) p = tt
sized (Some (command.Advance t r)) p = tt

pub size-bound : (r : Option Line) (o : Opening) → opening_of (command_of r) ≡ Some o → (1 ≤ o.cells) × (o.cells ≤ 512)
size-bound r o e = subst Sized e (sized (command_of r) (ranged r))
