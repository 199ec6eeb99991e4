-- The commands of the wheel's script, by word and count of numbers. A word is its bytes as a base-256 number.
-- Assumes nothing.
use Rattle.std.specs.Prelude.{ℕ, cond, leb, eqb, Option, None, Some}
use Rattle.script.specs.declared.reading.Line.{Line}
use Rattle.script.specs.declared.reading.Numbers.{Numbers}
use Rattle.script.specs.declared.reading.Numbers.TheVariants as numbers
use Rattle.wheel_script.specs.declared.commands.Command.{Command}
use Rattle.wheel_script.specs.declared.commands.Command.TheVariants as command

-- `wheel N t`, "N 1 to 512"
unfoldable pub wheel_of : ℕ → ℕ → Option Command
wheel_of n t = cond (eqb n 0) None (cond (leb n 512) (Some (command.Wheel n t)) None)

-- `G target room`, "room 0 to 64"
unfoldable pub advance_of : ℕ → ℕ → Option Command
advance_of target room = cond (leb room 64) (Some (command.Advance target room)) None

-- `A deadline load`, `C cell ticket`, and the two above
unfoldable pub of_two : ℕ → ℕ → ℕ → Option Command
of_two w a b =
    cond (eqb w 65) (Some (command.Arm a b))
    (cond (eqb w 67) (Some (command.Cancel a b)) (cond (eqb w 71) (advance_of a b) (cond (eqb w 512852583788) (wheel_of a b) None)))

-- `M cell ticket deadline`
unfoldable pub of_three : ℕ → ℕ → ℕ → ℕ → Option Command
of_three w a b c = cond (eqb w 77) (Some (command.Move a b c)) None

-- A word and the numbers after it: each command has two or three.
unfoldable pub of_line : ℕ → Numbers → Option Command
of_line w numbers.Zero = None
of_line w (numbers.One a) = None
of_line w (numbers.Two a b) = of_two w a b
of_line w (numbers.Three a b c) = of_three w a b c

-- "any other line, an empty one or an N or room out of range too, gives `bad line`"
unfoldable pub command_of : Option Line → Option Command
command_of None = None
command_of (Some l) = of_line l.word l.numbers
