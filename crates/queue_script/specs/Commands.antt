-- The commands of the queue's script, by word and count of numbers. A word is its bytes as a base-256 number.
-- Assumes nothing.
use Rattle.std.specs.Prelude.{ℕ, cond, leb, eqb, Option, None, Some}
use Rattle.script.specs.declared.reading.Line.{Line}
use Rattle.script.specs.declared.reading.Numbers.{Numbers}
use Rattle.script.specs.declared.reading.Numbers.TheVariants as numbers
use Rattle.queue_script.specs.declared.commands.Command.{Command}
use Rattle.queue_script.specs.declared.commands.Command.TheVariants as command

-- `F`, `T`
unfoldable pub of_none : ℕ → Option Command
of_none w = cond (eqb w 70) (Some command.First) (cond (eqb w 84) (Some command.Take) None)

-- `queue N d`, "N 1 to 512"
unfoldable pub queue_of : ℕ → ℕ → Option Command
queue_of n d = cond (eqb n 0) None (cond (leb n 512) (Some (command.Queue n d)) None)

-- `P key load`, `R cell ticket`, and the one above
unfoldable pub of_two : ℕ → ℕ → ℕ → Option Command
of_two w a b =
    cond (eqb w 80) (Some (command.Put a b))
    (cond (eqb w 82) (Some (command.Remove a b)) (cond (eqb w 487300887909) (queue_of a b) None))

-- `K cell ticket key`
unfoldable pub of_three : ℕ → ℕ → ℕ → ℕ → Option Command
of_three w a b c = cond (eqb w 75) (Some (command.Rekey a b c)) None

-- A word and the numbers after it; no command has one number.
unfoldable pub of_line : ℕ → Numbers → Option Command
of_line w numbers.Zero = of_none w
of_line w (numbers.One a) = None
of_line w (numbers.Two a b) = of_two w a b
of_line w (numbers.Three a b c) = of_three w a b c

-- "any other line, an empty one or an N .. out of range too, gives `bad line`"
unfoldable pub command_of : Option Line → Option Command
command_of None = None
command_of (Some l) = of_line l.word l.numbers
