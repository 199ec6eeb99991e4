-- An advance is read with a room of at most 64.
use Rattle.std.proofs.Common.{Some, sym, ap, ◌∙◌}
use Rattle.wheel_script.proofs.Ranges.{room_bound}
use Rattle.wheel_script.proofs.calls.obey.Goals as goal

pub advance-requires : goal.advance-requires
advance-requires c = room_bound _ _ _ (sym c.read_command.ensures ∙ c.in-Some-Advance.is ∙ ap Some c.in-Some-Advance.field-0-is)
