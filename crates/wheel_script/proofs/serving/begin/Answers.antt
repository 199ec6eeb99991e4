-- The first line is answered as the run on the plain list answers it.
use Rattle.std.proofs.Common.{sym, ap, ◌∙◌}
use Rattle.wheel_script.specs.Runs.{opening_of}
use Rattle.wheel_script.proofs.Ranges.{size-bound}
use Rattle.wheel_script.proofs.Opening.{begun-wrong}
use Rattle.wheel_script.proofs.serving.begin.Goals as goal

pub open-requires : goal.open-requires
open-requires c = size-bound _ _ (sym (ap opening_of c.read_command.ensures) ∙ sym c.as_first.ensures ∙ c.in-Some.is)

pub returns-in-Some-clause-told : goal.returns-in-Some-clause-told
returns-in-Some-clause-told c = λ first last marks blank.
    rw (sym (ap opening_of c.read_command.ensures) ∙ sym c.as_first.ensures ∙ c.in-Some.is) (c.«open».ensures.told first last marks blank)

pub returns-in-None-clause-told : goal.returns-in-None-clause-told
returns-in-None-clause-told c = λ first last marks blank.
    rw (sym (ap opening_of c.read_command.ensures) ∙ sym c.as_first.ensures ∙ c.in-None.is) (begun-wrong _ _ _ _ _ _ _ _ c.bad_line.ensures.written)
