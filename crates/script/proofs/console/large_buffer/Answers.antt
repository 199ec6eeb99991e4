-- The array's elements are the zeros that the contract names.
use mathlib.Core.Path.{refl}
use Rattle.script.proofs.console.large_buffer.Goals as goal

pub returns-clause-zeros : goal.returns-clause-zeros
returns-clause-zeros c = refl
