-- A cause is known by its number.
-- Assumes nothing.
use mathlib.Core.Path.{◌≡◌, refl}
use Rattle.cells.specs.Causes.{number_of, refusal_of}
use Rattle.cells.specs.declared.refusal.Refusal.{Refusal}
use Rattle.cells.specs.declared.refusal.Refusal.TheVariants as refusal

pub refusal-back : (r : Refusal) → refusal_of (number_of r) ≡ r
unfolding refusal_of
refusal-back refusal.BadSize = refl
refusal-back refusal.BadArity = refl
refusal-back refusal.NotAfter = refl
refusal-back refusal.Behind = refl
refusal-back refusal.Beyond = refl
refusal-back refusal.Full = refl
refusal-back refusal.Stale = refl
refusal-back refusal.Spent = refl
refusal-back refusal.Unsound = refl
refusal-back refusal.Empty = refl
