-- "An answer is either a refusal by its number or the result with its data": the number of each cause.
-- Assumes nothing.
use Rattle.std.specs.Prelude.{ℕ, cond, eqb}
use Rattle.cells.specs.declared.refusal.Refusal.{Refusal}
use Rattle.cells.specs.declared.refusal.Refusal.TheVariants as refusal

abbrev pub number_of : Refusal → ℕ
number_of refusal.BadSize = 1
number_of refusal.BadArity = 2
number_of refusal.NotAfter = 3
number_of refusal.Behind = 4
number_of refusal.Beyond = 5
number_of refusal.Full = 6
number_of refusal.Stale = 7
number_of refusal.Spent = 8
number_of refusal.Unsound = 9
number_of refusal.Empty = 10

-- The cause of a number of the table; of any other the audit's, so that every number has one.
unfoldable pub refusal_of : ℕ → Refusal
refusal_of i =
    cond (eqb i 1) refusal.BadSize
    (cond (eqb i 2) refusal.BadArity
    (cond (eqb i 3) refusal.NotAfter
    (cond (eqb i 4) refusal.Behind
    (cond (eqb i 5) refusal.Beyond
    (cond (eqb i 6) refusal.Full
    (cond (eqb i 7) refusal.Stale (cond (eqb i 8) refusal.Spent (cond (eqb i 10) refusal.Empty refusal.Unsound))))))))
