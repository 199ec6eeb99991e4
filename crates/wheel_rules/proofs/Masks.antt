-- Which fields the wheel's two masks name.
-- Assumes nothing.
use Prim.Native.Nat.{ℕ, ◌<◌}
use mathlib.Core.Bool.{true, not, ◌||◌}
use mathlib.Core.Logic.{◌≢◌}
use mathlib.Core.Path.{◌≡◌, refl}
use lib.Dec.{eqb}
use borrow.Author.Tests.{ne_eqb}
use Rattle.cells.specs.Rules.{in_mask}
use Rattle.audits.specs.AuditTests.{all_below}
use Rattle.cells.proofs.Cases.{clash}
use Rattle.audits.proofs.Below.{below_each}
use Rattle.audits.proofs.Masks.{mask-only}
use Rattle.wheel_rules.specs.Rules.{used_mask, free_mask}

-- Of a cell in use word 6 is unused.
pub used-unowned : in_mask used_mask 6 ≡ true
unfolding in_mask
used-unowned = refl

-- So is word 7.
pub used-last : in_mask used_mask 7 ≡ true
unfolding in_mask
used-last = refl

-- And no other field is: each of the eight, computed.
used-table : all_below 8 (λ (f : ℕ). not (in_mask used_mask f) || (eqb f 6 || eqb f 7)) ≡ true
unfolding all_below in_mask
used-table = refl

-- So a field of that mask is one of the two.
pub used-only : {P : Type 0} (f : ℕ) → f < 8 → in_mask used_mask f ≡ true → (f ≡ 6 → P) → (f ≡ 7 → P) → P
used-only f h t p q = mask-only used_mask 6 7 f used-table h t p q

-- Of a free cell all fields but its link are unused: each of the eight, computed.
free-table : all_below 8 (λ (f : ℕ). eqb f 4 || in_mask free_mask f) ≡ true
unfolding all_below in_mask
free-table = refl

-- So every other field is in that mask.
pub free-others : (f : ℕ) → f < 8 → f ≢ 4 → in_mask free_mask f ≡ true
free-others f h n = rw (ne_eqb f 4 n) at (below_each (λ (f : ℕ). eqb f 4 || in_mask free_mask f) 8 free-table f h)

-- The link is not in it.
pub free-not-link : (f : ℕ) → in_mask free_mask f ≡ true → f ≢ 4
unfolding in_mask
free-not-link f t e = clash (rw e at t) refl
