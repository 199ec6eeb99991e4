-- Which fields the queue's two masks name.
-- Assumes nothing.
use Prim.Native.Nat.{ℕ, ◌<◌}
use mathlib.Core.Bool.{true, not, ◌||◌}
use mathlib.Core.Logic.{◌≢◌}
use mathlib.Core.Path.{◌≡◌, refl}
use lib.Dec.{eqb}
use borrow.Author.Tests.{ne_eqb}
use Rattle.cells.specs.Rules.{in_mask}
use Rattle.audits.specs.AuditTests.{all_below}
use Rattle.cells.proofs.Cases.{clash}
use Rattle.audits.proofs.Below.{below_each}
use Rattle.audits.proofs.Masks.{mask-only}
use Rattle.queue.specs.Rules.{used_mask, free_mask}

-- Of a cell in use the link is unused.
pub used-link : in_mask used_mask 4 ≡ true
unfolding in_mask
used-link = refl

-- So is the last.
pub used-last : in_mask used_mask 7 ≡ true
unfolding in_mask
used-last = refl

-- And no other field is: each of the eight, computed.
used-table : all_below 8 (λ (f : ℕ). not (in_mask used_mask f) || (eqb f 4 || eqb f 7)) ≡ true
unfolding all_below in_mask
used-table = refl

-- So a field of that mask is one of the two.
pub used-only : {P : Type 0} (f : ℕ) → f < 8 → in_mask used_mask f ≡ true → (f ≡ 4 → P) → (f ≡ 7 → P) → P
used-only f h t p q = mask-only used_mask 4 7 f used-table h t p q

-- Of a free cell all fields but its link and the position table's are unused: each of the eight, computed.
free-table : all_below 8 (λ (f : ℕ). eqb f 4 || (eqb f 6 || in_mask free_mask f)) ≡ true
unfolding all_below in_mask
free-table = refl

-- So every other field is in that mask.
pub free-others : (f : ℕ) → f < 8 → f ≢ 4 → f ≢ 6 → in_mask free_mask f ≡ true
free-others f h n k =
    rw (ne_eqb f 4 n, ne_eqb f 6 k) at (below_each (λ (f : ℕ). eqb f 4 || (eqb f 6 || in_mask free_mask f)) 8 free-table f h)

-- The link is not in it.
pub free-not-link : (f : ℕ) → in_mask free_mask f ≡ true → f ≢ 4
unfolding in_mask
free-not-link f t e = clash (rw e at t) refl

-- The position table's field is not in it.
pub free-not-table : (f : ℕ) → in_mask free_mask f ≡ true → f ≢ 6
unfolding in_mask
free-not-table f t e = clash (rw e at t) refl
