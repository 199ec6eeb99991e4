-- Where the bytes from `from` on hold the byte, `position` says how many stand before it; else there are none of it, or no bytes at all.
use Rattle.std.proofs.Common.{◌≡◌, length, rules, tests, arith, ⊎_elim}
use Rattle.std.proofs.lemmas.Slice.{between_to_end}
use Rattle.std.proofs.lemmas.Iterator.{YieldsList-from_slice, IsFirst-from_position}
use Rattle.script.proofs.Pieces.{up_to-first, up_to-behind}
use Rattle.script.proofs.scan.next.Goals as goal

pub returns-in_default : goal.returns-in_default
returns-in_default c = up_to-behind _ _ _ (⊎_elim (λ h. h) (λ h. absurd (omega arith)) c.in_default.ensures.lookup.0)

pub returns : goal.returns
returns c =
    let rest = c.in-Some.rest.now in
    let first =
    IsFirst-from_position _ _ c.position.result (λ b. b ≡ c.args.stop) (λ b. b ≡ c.args.stop → ⊥) c.position.ensures.ran
    (YieldsList-from_slice rest cc) (λ x q k. search (rules, tests)) (λ x q k. search (rules, tests)) in
    let count = up_to-first c.args.stop rest c.position.result first in
    let found = c.in-Some.ensures.lookup.0 in
    rw (c.unwrap_or.ensures, ← count, found.2, between_to_end c.args.s.now c.args.from (length c.args.s.now) (omega arith))
