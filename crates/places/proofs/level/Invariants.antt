-- t and e are the quotients just above position p, and the level is at least p, so p is below 6. The measure is what is left of the six
-- positions.
use Rattle.std.proofs.Common.{◌≡◌, suc, ◌-◌, ◌/◌, ◌%◌, ◌^◌, ◌≤◌, ◌<◌}
use Rattle.places.specs.Ticks.{level as level_of}
use Rattle.places.proofs.level.Given as goal

abbrev pub invariant-loop-t : goal.invariant-loop-t
invariant-loop-t l =
    (l.t ≡ l.clock % 64 ^ 6 / 64 ^ suc l.p)
    × (l.e ≡ l.deadline % 64 ^ 6 / 64 ^ suc l.p)
    × (l.p ≤ level_of 64 6 (l.clock % 64 ^ 6) (l.deadline % 64 ^ 6))
    × (l.p < 6)

abbrev pub decreases-loop-t : goal.decreases-loop-t
decreases-loop-t l = 6 - l.p
