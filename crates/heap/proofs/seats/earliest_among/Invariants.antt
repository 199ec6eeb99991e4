-- The earliest of `best` and of the positions that are left is the earliest of all.
use Rattle.std.proofs.Common.{◌≡◌, ◌+◌, ◌-◌, ◌≤◌}
use Rattle.heap.specs.Seats.{seat_at, soonest}
use Rattle.heap.proofs.seats.earliest_among.Given as goal

abbrev pub invariant-loop-k : goal.invariant-loop-k
invariant-loop-k l =
    (l.k ≤ l.m) × (soonest l.w (seat_at l.w l.first) (l.first + 1) (l.m - 1) ≡ soonest l.w l.best (l.first + l.k) (l.m - l.k))
