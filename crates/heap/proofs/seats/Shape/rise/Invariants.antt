-- What is left of the walk from where the hole is now ends as the whole walk. The measure is the hole's position.
use Rattle.std.proofs.Common.{◌≡◌, ◌+◌, ◌≤◌}
use Rattle.heap.specs.Seats.{rise_walk}
use Rattle.heap.proofs.seats.Shape.rise.Given as goal

abbrev pub invariant-loop-q : goal.invariant-loop-q
invariant-loop-q l =
    let s = l.fn.s in
    (l.steps + l.s.position ≤ s.position)
    × (rise_walk l.self.d s.key s.order s.cell s.position s.position 0 l.fn.w
    ≡ rise_walk l.self.d l.s.key l.s.order l.s.cell s.position l.s.position l.steps l.w)

abbrev pub decreases-loop-q : goal.decreases-loop-q
decreases-loop-q l = l.s.position
