-- What is left of the walk from where the hole is now ends as the whole walk. The measure is the number of positions behind the hole.
use Rattle.std.proofs.Common.{◌≡◌, ◌-◌, ◌≤◌, ◌<◌}
use Rattle.heap.specs.Seats.{sink_walk}
use Rattle.heap.proofs.seats.Shape.sink.Given as goal

abbrev pub invariant-loop-q : goal.invariant-loop-q
invariant-loop-q l =
    let s = l.fn.s in
    (l.s.position < l.self.n)
    × (l.steps ≤ l.s.position)
    × (sink_walk l.self.d l.self.n s.key s.order s.cell l.self.n s.position 0 l.fn.w
    ≡ sink_walk l.self.d l.self.n l.s.key l.s.order l.s.cell l.self.n l.s.position l.steps l.w)

abbrev pub decreases-loop-q : goal.decreases-loop-q
decreases-loop-q l = l.self.n - l.s.position
