-- What is left to be handed out ends as the whole. Assumes nothing.
use Rattle.std.proofs.Common.{ℕ, List, ◌≡◌, ◌-◌}
use Rattle.dial.specs.Turns.{hand_out}
use Rattle.dial.specs.Lent.{state_of}
use Rattle.dial.proofs.firing.hand_out.Given as goal

abbrev pub invariant-loop-turn : goal.invariant-loop-turn
invariant-loop-turn l =
    (first last marks : List ℕ) → hand_out (l.room - l.initial.turn.fired) (state_of l.initial.w first last marks l.initial.out l.initial.turn)
    ≡ hand_out (l.room - l.turn.fired) (state_of l.w first last marks l.out l.turn)

abbrev pub decreases-loop-turn : goal.decreases-loop-turn
decreases-loop-turn l = l.room - l.turn.fired
