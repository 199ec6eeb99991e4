-- What is left of the walk ends as the whole walk, in the same slices. Assumes nothing.
use Rattle.std.proofs.Common.{ℕ, List, ◌≡◌, ◌+◌, ◌-◌, ◌<◌}
use Rattle.slots.specs.Held.{same_slices}
use Rattle.dial.specs.Turns.{walk}
use Rattle.dial.specs.Lent.{state_in}
use Rattle.dial.proofs.turns.walk.Given as goal

abbrev pub invariant-loop : goal.invariant-loop
invariant-loop l = record {
  slices : same_slices l.initial.lists l.lists;
  counted : l.turn.moves + (l.end - l.counter) < 18446744073709551615;
  walked : (out : List ℕ) → walk l.end l.initial.at (state_in l.initial.lists out l.initial.turn)
      ≡ walk (l.end - l.counter) l.at (state_in l.lists out l.turn);
}
