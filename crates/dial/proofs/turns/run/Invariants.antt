-- The turns that are left end as all of them, in the same slices. Assumes nothing.
use Rattle.std.proofs.Common.{◌≡◌, ◌+◌, ◌-◌, ◌*◌, ◌<◌, ◌≤◌}
use Rattle.slots.specs.Held.{same_slices}
use Rattle.dial.specs.Turns.{turns}
use Rattle.dial.specs.Lent.{state_in}
use Rattle.dial.proofs.turns.run.Given as goal

abbrev pub invariant-loop : goal.invariant-loop
invariant-loop l = record {
  slices : same_slices l.initial.lists l.lists;
  few : l.turn.dial.store.cells ≤ 4096;
  counted : l.turn.moves + 4096 * (l.end - l.counter) < 18446744073709551615;
  turned : turns l.end l.target (state_in l.initial.lists l.initial.out l.initial.turn)
      ≡ turns (l.end - l.counter) l.target (state_in l.lists l.out l.turn);
}
