-- What the whole advance has done, told by the outcome of the plain list's: its report, and its change.
-- Assumes nothing.
use Prim.Native.Nat.{ℕ, ◌+◌, ◌-◌, ◌≤◌, ◌<◌}
use native.Mathlib.Omega.{arith}
use mathlib.Core.Bool.{cond}
use mathlib.Core.List.{List}
use mathlib.Core.Path.{◌≡◌, refl, sym, ap, subst, ◌∙◌}
use lib.ListN.{length, take, length-map}
use lib.Seq.{length-take-le}
use Rattle.places.specs.Ticks.{last_tick}
use Rattle.meaning.specs.Arranged.{arranged}
use Rattle.meaning.specs.Calls as calls
use Rattle.meaning.specs.Calls.{Outcome, Report, Advance, shown, report_of, hand_out, advanced, accepted, outcome}
use Rattle.meaning.specs.Entries.{Entry}
use Rattle.meaning.specs.Plain.{Plain, hands}
use Rattle.meaning.proofs.Handed.{outcome-free, advance-free}
use Rattle.dial.specs.Joined.{listed, joins}
use Rattle.dial.specs.Turns.{State, Ended, done, more, room, turns, turns_for}
use Rattle.dial.specs.Shows.{Shows}
use Rattle.dial.specs.Records.{with_records}
use Rattle.dial.proofs.Facts.{facts}
use Rattle.dial.proofs.TickBound.{all_wakings, all_wakings-bound}
use Rattle.dial.proofs.Recording.{records-room}
use Rattle.dial.proofs.Advancing.{Reaches, turns-reach}

-- What is reported.
abbrev pub report : Outcome → Report
report o = report_of o.answer

-- From z, which shows the model m, an advance has ended in e, and done what this outcome of the plain list says.
pub record Advanced (z : State) (e : Ended) (m : Plain) (o : Outcome) : Type 0 where
  pub answer : o.answer ≡ calls.Advanced (report o)
  pub change : o.change ≡ hands (length (report o).fired) (report o).clock
  -- It is done, or more is due; the turns did not run out.
  pub ending : e.ending ≡ cond (report o).done done more
  pub shows : Shows e.state.lists e.state.clock e.state.store (joins o.change m)
  pub clock : e.state.clock ≡ (report o).clock
  pub fired : e.state.fired ≡ z.fired + length (report o).fired
  pub moves : e.state.moves ≡ z.moves + (report o).moves
  -- "Each record is written into the part of the output that follows the records before it": there was room for them.
  pub out : e.state.out ≡ with_records z.out z.fired (take (length (report o).fired) (arranged m.entries))
  pub long : length e.state.out ≡ length z.out
  pub roomy : e.state.fired ≤ room z

-- The first j handed out, to clock c, are reported so.
reaches-advanced :
    (z : State) (e : Ended) (m : Plain) (target : ℕ)
    → Reaches z e m target
    → Advanced z e m (advanced 64 6 target (room z - z.fired) (listed m))
unfolding listed hand_out report_of joins room
reaches-advanced z e m target h =
    let es : List Entry = take h.j (arranged m.entries) in
    let taken : length es ≡ h.j = length-take-le h.j (arranged m.entries) h.fits in
    let number : h.j ≡ length (report (hand_out 64 6 h.finished h.j h.c (listed m))).fired = sym (length-map es shown ∙ taken) in
    subst (Advanced z e m) (sym h.same)
    (record {
      answer = refl;
      change = ap (λ (k : ℕ). hands k h.c) number;
      ending = h.ending;
      shows = h.shows;
      clock = h.shows.clock;
      fired = h.fired ∙ ap (λ (k : ℕ). z.fired + k) number;
      moves = h.moves;
      out = h.out ∙ ap (λ (k : ℕ). with_records z.out z.fired (take k (arranged m.entries))) number;
      long = ap length h.out ∙ records-room z.out z.fired es (omega (arith, taken, h.roomy));
      roomy = omega (arith, h.fired, h.roomy);
    })

module _
    (target : ℕ)
    (z : State)
    (m : Plain)
    (s : Shows z.lists z.clock z.store m)
    (forward : m.clock ≤ target)
    (last : target ≤ last_tick 64 6)
    (roomy : z.fired ≤ room z)
  where
    -- Turns enough for every wake tick that may be entered.
    pub turns-advanced :
        (k : ℕ)
        → all_wakings 64 6 m.clock m.entries < k
        → Advanced z (turns k target z) m (advanced 64 6 target (room z - z.fired) (listed m))
    turns-advanced k few = reaches-advanced z (turns k target z) m target (turns-reach k target z m s forward last roomy few)

    -- Six for each cell, and one to end in, are enough.
    turns-enough : all_wakings 64 6 m.clock m.entries < turns_for z
    unfolding turns_for
    turns-enough =
        omega (arith, all_wakings-bound 64 6 m.clock m.entries (omega arith), (facts m s.valid).fits, s.cells)

    -- So the whole advance is the accepted call of the plain list with the room that is left.
    pub advance-advanced : Advanced z (turns (turns_for z) target z) m (outcome 64 6 (Advance target (room z - z.fired)) (listed m))
    unfolding accepted listed
    advance-advanced =
        let r : ℕ = room z - z.fired in
        subst (Advanced z (turns (turns_for z) target z) m)
        (sym (outcome-free 64 6 (Advance target r) (listed m) (advance-free 64 6 target r (listed m) forward last)))
        (turns-advanced (turns_for z) turns-enough)
