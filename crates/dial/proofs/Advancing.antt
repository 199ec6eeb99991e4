-- The whole advance on words and arrays is that of the plain list: turn by turn what is due is handed out, and the next wake tick is entered.
-- Assumes nothing.
use Prim.Native.Nat.{ℕ, zero, suc, ◌+◌, ◌-◌, ◌/◌, ◌≤◌, ◌<◌, min}
use native.Mathlib.Omega.{arith}
use mathlib.Core.Bool.{Bool, true, false, cond, ◌||◌}
use mathlib.Core.List.{List}
use mathlib.Core.Logic.{◌≢◌}
use mathlib.Core.Path.{◌≡◌, refl, sym, ap, subst, ◌∙◌}
use lib.Dec.{ltb, eqb}
use lib.ListN.{length, take, drop, length-drop}
use lib.Seq.{take-add, length-take-le}
use borrow.Author.Tests.{eqb-true, eqb-false, ltb-true, ltb-false}
use Rattle.cells.specs.Lists.{All}
use Rattle.cells.specs.Stack.{no_cell}
use Rattle.cells.proofs.Cases.{same?, or-true, or-false}
use Rattle.cells.proofs.Lists.{all_map}
use Rattle.places.specs.Ticks.{moves, last_tick}
use Rattle.slots.specs.Rings.{first_marked}
use Rattle.slots.specs.Stand.{due_list}
use Rattle.slots.proofs.Standing.{FirstUsed, marked-first}
use Rattle.meaning.specs.Arranged.{arranged}
use Rattle.meaning.specs.Calls.{all_moves, hand_out, advanced}
use Rattle.meaning.specs.Entries.{Entry}
use Rattle.meaning.specs.Plain.{Plain, hands, apply}
use Rattle.meaning.proofs.Arranged.{arranged-all}
use Rattle.meaning.proofs.Due.{due-length}
use Rattle.dial.specs.Joined.{listed, remaining, joins}
use Rattle.dial.specs.Turns as engine
use Rattle.dial.specs.Turns.{State, Ended, done, more, list_of, turned, enter, room, wake_at, turns}
use Rattle.dial.specs.Shows.{cells_at, Shows}
use Rattle.dial.specs.Records.{with_records}
use Rattle.dial.proofs.Listed.{listed-joins, arranged-hands, joins-hands}
use Rattle.dial.proofs.Facts.{facts}
use Rattle.meaning.proofs.Arranged.{all-arranged}
use Rattle.dial.proofs.AnyOrder.{sum_of-arranged}
use Rattle.dial.proofs.Wakings.{wakes, Ahead, NextTick, all_moves-none}
use Rattle.dial.proofs.Advances.{due_now, waiting, waiting-ahead, more-due, all_done, Onward, goes_on}
use Rattle.dial.proofs.ListTicks.{next-tick, first-low, first_some, none_ahead}
use Rattle.dial.proofs.TickBound.{wakings_left, all_wakings, all_wakings-falls}
use Rattle.dial.proofs.Entering.{Entered, enter-shows}
use Rattle.dial.proofs.Recording.{records-room, records-both}
use Rattle.dial.proofs.HandingOut.{HandedOut, hand-out-shows}
use Rattle.dial.proofs.StaysShown.{stays-shows}

-- An advance from z has ended in e, and done to the model m what the advance of the plain list does: it handed out the first j entries, to clock c.
pub record Reaches (z : State) (e : Ended) (m : Plain) (target : ℕ) : Type 0 where
  pub finished : Bool
  pub j : ℕ
  pub c : ℕ
  pub same : advanced 64 6 target (room z - z.fired) (listed m) ≡ hand_out 64 6 finished j c (listed m)
  pub fits : j ≤ length (listed m).entries
  pub roomy : z.fired + j ≤ room z
  pub ending : e.ending ≡ cond finished done more
  pub shows : Shows e.state.lists e.state.clock e.state.store (joins (hands j c) m)
  pub fired : e.state.fired ≡ z.fired + j
  pub moves : e.state.moves ≡ z.moves + all_moves 64 6 m.clock c (listed m).entries
  pub out : e.state.out ≡ with_records z.out z.fired (take j (listed m).entries)

-- Entries wake as often in any order,
wakings-arranged : (t : ℕ) (es : List Entry) → all_wakings 64 6 t (arranged es) ≡ all_wakings 64 6 t es
unfolding all_wakings
wakings-arranged t es = sum_of-arranged (λ (e : Entry). wakings_left 64 6 t e.key) es

-- and make as many moves.
moves-arranged : (a c : ℕ) (es : List Entry) → all_moves 64 6 a c (arranged es) ≡ all_moves 64 6 a c es
unfolding all_moves
moves-arranged a c es = sum_of-arranged (λ (e : Entry). moves 64 6 a c e.key) es

-- From z, which shows m, the entries due at the clock were handed out as far as there is room, and y is left.
module _
    (z y : State)
    (m : Plain)
    (target : ℕ)
    (s : Shows z.lists z.clock z.store m)
    (forward : m.clock ≤ target)
    (last : target ≤ last_tick 64 6)
    (roomy : z.fired ≤ room z)
  where
    -- More is due than there is room for: the advance ends at the clock.
    ends_more :
        HandedOut z y m (min (room z - z.fired) (due_now (listed m)))
        → eqb y.lists.due.first no_cell ≡ false
        → Reaches z (record { state = y; ending = more }) m target
    unfolding listed
    ends_more turn e =
        let r : ℕ = room z - z.fired in
        let short : r < due_now (listed m) = omega (arith, eqb-false (min r (due_now (listed m))) (due_now (listed m)) (sym turn.rest ∙ e)) in
        let least : min r (due_now (listed m)) ≡ r = omega arith in
        let h : HandedOut z y m r = subst (HandedOut z y m) least turn in
        record {
          finished = false;
          j = r;
          c = m.clock;
          same = more-due 64 6 (listed m) s.valid.timed target r forward short;
          fits = omega (arith, due-length m.clock (arranged m.entries));
          roomy = omega arith;
          ending = refl;
          shows = h.shows;
          fired = h.fired;
          moves =
              omega (arith, h.moves, all_moves-none 64 6 m.clock (arranged m.entries) (omega arith) s.valid.timed.deadlines);
          out = h.out;
        }

    -- There was room for all that was due; list i is the first with entries, and t its wake tick.
    module _
        (enough : due_now (listed m) ≤ room z - z.fired)
        (turn : HandedOut z y m (due_now (listed m)))
        (i t : ℕ)
        (first : FirstUsed (cells_at m.clock (remaining (due_now (listed m)) m.entries)) i)
        (tick : t ≡ wake_at m.clock i)
      where
        -- The entries left are those that wait in the plain list.
        left-arranged : arranged (remaining (due_now (listed m)) m.entries) ≡ waiting (listed m)
        unfolding listed
        left-arranged = arranged-hands m s.valid.kept (due_now (listed m))

        -- What holds of all entries left holds of all that wait,
        to-waiting : (P : Entry → Type 0) → All P (remaining (due_now (listed m)) m.entries) → All P (waiting (listed m))
        to-waiting P a = rw left-arranged at (arranged-all P (remaining (due_now (listed m)) m.entries) a)

        -- and the other way round.
        from-waiting : (P : Entry → Type 0) → All P (waiting (listed m)) → All P (remaining (due_now (listed m)) m.entries)
        from-waiting P a = all-arranged P (remaining (due_now (listed m)) m.entries) (rw left-arranged a)

        -- Their deadlines are still to come,
        ahead : All (Ahead 64 6 m.clock) (waiting (listed m))
        unfolding listed
        ahead = waiting-ahead 64 6 (listed m) s.valid.timed s.valid.kept

        -- none stands in a list of a lower number,
        low : All (λ (e : Entry). i ≤ list_of m.clock e.key) (waiting (listed m))
        low =
            to-waiting (λ (e : Entry). i ≤ list_of m.clock e.key)
            (first-low m.clock (remaining (due_now (listed m)) m.entries) i first)

        -- and where list i is a slot, its wake tick is the next.
        next : i < due_list → NextTick 64 6 m.clock t (waiting (listed m))
        next l =
            rw tick
            (next-tick m.clock i (waiting (listed m)) ahead low
            (λ others.
            first_some m.clock (remaining (due_now (listed m)) m.entries) i first l
            (from-waiting (λ (e : Entry). list_of m.clock e.key ≢ i) others)))

        -- Where there is none, or its wake tick is after the target, no entry wakes up to the target.
        none-wakes : eqb i due_list || ltb target t ≡ true → All (λ (e : Entry). target < wakes 64 6 m.clock e) (waiting (listed m))
        none-wakes q =
            same? i due_list
            (λ d. rw (none_ahead m.clock (waiting (listed m)) ahead (rw d at low)) tt)
            (λ d.
            or-true (eqb i due_list) (ltb target t) q
            (λ e. absurd (d (eqb-true i due_list e)))
            (λ e.
            all_map (λ x h. omega (arith, h, ltb-true target t e)) (waiting (listed m))
            (next (omega (arith, first.most))).first))

        -- So the advance is done, and the clock is the target.
        ends-done :
            eqb i due_list || ltb target t ≡ true
            → Reaches z (record { state = turned y y.lists target; ending = done }) m target
        unfolding listed turned joins
        ends-done q =
            let all =
            all_done 64 6 (listed m) s.valid.timed target (room z - z.fired) (omega arith) s.valid.kept forward enough (none-wakes q) in
            record {
              finished = true;
              j = due_now (listed m);
              c = target;
              same = all.0;
              fits = due-length m.clock (arranged m.entries);
              roomy = omega arith;
              ending = refl;
              shows =
                  stays-shows y.lists y.clock y.store (joins (hands (due_now (listed m)) m.clock) m) turn.shows target forward last
                  (from-waiting (λ (e : Entry). target < wakes 64 6 m.clock e) (none-wakes q));
              fired = turn.fired;
              moves = omega (arith, turn.moves, all.1);
              out = turn.out;
            }

        -- Else the wake tick is entered, and the advance goes on from there.
        module _ (q : eqb i due_list || ltb target t ≡ false) where
          -- List i is a slot,
          slot : i < due_list
          slot = omega (arith, first.most, eqb-false i due_list (or-false (eqb i due_list) (ltb target t) q).0)

          -- and its wake tick not after the target.
          reached : t ≤ target
          reached = ltb-false target t (or-false (eqb i due_list) (ltb target t) q).1

          -- On the model that changes only the clock.
          entered : Entered y (enter t i y) (joins (hands (due_now (listed m)) m.clock) m) t i
          unfolding joins
          entered =
              let after : Plain = joins (hands (due_now (listed m)) m.clock) m in
              let known = facts after turn.shows.valid in
              enter-shows y after turn.shows known.split known.fits known.within
              (from-waiting (λ (e : Entry). m.clock < e.key) (all_map (λ e h. h.later) (waiting (listed m)) ahead))
              i t slot first
              (tick ∙ ap (λ (a : ℕ). wake_at a i) (sym turn.shows.clock))

          -- The model there.
          entered-shows : Shows (enter t i y).lists (enter t i y).clock (enter t i y).store (joins (hands (due_now (listed m)) t) m)
          unfolding joins
          entered-shows = entered.shows

          -- There is the same room for records, and the first of them are written.
          entered-room : (room (enter t i y) ≡ room z) × ((enter t i y).fired ≡ z.fired + due_now (listed m))
          unfolding room listed
          entered-room =
              let es : List Entry = take (due_now (listed m)) (arranged m.entries) in
              let number : length es ≡ due_now (listed m) =
              length-take-le (due_now (listed m)) (arranged m.entries) (due-length m.clock (arranged m.entries)) in
              let long : length (with_records z.out z.fired es) ≡ length z.out =
              records-room z.out z.fired es (omega (arith, number)) in (
                ap (λ (o : List ℕ). length o / 4) (entered.out ∙ turn.out) ∙ ap (λ (n : ℕ). n / 4) long,
                entered.fired ∙ turn.fired,
              )

          -- Further records stand behind them.
          entered-records :
              (k : ℕ)
              → with_records (enter t i y).out (enter t i y).fired (take k (arranged (remaining (due_now (listed m)) m.entries)))
              ≡ with_records z.out z.fired (take (due_now (listed m) + k) (arranged m.entries))
          unfolding listed
          entered-records k =
              let d : ℕ = due_now (listed m) in
              let os : List Entry = arranged m.entries in
              let number : (enter t i y).fired ≡ z.fired + length (take d os) =
              omega (arith, entered-room.1, length-take-le d os (due-length m.clock os)) in
              ap (λ (es : List Entry). with_records (enter t i y).out (enter t i y).fired (take k es)) left-arranged
              ∙ ap (λ (o : List ℕ). with_records o (enter t i y).fired (take k (drop d os))) (entered.out ∙ turn.out)
              ∙ ap (λ (n : ℕ). with_records (with_records z.out z.fired (take d os)) n (take k (drop d os))) number
              ∙ records-both z.out z.fired (take d os) (take k (drop d os))
              ∙ ap (with_records z.out z.fired) (sym (take-add d k os))

          -- The entries left wake less often.
          entered-fewer : all_wakings 64 6 t (remaining (due_now (listed m)) m.entries) < all_wakings 64 6 m.clock m.entries
          unfolding listed
          entered-fewer =
              omega (
                arith,
                all_wakings-falls 64 6 m.clock t (due_now (listed m)) (arranged m.entries) (omega arith) ahead (next slot),
                ap (all_wakings 64 6 t) left-arranged,
                wakings-arranged t (remaining (due_now (listed m)) m.entries),
                wakings-arranged m.clock m.entries,
              )

          -- What the advance does from there on, and what was done before, is what it does in all.
          both-parts : (e : Ended) → Reaches (enter t i y) e (joins (hands (due_now (listed m)) t) m) target → Reaches z e m target
          unfolding listed joins
          both-parts e h =
              let d : ℕ = due_now (listed m) in
              let os : List Entry = arranged m.entries in
              let r : ℕ = room z - z.fired in
              let less : room (enter t i y) - (enter t i y).fired ≡ r - d = omega (arith, entered-room) in
              let further : advanced 64 6 target (r - d) (apply (hands d t) (listed m)) ≡ hand_out 64 6 h.finished h.j h.c (apply (hands d t) (listed m)) =
              subst (λ (x : Plain). advanced 64 6 target (r - d) x ≡ hand_out 64 6 h.finished h.j h.c x)
              (listed-joins m (hands d t) s.valid.kept tt)
              (subst (λ (n : ℕ). advanced 64 6 target n (listed (joins (hands d t) m)) ≡ hand_out 64 6 h.finished h.j h.c (listed (joins (hands d t) m)))
              less
              h.same) in
              let on : Onward 64 6 target r t h.finished h.j h.c (listed m) =
              goes_on 64 6 t target (listed m) s.valid.timed (omega arith) s.valid.kept (next slot) reached last r enough
              h.finished h.j h.c further in
              record {
                finished = h.finished;
                j = d + h.j;
                c = h.c;
                same = on.same;
                fits = omega (arith, h.fits, ap length left-arranged, length-drop d os, due-length m.clock os);
                roomy = omega (arith, h.roomy, entered-room);
                ending = h.ending;
                shows =
                    subst (λ (x : Plain). Shows e.state.lists e.state.clock e.state.store x)
                    (joins-hands m s.valid.kept d t h.j h.c)
                    h.shows;
                fired = omega (arith, h.fired, entered-room);
                moves =
                    omega (
                      arith,
                      h.moves,
                      entered.counted,
                      turn.moves,
                      on.moves,
                      moves-arranged m.clock t (remaining d m.entries),
                      ap (all_moves 64 6 m.clock t) left-arranged,
                      ap (all_moves 64 6 t h.c) left-arranged,
                    );
                out = h.out ∙ entered-records h.j;
              }

          -- So if the advance goes on from there as the plain list's does, it did from z.
          goes_further :
              (e : Ended) (k : ℕ)
              → ((n : Plain)
              → Shows (enter t i y).lists (enter t i y).clock (enter t i y).store n
              → n.clock ≤ target
              → (enter t i y).fired ≤ room (enter t i y)
              → all_wakings 64 6 n.clock n.entries < k
              → Reaches (enter t i y) e n target)
              → all_wakings 64 6 m.clock m.entries < suc k
              → Reaches z e m target
          unfolding joins
          goes_further e k further few =
              both-parts e
              (further (joins (hands (due_now (listed m)) t) m) entered-shows reached
              (omega (arith, entered-room))
              (omega (arith, entered-fewer)))

-- Turns enough for every wake tick that may be entered are an advance of the plain list.
pub turns-reach :
    (k target : ℕ) (z : State) (m : Plain)
    → Shows z.lists z.clock z.store m
    → m.clock ≤ target
    → target ≤ last_tick 64 6
    → z.fired ≤ room z
    → all_wakings 64 6 m.clock m.entries < k
    → Reaches z (turns k target z) m target
unfolding turns joins
turns-reach zero target z m s forward last roomy few = absurd (omega arith)
turns-reach (suc k) target z m s forward last roomy few =
    go (eqb y.lists.due.first no_cell) refl (eqb i due_list || ltb target t) refl
    (λ n shown ahead fits less. turns-reach k target (enter t i y) n shown ahead last fits less)
  where
    y : State
    y = engine.hand_out (room z - z.fired) z

    i : ℕ
    i = first_marked y.lists.marks

    t : ℕ
    t = wake_at y.clock i

    turn : HandedOut z y m (min (room z - z.fired) (due_now (listed m)))
    turn = hand-out-shows (room z - z.fired) z m s

    -- Where nothing is due any more, all that was due was handed out.
    all-out : eqb y.lists.due.first no_cell ≡ true → min (room z - z.fired) (due_now (listed m)) ≡ due_now (listed m)
    all-out e = eqb-true (min (room z - z.fired) (due_now (listed m))) (due_now (listed m)) (sym turn.rest ∙ e)

    -- So the model is that without them,
    whole : eqb y.lists.due.first no_cell ≡ true → HandedOut z y m (due_now (listed m))
    whole e = subst (HandedOut z y m) (all-out e) turn

    -- and the first marked slot is the first with entries.
    first :
        HandedOut z y m (due_now (listed m))
        → FirstUsed (cells_at m.clock (remaining (due_now (listed m)) m.entries)) i
    first h = marked-first y.lists (cells_at m.clock (remaining (due_now (listed m)) m.entries)) h.shows.lists

    go :
        (b : Bool) → eqb y.lists.due.first no_cell ≡ b
        → (c : Bool) → eqb i due_list || ltb target t ≡ c
        → ((n : Plain)
        → Shows (enter t i y).lists (enter t i y).clock (enter t i y).store n
        → n.clock ≤ target
        → (enter t i y).fired ≤ room (enter t i y)
        → all_wakings 64 6 n.clock n.entries < k
        → Reaches (enter t i y) (turns k target (enter t i y)) n target)
        → Reaches z
        (cond b (cond c (record { state = turned y y.lists target; ending = done }) (turns k target (enter t i y)))
        (record { state = y; ending = more }))
        m target
    go false e c q further = ends_more z y m target s forward last roomy turn e
    go true e true q further =
        ends-done z y m target s forward last roomy (omega (arith, all-out e)) (whole e) i t (first (whole e))
        (ap (λ (a : ℕ). wake_at a i) (whole e).shows.clock)
        q
    go true e false q further =
        goes_further z y m target s forward last roomy (omega (arith, all-out e)) (whole e) i t (first (whole e))
        (ap (λ (a : ℕ). wake_at a i) (whole e).shows.clock)
        q
        (turns k target (enter t i y))
        k further few
