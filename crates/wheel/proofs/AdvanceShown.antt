-- What the turns of an advance did comes to the promise of the wheel's advance: one law for each way that the call may end.
-- Assumes nothing.
use Prim.Native.Nat.{ℕ, zero, suc, ◌+◌, ◌-◌, ◌*◌, ◌/◌, ◌≤◌, ◌<◌}
use native.Mathlib.Omega.{arith}
use mathlib.Core.Bool.{Bool, true, false, cond}
use mathlib.Core.List.{List, [], ◌∷◌, ◌++◌, map}
use mathlib.Core.Path.{◌≡◌, refl, sym, ap, subst, ◌∙◌}
use lib.ListN.{length, take, drop, length-map}
use lib.Seq.{drop_at}
use borrow.Author.Tests.{le-leb, le-ltb, lt-ltb}
use Rattle.cells.proofs.Cases.{test, at_most?, clash}
use Rattle.cells.proofs.Framed.{Framed, framed-none}
use Rattle.places.specs.Ticks.{last_tick}
use Rattle.meaning.specs.Arranged.{arranged}
use Rattle.meaning.specs.Calls as calls
use Rattle.meaning.specs.Calls.{Advance, Shown, Report, Outcome, Refused, causes, refused, outcome, due_by, hand_out, report_of, shown}
use Rattle.meaning.specs.Entries.{Entry, earliest}
use Rattle.meaning.specs.Plain.{Plain}
use Rattle.meaning.specs.Refusals.{first_of, beyond, behind}
use Rattle.meaning.proofs.Handed.{advance-free, advance-done, advance-more}
use Rattle.slots.specs.Rings.{Lists}
use Rattle.dial.specs.Joined.{listed, joins, step}
use Rattle.dial.specs.Turns.{State, Ended, Ending, done, more, broken, room, turns, turns_for}
use Rattle.dial.specs.Lent.{lists_of, state_of, ending_of, ended_of, has_ended, countable, advance_turns}
use Rattle.dial.specs.Records.{records, with_records}
use Rattle.dial.specs.declared.state.HowEnded.{HowEnded}
use Rattle.dial.specs.declared.state.HowEnded.TheVariants as how
use Rattle.dial.specs.declared.state.Turn.{Turn}
use Rattle.dial.specs.declared.state.TurnsEnded.{TurnsEnded}
use Rattle.dial.proofs.Facts.{facts}
use Rattle.dial.proofs.Recording.{records-length}
use Rattle.dial.proofs.TurnsFramed.{turns-framed}
use Rattle.dial.proofs.Advanced.{Advanced, report, advance-advanced}
use Rattle.std.specs.Prelude.{Option, Some, None, Result, Err}
use Rattle.cells.specs.Causes.{number_of}
use Rattle.cells.specs.declared.refusal.Refusal.{Refusal}
use Rattle.cells.specs.declared.refusal.Refusal.TheVariants as refusal
use Rattle.wheel.specs.Answers.{told, record_in, records_in, reported, told_advance, written}
use Rattle.wheel.specs.Answers as answers
use Rattle.wheel.specs.Promise.{DialShows, Done, Advances}
use Rattle.wheel.specs.Refiled.{ended_with, ended_answer}
use Rattle.dial.specs.declared.state.Dial.{Dial}
use Rattle.wheel.specs.declared.head.Advanced as head_advanced
use Rattle.wheel.proofs.CallsShown.{refused-done}

-- An advance's promise is one of the lists, however they are held.
pub held-advances : (target : ℕ) (l : Lists) (d : Dial) (out : List ℕ) (a : Result head_advanced.Advanced Refusal) (l' l'' : Lists) (d' : Dial) (out' : List ℕ)
    → Advances target l d out a l' d' out' → l' ≡ l'' → Advances target l d out a l'' d' out'
held-advances target l d out a l' l'' d' out' p e = subst (λ (x : Lists). Advances target l d out a x d' out') e p

module _ (target : ℕ) (l : Lists) (d : Dial) (out : List ℕ) where
  -- An advance that is refused wherever a model is shown leaves words, numbers and output.
  stays-refused : (r : Refusal) → ((m : Plain) → DialShows l d m → Done (Advance target (length out / 4)) m (Refused (number_of r)) l d)
      → Advances target l d out (Err r) l d out
  unfolding told_advance told
  stays-refused r f = record {
    promise = record { size = refl; tail = refl; shown = f };
    room = refl;
    beyond = λ m s. refl;
  }

  -- A target above the last tick.
  pub advance-beyond : 68719476735 < target → Advances target l d out (Err refusal.Beyond) l d out
  unfolding step outcome causes first_of beyond last_tick refused joins
  advance-beyond k =
      stays-refused refusal.Beyond (λ m s. refused-done l d m s (Advance target (length out / 4)) 5 (rw (lt-ltb 68719476735 target k)))

  -- A target below the clock.
  pub advance-behind : target ≤ 68719476735 → target < d.clock → Advances target l d out (Err refusal.Behind) l d out
  unfolding step outcome causes first_of beyond behind last_tick refused joins listed
  advance-behind most k =
      stays-refused refusal.Behind
      (λ m s.
      refused-done l d m s (Advance target (length out / 4)) 4
      (rw (le-ltb 68719476735 target most, lt-ltb target m.clock (omega (arith, s.clock)))))

-- Records are read as they were written.
records-read : (es : List Entry) (rest : List ℕ) → records_in (length es) (records es ++ rest) ≡ map shown es
unfolding records_in record_in records shown
records-read [] rest = refl
records-read (e ∷ es) rest = ap (λ (xs : List Shown). shown e ∷ xs) (records-read es rest)

-- So many of a list as its first k are, are those.
take-taken : (k : ℕ) (es : List Entry) → take (length (take k es)) es ≡ take k es
take-taken zero es = refl
take-taken (suc k) [] = refl
take-taken (suc k) (e ∷ es) = ap (λ (xs : List Entry). e ∷ xs) (take-taken k es)

-- A report of the first k handed out tells the first of the list, so many as it tells.
handed-told : (finished : Bool) (k c : ℕ) (s : Plain)
    → map shown (take (length (report (hand_out 64 6 finished k c s)).fired) s.entries) ≡ (report (hand_out 64 6 finished k c s)).fired
unfolding hand_out report_of
handed-told finished k c s =
    ap (λ (j : ℕ). map shown (take j s.entries)) (length-map (take k s.entries) shown)
    ∙ ap (map shown) (take-taken k s.entries)

-- An accepted advance tells the first of the list.
fired-told : (t r : ℕ) (s : Plain) → s.clock ≤ t → t ≤ last_tick 64 6
    → map shown (take (length (report (outcome 64 6 (Advance t r) s)).fired) s.entries) ≡ (report (outcome 64 6 (Advance t r) s)).fired
fired-told t r s forward last =
    let free = advance-free 64 6 t r s forward last in
    at_most? (due_by t s.entries) r
    (λ h. rw (advance-done 64 6 t r s free h) (handed-told true (due_by t s.entries) t s))
    (λ h. rw (advance-more 64 6 t r s free h) (handed-told false r (earliest (drop r s.entries)).key s))

-- Whether an advance is done.
is_done : Ending → Bool
is_done done = true
is_done more = false
is_done broken = false

-- The number fired, clock and moves are answered with done or more, as the turns ended.
told-cases : (end : Option HowEnded) (t : Turn) (out : List ℕ) (o : Report) → ending_of end ≡ cond o.done done more
    → records_in t.fired out ≡ o.fired → t.dial.clock ≡ o.clock → t.moves ≡ o.moves
    → (told_advance (ended_with end t) out ≡ calls.Advanced o) × (written (ended_with end t) ≡ t.fired)
unfolding told_advance told reported answers.report ended_with written ending_of is_done has_ended
told-cases end t out o e f c v = go end o.done e
  where
    go : (end : Option HowEnded) (b : Bool) → ending_of end ≡ cond b done more
        → (told_advance (ended_with end t) out ≡ calls.Advanced (record { fired = o.fired; clock = o.clock; moves = o.moves; done = b })) × (written (ended_with end t) ≡ t.fired)
    go (Some how.Done) true e = (rw (f, c, v), refl)
    go (Some how.Done) false e = clash refl (ap is_done e)
    go (Some how.More) true e = clash refl (sym (ap is_done e))
    go (Some how.More) false e = (rw (f, c, v), refl)
    go None true e = clash refl (sym (ap has_ended e))
    go None false e = clash refl (sym (ap has_ended e))

-- The numbers with which the turns begin: nothing is fired yet, and nothing is moved.
abbrev pub start_of : Dial → Turn
start_of d = record { dial = d; fired = 0; moves = 0 }

module _ (w first last marks out : List ℕ) (d : Dial) (target : ℕ) where
  -- What an advance begins with.
  abbrev begun : State
  begun = state_of w first last marks out (start_of d)

  -- Words keep their number and the last ones, whatever words and numbers are.
  any-framed : Framed w (advance_turns target begun).state.lists.words
  unfolding advance_turns
  any-framed =
      test (countable begun)
      (λ t. rw t (turns-framed (turns_for begun) target begun))
      (λ f. rw f (framed-none w))

  module _ (most : target ≤ 68719476735) (forward : d.clock ≤ target) (m : Plain) (s : DialShows (lists_of w first last marks d.due) d m) where
    -- What the model's advance comes to.
    abbrev come : Outcome
    come = outcome 64 6 (Advance target (length out / 4)) (listed m)

    -- The numbers of a model are in bounds.
    in_bounds : countable begun ≡ true
    unfolding countable
    in_bounds = rw (le-leb d.store.cells 4096 (omega (arith, s.cells, (facts m s.valid).limit)), le-leb 0 4294967295 (omega arith))

    -- The turns have done what the model's advance says.
    turned-advanced : Advanced begun (advance_turns target begun) m come
    unfolding advance_turns last_tick room
    turned-advanced =
        let all : room begun - 0 ≡ length out / 4 = omega arith in
        rw in_bounds
        (subst (λ (k : ℕ). Advanced begun (turns (turns_for begun) target begun) m (outcome 64 6 (Advance target k) (listed m))) all
        (advance-advanced target begun m s (omega (arith, s.clock)) most (omega arith)))

    module _ (w' first' last' marks' out' : List ℕ) (r : TurnsEnded)
        (e : ended_of w' first' last' marks' out' r ≡ advance_turns target begun) where
      -- The same, of what they left.
      left-advanced : Advanced begun (ended_of w' first' last' marks' out' r) m come
      left-advanced = subst (λ (x : Ended). Advanced begun x m come) (sym e) turned-advanced

      -- The entries handed out.
      abbrev fired : List Entry
      fired = take (length (report come).fired) (arranged m.entries)

      -- The report tells them,
      fired-shown : map shown fired ≡ (report come).fired
      unfolding listed last_tick
      fired-shown = fired-told target (length out / 4) (listed m) (omega (arith, s.clock)) most

      -- and the number fired is theirs.
      fired-number : r.turn.fired ≡ length fired
      fired-number = omega (arith, left-advanced.fired, ap length fired-shown, length-map fired shown)

      -- They stand in front of the output, and what stood behind them stands there.
      out-is : out' ≡ records fired ++ drop (length fired * 4) out
      unfolding with_records
      out-is =
          let none : 0 + length fired ≡ length fired = omega arith in
          left-advanced.out ∙ ap (λ (k : ℕ). records fired ++ drop (k * 4) out) none

      -- The answer tells what the model's advance reports.
      answered : (told_advance (ended_answer r) out' ≡ come.answer) × (written (ended_answer r) ≡ r.turn.fired)
      unfolding ended_answer
      answered =
          let h = left-advanced in
          let read : records_in r.turn.fired out' ≡ (report come).fired =
          rw (fired-number, out-is) (records-read fired (drop (length fired * 4) out) ∙ fired-shown) in
          let both = told-cases r.ending r.turn out' (report come) h.ending read h.clock (omega (arith, h.moves)) in
          (both.0 ∙ sym h.answer, both.1)

      -- So the call is done: its answer is the model's, and the next model is shown.
      left-done : Done (Advance target (length out / 4)) m (told_advance (ended_answer r) out')
          (lists_of w' first' last' marks' r.turn.dial.due) r.turn.dial
      unfolding step
      left-done = record { answer = answered.0; next = left-advanced.shows }

      -- Words beyond the last record are as they were.
      left-beyond : drop (written (ended_answer r) * 4) out' ≡ drop (written (ended_answer r) * 4) out
      left-beyond =
          rw (answered.1, fired-number, out-is)
          (drop_at (records fired) (drop (length fired * 4) out) (length fired * 4) (records-length fired))

-- An advance to a target from the clock to the last tick: the turns were run, the output keeps its length, and their end is told.
pub advance-promised : (w first last marks out w' first' last' marks' out' : List ℕ) (d : Dial) (target : ℕ) (r : TurnsEnded) (answer : Result head_advanced.Advanced Refusal)
    → target ≤ 68719476735 → d.clock ≤ target
    → ended_of w' first' last' marks' out' r ≡ advance_turns target (state_of w first last marks out (start_of d))
    → length out' ≡ length out → answer ≡ ended_answer r
    → Advances target (lists_of w first last marks d.due) d out answer (lists_of w' first' last' marks' r.turn.dial.due) r.turn.dial out'
advance-promised w first last marks out w' first' last' marks' out' d target r answer most forward e same a =
    let framed : Framed w w' = subst (λ (x : Ended). Framed w x.state.lists.words) (sym e) (any-framed w first last marks out d target) in
    rw a
    (record {
      promise = record {
        size = framed.size;
        tail = framed.tail;
        shown = λ m s. left-done w first last marks out d target most forward m s w' first' last' marks' out' r e;
      };
      room = same;
      beyond = λ m s. left-beyond w first last marks out d target most forward m s w' first' last' marks' out' r e;
    })
