-- The demands at six levels of 64 slots, from an accepted set-up on, as far as the plain list tells them.
-- Assumes nothing.
use Prim.Native.Nat.{ℕ, ◌≤◌, ◌<◌}
use native.Mathlib.Omega.{arith}
use mathlib.Core.Bool.{true, false, cond}
use mathlib.Core.List.{List, ◌∷◌, map}
use mathlib.Core.Option.{none, some}
use mathlib.Core.Path.{◌≡◌}
use Rattle.cells.specs.Lists.{All}
use Rattle.meaning.specs.Entries.{Entry, named}
use Rattle.meaning.specs.Plain.{Plain, top}
use Rattle.meaning.specs.Calls.{Call, Arm, OfWheel, Advance, is_refused, due_by, result, set_up_wheel}
use Rattle.meaning.specs.Runs.{after, answers}
use Rattle.promises.specs.Demand3.{Ask, asked, Brings, AsOne}
use Rattle.promises.specs.Handles.{ended, load_of}
use Rattle.promises.specs.Fires.{Fires, moved}
use Rattle.promises.specs.Bounds.{moves_over}
use Rattle.promises.proofs.SetUps.{wheel-kept, wheel-timed}
use Rattle.promises.proofs.Demand3.{demand3}
use Rattle.promises.proofs.Lives.{life, arm-files}
use Rattle.promises.proofs.Fires.{fires, passed}
use Rattle.promises.proofs.Bounds.{timer-bound}

module _
    (cells t : ℕ)
    (before : Plain)
    (accepts : is_refused (set_up_wheel 64 6 cells t before).answer ≡ false)
    (calls : List Call)
    (ours : All OfWheel calls)
  where
    -- The list that a set-up and any calls of the wheel have left.
    unfoldable pub left : Plain
    left = after 64 6 calls (set_up_wheel 64 6 cells t before).next

    -- Demand 2: an armed timer's handle names its load until some call fires or cancels it, and nothing afterwards.
    pub from-arm : (e load : ℕ) → is_refused (result 64 6 (Arm e load) left).answer ≡ false → (later : List Call)
        → load_of (named (top left.free) left.counter (after 64 6 (Arm e load ∷ later) left).entries)
        ≡ cond (ended 64 6 (top left.free) left.counter later (result 64 6 (Arm e load) left).next) none (some load)
    unfolding left
    from-arm e load a later =
        life 64 6 e load (Arm e load) left (wheel-kept 64 6 cells t before accepts calls) (arm-files 64 6 e load left a) later

    -- Demand 2: nothing fires early, and after *done* nothing at or below the target is left.
    pub from-advance : (u r : ℕ) → is_refused (result 64 6 (Advance u r) left).answer ≡ false
        → Fires u left (result 64 6 (Advance u r) left).answer (result 64 6 (Advance u r) left).next
    unfolding left
    from-advance u r a = fires 64 6 u r left (wheel-kept 64 6 cells t before accepts calls) (wheel-timed 64 6 cells t before accepts calls ours) a

    -- Demand 2: a timer that no call moved has ended by the time the clock is past its deadline.
    pub from-passed : (c k : ℕ) (e : Entry) (later : List Call) → All OfWheel later → named c k left.entries ≡ some e
        → moved 64 6 c k later left ≡ false
        → e.key < (after 64 6 later left).clock
        → ended 64 6 c k later left ≡ true
    unfolding left
    from-passed c k e later w q m p =
        passed 64 6 c k e later left w (wheel-kept 64 6 cells t before accepts calls) (wheel-timed 64 6 cells t before accepts calls ours) q m p

    -- Demand 3: any accepted advances that bring the clock to u are as one with room for all.
    pub from-asks : (u r : ℕ) (asks : List Ask) → Brings u asks (answers 64 6 (map asked asks) left) → due_by u left.entries ≤ r → AsOne 64 6 u r asks left
    unfolding left
    from-asks u r asks b room =
        demand3 64 6 u r asks left (omega arith) (wheel-kept 64 6 cells t before accepts calls)
        (wheel-timed 64 6 cells t before accepts calls ours) b room

    -- Demand 3: at most five moves for each timer since it was last armed or moved.
    pub from-bound : (o : ℕ) (later : List Call) → All OfWheel later → moves_over 64 6 o later left ≤ 5
    unfolding left
    from-bound o later w =
        timer-bound 64 6 o (omega arith) later left w (wheel-kept 64 6 cells t before accepts calls)
        (wheel-timed 64 6 cells t before accepts calls ours)
