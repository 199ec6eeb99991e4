-- The proved table: the cases that document 01 works by hand and marks with *, its example, its orders of checks and an error it has met, as one list
-- of rows and one computed statement over it. Assumes nothing.
use Prim.Native.Nat.{ℕ, zero, suc}
use mathlib.Core.Bool.{Bool, true, false, cond, ◌&&◌}
use mathlib.Core.List.{List, [], ◌∷◌, ◌++◌, map, flat_map}
use mathlib.Core.Option.{Option, none, some}
use mathlib.Core.Path.{◌≡◌, refl}
use lib.Dec.{eqb}
use Rattle.cells.specs.Lists.{sum_of}
use Rattle.places.specs.Ticks.{digit, last_tick, level, Place, due, slot, place, wake_tick, wake_of, nonzeros, moves}
use Rattle.meaning.specs.Entries.{Entry, before, insert, names, named, without, earliest}
use Rattle.meaning.specs.Plain.{Plain, up_from, fresh, top, onto, filed, refiled, apply}
use Rattle.meaning.specs.Refusals.{Cause, first_of, is_empty, is_none, not_after, behind, beyond, full, stale, spent, unsound, empty}
use Rattle.meaning.specs.Calls.{Call, Put, First, Take, Rekey, Remove, Arm, Move, Cancel, Advance, NextWake, Answer, Refused, Ready, Handle, Changed, Load, Shows, Advanced, Wakes, Shown, shown, report_of, causes, due_by, checked, all_moves, hand_out, advanced, least, smallest, next_wake, filing, refiling, freeing, accepted, refused, outcome, result}
use Rattle.meaning.specs.Runs.{after, answers}
use Rattle.meaning.specs.Heap.{
  at,
  parent,
  exchange,
  early,
  rise,
  earlier,
  earliest_of,
  child,
  sink,
  settle,
  heap_put,
  heap_remove,
  heap_rekey,
  holds,
  moved_from,
  heap_moves,
  steps,
  levels,
}

-- A row: what the definitions give, and what document 01 wants. Numbers throughout, so that one test serves all rows.
pub record Row : Type 0 where
  pub found : List ℕ
  pub wanted : List ℕ

row : List ℕ → List ℕ → Row
row f w = record { found = f; wanted = w }

-- An answer as numbers, its kind first.
of_shown : Shown → List ℕ
of_shown x = x.cell ∷ x.ticket ∷ x.key ∷ x.load ∷ []

words : Answer → List ℕ
unfolding of_shown
words (Refused i) = 0 ∷ i ∷ []
words Ready = 1 ∷ []
words (Handle c k) = 2 ∷ c ∷ k ∷ []
words Changed = 3 ∷ []
words (Load x) = 4 ∷ x ∷ []
words (Shows x) = 5 ∷ of_shown x
words (Advanced r) = cond r.done 7 6 ∷ (flat_map of_shown r.fired ++ (r.clock ∷ r.moves ∷ []))
words (Wakes none) = 8 ∷ []
words (Wakes (some w)) = 9 ∷ w ∷ []

-- Calls on six levels answer so.
says : List Call → Plain → List Answer → Row
says calls s wanted = row (flat_map words (answers 64 6 calls s)) (flat_map words wanted)

-- An entry as it is shown, and an advance's answers.
entry : ℕ → ℕ → ℕ → ℕ → Shown
entry c k key load = record { cell = c; ticket = k; key = key; load = load }

more : List Shown → ℕ → ℕ → Answer
more fired clock moves = Advanced (record { fired = fired; clock = clock; moves = moves; done = false })

done : List Shown → ℕ → ℕ → Answer
done fired clock moves = Advanced (record { fired = fired; clock = clock; moves = moves; done = true })

-- Where an entry stands: its level and slot, or nothing in the due list.
standing : Place → List ℕ
standing due = []
standing (slot p s) = p ∷ s ∷ []

stands : ℕ → ℕ → List ℕ
stands t e = standing (place 64 6 t e)

-- A wheel of one cell at clock t with one timer.
timer : ℕ → ℕ → Plain
timer t e = after 64 6 (Arm e 0 ∷ []) (fresh 1 t)

-- The wake ticks to which a wheel's clock is brought, one by one, until nothing is left; the first number bounds them.
wakes : ℕ → Plain → List ℕ
wakes zero s = []
wakes (suc k) s = to (next_wake 64 6 s) (λ (w : ℕ). wakes k (after 64 6 (Advance w 1 ∷ []) s))
  where
    to : Option ℕ → (ℕ → List ℕ) → List ℕ
    to none on = []
    to (some w) on = w ∷ on w

-- The moves that an advance to c reports.
moves_to : ℕ → Plain → List ℕ
moves_to c s = (report_of (result 64 6 (Advance c 4) s).answer).moves ∷ []

-- Puts of some keys, each with load 0, and a queue of four cells after them.
put_all : List ℕ → List Call
put_all keys = map (λ (key : ℕ). Put key 0) keys

queue4 : List ℕ → Plain
queue4 keys = after 64 6 (put_all keys) (fresh 4 0)

-- A heap after the same puts, from ticket i on, and the moves of each put.
puts : ℕ → ℕ → List ℕ → List Entry → List ℕ × List Entry
puts d i [] h = ([], h)
puts d i (key ∷ keys) h =
    let h' = heap_put d (record { key = key; order = i; cell = 0; ticket = i; load = 0 }) h in
    let rest = puts d (suc i) keys h' in
    (heap_moves h h' ∷ rest.0, rest.1)

heap4 : List ℕ × List Entry
heap4 = puts 2 1 (5 ∷ 3 ∷ 5 ∷ 1 ∷ []) []

-- Keys and tickets in the order in which takes hand them out of a heap; the first number bounds them.
takes : ℕ → ℕ → List Entry → List ℕ
takes d zero h = []
takes d (suc k) h = (at h 0).key ∷ (at h 0).ticket ∷ takes d k (heap_remove d 0 h)

-- That heap with another key for the ticket at position p.
rekeyed : ℕ → ℕ → ℕ → List Entry
rekeyed p k key = heap_rekey 2 p (record { key = key; order = 5; cell = 0; ticket = k; load = 0 }) heap4.1

-- The numbers of the causes that a checked call goes through, in order.
order : Call → List ℕ
order call = map (λ (c : Cause). c.number) (checked true (causes 64 6 call (fresh 1 0)))

-- "68,719,476,735 (2^36 - 1, "the last tick")"
last_one : ℕ
last_one = 68719476735

pub table : List Row
table =
    -- "Clock 0, deadline 4,161 (digits 1,1,1): level 2 slot 1; wakes at 4,096, 4,160 and 4,161; 2 moves."
    row (digit 64 2 4161 ∷ digit 64 1 4161 ∷ digit 64 0 4161 ∷ []) (1 ∷ 1 ∷ 1 ∷ [])
    ∷ row (stands 0 4161) (2 ∷ 1 ∷ [])
    ∷ row (wakes 8 (timer 0 4161)) (4096 ∷ 4160 ∷ 4161 ∷ [])
    ∷ row (moves_to 4161 (timer 0 4161)) (2 ∷ [])
    -- "The same, advanced to 4,100: 1 move, now level 1 slot 1; then to 4,161: 1 more."
    ∷ row (moves_to 4100 (timer 0 4161)) (1 ∷ [])
    ∷ row (stands 4100 4161) (1 ∷ 1 ∷ [])
    ∷ row (moves_to 4161 (after 64 6 (Advance 4100 1 ∷ []) (timer 0 4161))) (1 ∷ [])
    -- "Clock 63, deadline 64: level 1 slot 1; 0 moves."
    ∷ row (stands 63 64 ++ moves_to 64 (timer 63 64)) (1 ∷ 1 ∷ 0 ∷ [])
    -- "Clock 0, the last tick: level 5 slot 63; first wake 67,645,734,912; 5 moves."
    ∷ row (stands 0 last_one) (5 ∷ 63 ∷ [])
    ∷ row (wakes 1 (timer 0 last_one)) (67645734912 ∷ [])
    ∷ row (moves_to last_one (timer 0 last_one)) (5 ∷ [])
    -- "Clock 100, deadlines 130 and 5,000: next wake 128; the first at level 1 slot 2, 1 move; the second at level 2 slot 1."
    ∷ says (Arm 130 0 ∷ Arm 5000 0 ∷ NextWake ∷ []) (fresh 2 100) (Handle 0 1 ∷ Handle 1 2 ∷ Wakes (some 128) ∷ [])
    ∷ row (stands 100 130 ++ moves_to 130 (timer 100 130)) (1 ∷ 2 ∷ 1 ∷ [])
    ∷ row (stands 100 5000) (2 ∷ 1 ∷ [])
    -- "Arm at deadline = clock: 3; clock + 1: accepted below the last tick. Deadline 68,719,476,736: 5. Target = clock: accepted."
    ∷ says (Arm 7 0 ∷ Arm 8 0 ∷ Arm (suc last_one) 0 ∷ Advance 7 0 ∷ []) (fresh 9 7) (Refused 3 ∷ Handle 0 1 ∷ Refused 5 ∷ done [] 7 0 ∷ [])
    ∷ says (Arm last_one 0 ∷ []) (fresh 9 68719476734) (Handle 0 1 ∷ [])
    ∷ says (Arm (suc last_one) 0 ∷ []) (fresh 9 last_one) (Refused 5 ∷ [])
    -- "d = 2, put 5, 3, 5, 1: moves 0, 1, 0, 2; takes give 1, 3, the first 5, the second 5; the first take reports 2 moves."
    ∷ row heap4.0 (0 ∷ 1 ∷ 0 ∷ 2 ∷ [])
    ∷ row (takes 2 4 heap4.1) (1 ∷ 4 ∷ 3 ∷ 2 ∷ 5 ∷ 1 ∷ 5 ∷ 3 ∷ [])
    ∷ row (heap_moves heap4.1 (heap_remove 2 0 heap4.1) ∷ []) (2 ∷ [])
    ∷ says (put_all (5 ∷ 3 ∷ 5 ∷ 1 ∷ [])) (fresh 4 0) (Handle 0 1 ∷ Handle 1 2 ∷ Handle 2 3 ∷ Handle 3 4 ∷ [])
    ∷ says (Take ∷ Take ∷ Take ∷ Take ∷ Take ∷ []) (queue4 (5 ∷ 3 ∷ 5 ∷ 1 ∷ []))
    (Shows (entry 3 4 1 0) ∷ Shows (entry 1 2 3 0) ∷ Shows (entry 0 1 5 0) ∷ Shows (entry 2 3 5 0) ∷ Refused 10 ∷ [])
    -- "Levels for d = 4: 5 entries 2, 6 entries 3."
    ∷ row (levels 4 5 ∷ levels 4 6 ∷ []) (2 ∷ 3 ∷ [])
    -- The example of the script program, and at its end the cell's older handle: "a second cancel hits the next owner".
    ∷ says
    (Arm 4161 7 ∷ Arm 4161 8 ∷ Arm 9 9 ∷ Advance 4161 1 ∷ Advance 4161 4 ∷ Cancel 0 1 ∷ Arm 4200 5 ∷ Cancel 1 2 ∷ [])
    (fresh 2 0)
    (Handle 0 1
    ∷ Handle 1 2
    ∷ Refused 6
    ∷ more (entry 0 1 4161 7 ∷ []) 4161 4
    ∷ done (entry 1 2 4161 8 ∷ []) 4161 0
    ∷ Refused 7
    ∷ Handle 1 3
    ∷ Refused 7
    ∷ [])
    -- "a freed cell goes on top, in the order in which entries are handed out": by one advance, and by two cancels.
    ∷ says
    (Arm 8 1 ∷ Arm 9 2 ∷ Advance 9 2 ∷ Arm 10 3 ∷ Arm 11 4 ∷ Cancel 1 3 ∷ Cancel 0 4 ∷ Arm 12 5 ∷ [])
    (fresh 2 0)
    (Handle 0 1
    ∷ Handle 1 2
    ∷ done (entry 0 1 8 1 ∷ entry 1 2 9 2 ∷ []) 9 0
    ∷ Handle 1 3
    ∷ Handle 0 4
    ∷ Load 3
    ∷ Load 4
    ∷ Handle 0 5
    ∷ [])
    -- "the clock becomes the deadline of the next entry of D", which is then due: "Next wake answers the clock if the due list isn't empty".
    ∷ says
    (Arm 8 1 ∷ Arm 9 2 ∷ Arm 70 3 ∷ Advance 80 1 ∷ NextWake ∷ Advance 80 0 ∷ Advance 80 2 ∷ NextWake ∷ [])
    (fresh 3 0)
    (Handle 0 1
    ∷ Handle 1 2
    ∷ Handle 2 3
    ∷ more (entry 0 1 8 1 ∷ []) 9 0
    ∷ Wakes (some 9)
    ∷ more [] 9 0
    ∷ done (entry 1 2 9 2 ∷ entry 2 3 70 3 ∷ []) 80 1
    ∷ Wakes none
    ∷ [])
    -- "it sinks past its earliest child", of four: takes give the keys in order.
    ∷ row (takes 4 6 (puts 4 1 (7 ∷ 2 ∷ 9 ∷ 4 ∷ 3 ∷ 8 ∷ []) []).1) (2 ∷ 2 ∷ 3 ∷ 5 ∷ 4 ∷ 4 ∷ 7 ∷ 1 ∷ 8 ∷ 6 ∷ 9 ∷ 3 ∷ [])
    -- "Rekey: rise, else sink": of keys 5, 3, 5, 1, the last put to 4 sinks below 3, and the entry behind it in the heap rises above it.
    ∷ row (map (λ (e : Entry). e.ticket) (rekeyed 0 4 4)) (2 ∷ 4 ∷ 3 ∷ 1 ∷ [])
    ∷ row (heap_moves heap4.1 (rekeyed 0 4 4) ∷ heap_moves heap4.1 (rekeyed 3 1 0) ∷ []) (2 ∷ 3 ∷ [])
    -- "The first that applies .. is given": no free cell, and a deadline above the last tick.
    ∷ says (Arm 1 0 ∷ Arm (suc last_one) 0 ∷ Move 9 9 0 ∷ []) (fresh 1 0) (Handle 0 1 ∷ Refused 5 ∷ Refused 7 ∷ [])
    -- "takes a fresh order number in the same way, even when the deadline or key is unchanged"
    ∷ says (Put 5 1 ∷ Put 5 2 ∷ Rekey 0 1 5 ∷ Take ∷ Remove 0 1 ∷ []) (fresh 2 0)
    (Handle 0 1 ∷ Handle 1 2 ∷ Changed ∷ Shows (entry 1 2 5 2) ∷ Load 1 ∷ [])
    -- "Arm: 9, 5, 3, 6, 8. Move: 9, 7, 5, 3, 8. Advance: 9, 5, 4. Cancel, remove: 9, 7. Put: 9, 6, 8. Rekey: 9, 7, 8. First, take: 9, 10. Next wake: 9."
    ∷ row (order (Arm 1 0)) (9 ∷ 5 ∷ 3 ∷ 6 ∷ 8 ∷ [])
    ∷ row (order (Move 0 1 1)) (9 ∷ 7 ∷ 5 ∷ 3 ∷ 8 ∷ [])
    ∷ row (order (Advance 1 0)) (9 ∷ 5 ∷ 4 ∷ [])
    ∷ row (order (Cancel 0 1) ++ order (Remove 0 1)) (9 ∷ 7 ∷ 9 ∷ 7 ∷ [])
    ∷ row (order (Put 1 0)) (9 ∷ 6 ∷ 8 ∷ [])
    ∷ row (order (Rekey 0 1 1)) (9 ∷ 7 ∷ 8 ∷ [])
    ∷ row (order First ++ order Take) (9 ∷ 10 ∷ 9 ∷ 10 ∷ [])
    ∷ row (order NextWake) (9 ∷ [])
    ∷ []

list_eq : List ℕ → List ℕ → Bool
list_eq [] [] = true
list_eq [] (y ∷ ys) = false
list_eq (x ∷ xs) [] = false
list_eq (x ∷ xs) (y ∷ ys) = eqb x y && list_eq xs ys

pub all_fit : List Row → Bool
all_fit [] = true
all_fit (r ∷ rs) = list_eq r.found r.wanted && all_fit rs

-- Every row of the table is as document 01 has it.
pub table_fits : all_fit table ≡ true
unfolding all_fit list_eq table last_one order takes heap4 puts queue4 put_all moves_to wakes timer stands standing done more entry says words of_shown row flat_map digit last_tick level place wake_tick wake_of nonzeros moves sum_of before insert names named without earliest up_from fresh top onto filed refiled apply first_of is_empty is_none not_after behind beyond full stale spent unsound empty shown causes checked due_by report_of all_moves hand_out advanced least smallest next_wake filing refiling freeing accepted refused outcome result after answers at parent exchange early rise earlier earliest_of child sink settle heap_put heap_remove heap_rekey rekeyed holds moved_from heap_moves steps levels
table_fits = refl
