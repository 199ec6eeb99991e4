-- Every call of both engines on the plain list: the causes that may refuse it, in their order; its answer; the change that it makes.
-- `b` and `n` are the wheel's base and number of levels. Assumes nothing.
use Rattle.std.specs.Prelude.{ℕ, zero, suc, min, Bool, true, false, cond, List, [], ◌∷◌, map, take, drop, leb, eqb}
use Rattle.std.proofs.Math.Option.{Option, none, some, get_or}
use Rattle.cells.specs.Lists.{sum_of}
use Rattle.places.specs.Ticks.{moves, place, wake_of}
use Rattle.meaning.specs.Entries.{Entry, named, nobody, earliest}
use Rattle.meaning.specs.Plain.{Plain, fresh, top, Change, stays, files, refiles, frees, hands, apply}
use Rattle.meaning.specs.Refusals.{Cause, first_of, bad_size, bad_arity, not_after, behind, beyond, full, stale, spent, unsound, empty}

-- "Ready queue: put, first (look only), take, rekey by handle .., remove by handle." "Wheel: arm, move and cancel by handle, advance, next wake."
pub data Call : Type 0 where
  Put : (key load : ℕ) → Call
  First : Call
  Take : Call
  Rekey : (cell ticket key : ℕ) → Call
  Remove : (cell ticket : ℕ) → Call
  Arm : (deadline load : ℕ) → Call
  Move : (cell ticket deadline : ℕ) → Call
  Cancel : (cell ticket : ℕ) → Call
  Advance : (target room : ℕ) → Call
  NextWake : Call

-- The wheel's calls.
abbrev pub OfWheel : Call → Type 0
OfWheel (Put key load) = ⊥
OfWheel First = ⊥
OfWheel Take = ⊥
OfWheel (Rekey c k key) = ⊥
OfWheel (Remove c k) = ⊥
OfWheel (Arm e load) = Unit {0}
OfWheel (Move c k e) = Unit {0}
OfWheel (Cancel c k) = Unit {0}
OfWheel (Advance t r) = Unit {0}
OfWheel NextWake = Unit {0}

-- "A fired record is four words: cell, ticket, deadline, load." "First and take answer key, cell, ticket and load".
pub record Shown : Type 0 where
  pub cell : ℕ
  pub ticket : ℕ
  pub key : ℕ
  pub load : ℕ

unfoldable pub shown : Entry → Shown
shown e = record { cell = e.cell; ticket = e.ticket; key = e.key; load = e.load }

-- "The answer also gives the number fired, the clock and the moves", and *done* or *more*. The number is the length of the records.
pub record Report : Type 0 where
  pub fired : List Shown
  pub clock : ℕ
  pub moves : ℕ
  pub done : Bool

abbrev pub nothing : Report
nothing = record { fired = []; clock = 0; moves = 0; done = false }

-- "An answer is either a refusal by its number or the result with its data, never a mix."
pub data Answer : Type 0 where
  Refused : ℕ → Answer
  Ready : Answer
  Handle : (cell ticket : ℕ) → Answer
  Changed : Answer
  Load : ℕ → Answer
  Shows : Shown → Answer
  Advanced : Report → Answer
  Wakes : Option ℕ → Answer

unfoldable pub is_refused : Answer → Bool
is_refused (Refused i) = true
is_refused Ready = false
is_refused (Handle c k) = false
is_refused Changed = false
is_refused (Load x) = false
is_refused (Shows x) = false
is_refused (Advanced r) = false
is_refused (Wakes w) = false

-- What an advance reports; any other answer reports nothing.
unfoldable pub report_of : Answer → Report
report_of (Refused i) = nothing
report_of Ready = nothing
report_of (Handle c k) = nothing
report_of Changed = nothing
report_of (Load x) = nothing
report_of (Shows x) = nothing
report_of (Advanced r) = r
report_of (Wakes w) = nothing

-- "Put: 9, 6, 8. Rekey: 9, 7, 8. First, take: 9, 10. Cancel, remove: 9, 7. Arm: 9, 5, 3, 6, 8. Move: 9, 7, 5, 3, 8. Advance: 9, 5, 4. Next wake: 9."
-- The 9 that begins each list is `checked`'s.
unfoldable pub causes : ℕ → ℕ → Call → Plain → List Cause
causes b n (Put key load) s = full s ∷ spent s ∷ []
causes b n First s = empty s ∷ []
causes b n Take s = empty s ∷ []
causes b n (Rekey c k key) s = stale c k s ∷ spent s ∷ []
causes b n (Remove c k) s = stale c k s ∷ []
causes b n (Arm e load) s = beyond b n e ∷ not_after e s ∷ full s ∷ spent s ∷ []
causes b n (Move c k e) s = stale c k s ∷ beyond b n e ∷ not_after e s ∷ spent s ∷ []
causes b n (Cancel c k) s = stale c k s ∷ []
causes b n (Advance t r) s = beyond b n t ∷ behind t s ∷ []
causes b n NextWake s = []

-- "The checked call audits first." A quick call leaves the 9 out.
unfoldable pub checked : Bool → List Cause → List Cause
checked passes cs = unsound passes ∷ cs

-- What a call answers, and the change that it makes.
pub record Outcome : Type 0 where
  pub answer : Answer
  pub change : Change

-- "Let D be the entries with deadline at most the target, in the order above": how many, of a list in order.
unfoldable pub due_by : ℕ → List Entry → ℕ
due_by t [] = zero
due_by t (e ∷ es) = cond (leb e.key t) (suc (due_by t es)) zero

-- "The moves reported are the sum over the entries that stand in the wheel when the advance is called."
unfoldable pub all_moves : ℕ → ℕ → ℕ → ℕ → List Entry → ℕ
all_moves b n a c es = sum_of (λ (e : Entry). moves b n a c e.key) es

-- The first m handed out, at clock c.
unfoldable pub hand_out : ℕ → ℕ → Bool → ℕ → ℕ → Plain → Outcome
hand_out b n done m c s =
    record {
      answer =
          Advanced
          (record
          { fired = map shown (take m s.entries); clock = c; moves = all_moves b n s.clock c s.entries; done = done });
      change = hands m c;
    }

-- "If D has at most r entries: all are handed out and freed, the clock becomes the target, the answer is *done*.
-- Otherwise: the first r are handed out and freed, the clock becomes the deadline of the next entry of D, the answer is *more*."
unfoldable pub advanced : ℕ → ℕ → ℕ → ℕ → Plain → Outcome
advanced b n t r s =
    cond (leb (due_by t s.entries) r)
    (hand_out b n true (due_by t s.entries) t s)
    (hand_out b n false r (earliest (drop r s.entries)).key s)

-- The smallest of some numbers, if there is one.
unfoldable pub least : ℕ → List ℕ → ℕ
least x [] = x
least x (y ∷ ys) = least (min x y) ys

unfoldable pub smallest : List ℕ → Option ℕ
smallest [] = none
smallest (x ∷ xs) = some (least x xs)

-- "Next wake answers the clock if the due list isn't empty, else the smallest wake tick, else *none*."
unfoldable pub next_wake : ℕ → ℕ → Plain → Option ℕ
next_wake b n s =
    cond (eqb (due_by s.clock s.entries) 0)
    (smallest (map (λ (e : Entry). wake_of b s.clock (place b n s.clock e.key)) s.entries))
    (some s.clock)

-- Arm and put, move and rekey, cancel and remove do one thing each to the list.
unfoldable pub filing : ℕ → ℕ → Plain → Outcome
filing key load s = record { answer = Handle (top s.free) s.counter; change = files key load }

unfoldable pub refiling : ℕ → ℕ → ℕ → Outcome
refiling c k key = record { answer = Changed; change = refiles c k key }

-- "a load .. handed back when it is fired, taken, cancelled or removed"
unfoldable pub freeing : ℕ → ℕ → Plain → Outcome
freeing c k s = record { answer = Load (get_or (named c k s.entries) nobody).load; change = frees c k }

-- What a call does where no cause refuses it.
unfoldable pub accepted : ℕ → ℕ → Call → Plain → Outcome
accepted b n (Put key load) s = filing key load s
accepted b n First s = record { answer = Shows (shown (earliest s.entries)); change = stays }
accepted b n Take s = record { answer = Shows (shown (earliest s.entries)); change = hands 1 s.clock }
accepted b n (Rekey c k key) s = refiling c k key
accepted b n (Remove c k) s = freeing c k s
accepted b n (Arm e load) s = filing e load s
accepted b n (Move c k e) s = refiling c k e
accepted b n (Cancel c k) s = freeing c k s
accepted b n (Advance t r) s = advanced b n t r s
accepted b n NextWake s = record { answer = Wakes (next_wake b n s); change = stays }

-- "A refusal hands back the head unchanged and every lent word unchanged".
unfoldable pub refused : ℕ → Outcome
refused i = record { answer = Refused i; change = stays }

unfoldable pub outcome : ℕ → ℕ → Call → Plain → Outcome
outcome b n call s = first_of (causes b n call s) refused (accepted b n call s)

-- A checked call, where the audit passes or not.
unfoldable pub checked_outcome : Bool → ℕ → ℕ → Call → Plain → Outcome
checked_outcome passes b n call s = first_of (checked passes (causes b n call s)) refused (accepted b n call s)

-- The answer and the list afterwards.
pub record Result : Type 0 where
  pub answer : Answer
  pub next : Plain

unfoldable pub result : ℕ → ℕ → Call → Plain → Result
result b n call s = record { answer = (outcome b n call s).answer; next = apply (outcome b n call s).change s }

-- A set-up that is refused leaves what there was; one that is accepted begins anew: "it rewrites every whole cell".
unfoldable pub refused_set_up : Plain → ℕ → Result
refused_set_up s i = record { answer = Refused i; next = s }

unfoldable pub accepted_set_up : ℕ → ℕ → Result
accepted_set_up cells t = record { answer = Ready; next = fresh cells t }

-- "Queue set-up: 1, 2. Wheel set-up: 1, 5. .. Set-up never gives 9".
unfoldable pub set_up_queue : ℕ → ℕ → Plain → Result
set_up_queue cells d s = first_of (bad_size cells ∷ bad_arity d ∷ []) (refused_set_up s) (accepted_set_up cells 0)

unfoldable pub set_up_wheel : ℕ → ℕ → ℕ → ℕ → Plain → Result
set_up_wheel b n cells t s = first_of (bad_size cells ∷ beyond b n t ∷ []) (refused_set_up s) (accepted_set_up cells t)
