-- What answers told fired, and the entries that the calls ended: over any calls, on the plain list.
-- Assumes nothing.
use Prim.Native.Nat.{ℕ, ◌+◌, ◌≤◌}
use native.Mathlib.Omega.{arith}
use mathlib.Core.Bool.{Bool, true, false, cond}
use mathlib.Core.List.{List, [], ◌∷◌, map}
use mathlib.Core.Logic.{◌≢◌}
use mathlib.Core.Option.{some}
use mathlib.Core.Path.{◌≡◌, refl, sym, ap, ap₂}
use lib.Dec.{eqb, leb}
use lib.ListN.{take, drop}
use borrow.Author.Tests.{eqb-true, not-true}
use Rattle.cells.specs.Lists.{All, times}
use Rattle.cells.proofs.Cases.{clash, and-true, or-true}
use Rattle.cells.proofs.Lists.{times-append, times-here}
use Rattle.meaning.specs.Entries.{Entry, named, without, earliest}
use Rattle.meaning.specs.Plain.{Plain, Change, apply}
use Rattle.meaning.specs.Becomes.{same_handle}
use Rattle.meaning.specs.Calls.{
  Call,
  Put,
  First,
  Take,
  Rekey,
  Remove,
  Arm,
  Move,
  Cancel,
  Advance,
  NextWake,
  OfWheel,
  Shown,
  shown,
  report_of,
  Outcome,
  causes,
  due_by,
  hand_out,
  advanced,
  filing,
  refiling,
  freeing,
  accepted,
  refused,
  outcome,
  result,
}
use Rattle.meaning.specs.Runs.{answers}
use Rattle.meaning.proofs.Allowed.{found}
use Rattle.meaning.proofs.Given.{given-either}
use Rattle.meaning.proofs.Handles.{ticket_of, map-append, named-names, names-own, times-without}
use Rattle.promises.specs.Demand3.{reports, joined}
use Rattle.promises.specs.Handles.{ends, ended}
use Rattle.promises.specs.Tickets.{ends_tickets, over, fired_tickets}

-- The tickets that an outcome tells fired.
told : Outcome → List ℕ
told o = map (λ (x : Shown). x.ticket) (report_of o.answer).fired

-- The records that a hand-out tells have the tickets of the entries that it ends.
shown-tickets : (es : List Entry) → map (λ (x : Shown). x.ticket) (map shown es) ≡ map (λ (e : Entry). e.ticket) es
unfolding shown
shown-tickets [] = refl
shown-tickets (e ∷ es) = ap (λ (l : List ℕ). e.ticket ∷ l) (shown-tickets es)

-- What an outcome tells fired it has ended.
Tells : ℕ → Plain → Outcome → Type 0
Tells k s o = times k (told o) ≤ times k (ends_tickets o.change s)

module _ (b n k : ℕ) (s : Plain) where
  tells-handed : (done : Bool) (m c : ℕ) → Tells k s (hand_out b n done m c s)
  unfolding Tells told hand_out report_of ends_tickets
  tells-handed done m c = omega (arith, ap (times k) (shown-tickets (take m s.entries)))

  tells-advance : (t r : ℕ) (enough : Bool)
      → Tells k s (cond enough (hand_out b n true (due_by t s.entries) t s) (hand_out b n false r (earliest (drop r s.entries)).key s))
  tells-advance t r true = tells-handed true (due_by t s.entries) t
  tells-advance t r false = tells-handed false r (earliest (drop r s.entries)).key

  -- Only an advance tells anything fired.
  tells-accepted : (call : Call) → Tells k s (accepted b n call s)
  unfolding Tells told accepted filing refiling freeing advanced report_of times
  tells-accepted (Put key load) = omega arith
  tells-accepted First = omega arith
  tells-accepted Take = omega arith
  tells-accepted (Rekey c j key) = omega arith
  tells-accepted (Remove c j) = omega arith
  tells-accepted (Arm e load) = omega arith
  tells-accepted (Move c j e) = omega arith
  tells-accepted (Cancel c j) = omega arith
  tells-accepted (Advance t r) = tells-advance t r (leb (due_by t s.entries) r)
  tells-accepted NextWake = omega arith

  tells-call : (call : Call) → Tells k s (outcome b n call s)
  unfolding outcome
  tells-call call =
      given-either (Tells k s) refused (accepted b n call s) (causes b n call s)
      (λ i. unfold Tells told refused report_of times in omega arith)
      (λ f. tells-accepted call)

-- The tickets told fired by a call and those after it.
fired-more : (b n k : ℕ) (call : Call) (calls : List Call) (s : Plain)
    → times k (fired_tickets (answers b n (call ∷ calls) s))
    ≡ times k (told (outcome b n call s)) + times k (fired_tickets (answers b n calls (apply (outcome b n call s).change s)))
unfolding fired_tickets reports joined answers result told
fired-more b n k call calls s =
    let here : List Shown = (report_of (outcome b n call s).answer).fired in
    let rest : List Shown = joined (reports (answers b n calls (apply (outcome b n call s).change s))) in
    omega (
      arith,
      ap (times k) (map-append (λ (x : Shown). x.ticket) here rest),
      times-append k (map (λ (x : Shown). x.ticket) here) (map (λ (x : Shown). x.ticket) rest),
    )

-- Over any calls, what is told fired is among what has ended.
pub fired-ends : (b n k : ℕ) (calls : List Call) (s : Plain) → times k (fired_tickets (answers b n calls s)) ≤ times k (over ends_tickets b n calls s)
unfolding fired_tickets reports joined answers over result times Tells
fired-ends b n k [] s = omega arith
fired-ends b n k (call ∷ calls) s =
    let ch : Change = (outcome b n call s).change in
    omega (
      arith,
      fired-more b n k call calls s,
      tells-call b n k s call,
      fired-ends b n k calls (apply ch s),
      times-append k (ends_tickets ch s) (over ends_tickets b n calls (apply ch s)),
    )

-- A ticket that a handle names stands in the list.
named-stands : (c k : ℕ) (e : Entry) (es : List Entry) → named c k es ≡ some e → 1 ≤ times k (map (λ (e : Entry). e.ticket) es)
named-stands c k e es q =
    omega (
      arith,
      times-without c k k ticket_of e es q,
      times-here k e.ticket (map ticket_of (without c k es)) (names-own c k e (named-names c k e es q)).1,
    )

-- Where an outcome ends the handle's timer it tells it fired, unless it is a cancel by that handle.
Fired : ℕ → ℕ → Plain → Outcome → Type 0
Fired c k s o = ends c k o.change s ≡ true → 1 ≤ times k (told o)

module _ (b n c k : ℕ) (s : Plain) where
  fired-handed : (done : Bool) (m t : ℕ) → Fired c k s (hand_out b n done m t s)
  unfolding Fired told hand_out report_of ends
  fired-handed done m t e =
      let (x, q) = found (named c k (take m s.entries)) (not-true _ e) in
      omega (arith, named-stands c k x (take m s.entries) q, ap (times k) (shown-tickets (take m s.entries)))

  fired-advance : (t r : ℕ) (enough : Bool)
      → Fired c k s (cond enough (hand_out b n true (due_by t s.entries) t s) (hand_out b n false r (earliest (drop r s.entries)).key s))
  fired-advance t r true = fired-handed true (due_by t s.entries) t
  fired-advance t r false = fired-handed false r (earliest (drop r s.entries)).key

  same-cancel : (c' k' : ℕ) → same_handle c k c' k' ≡ true → Cancel c' k' ≡ Cancel c k
  unfolding same_handle
  same-cancel c' k' e =
      let two = and-true (eqb c c') (eqb k k') e in
      ap₂ Cancel (sym (eqb-true c c' two.0)) (sym (eqb-true k k' two.1))

  fired-accepted : (call : Call) → OfWheel call → call ≢ Cancel c k → Fired c k s (accepted b n call s)
  unfolding Fired accepted filing refiling freeing advanced ends
  fired-accepted (Put key load) o d e = absurd o
  fired-accepted First o d e = absurd o
  fired-accepted Take o d e = absurd o
  fired-accepted (Rekey c' k' key) o d e = absurd o
  fired-accepted (Remove c' k') o d e = absurd o
  fired-accepted (Arm t load) o d e = clash e refl
  fired-accepted (Move c' k' t) o d e = clash e refl
  fired-accepted (Cancel c' k') o d e = absurd (d (same-cancel c' k' e))
  fired-accepted (Advance t r) o d e = fired-advance t r (leb (due_by t s.entries) r) e
  fired-accepted NextWake o d e = clash e refl

  fired-call : (call : Call) → OfWheel call → call ≢ Cancel c k → Fired c k s (outcome b n call s)
  unfolding outcome
  fired-call call o d =
      given-either (Fired c k s) refused (accepted b n call s) (causes b n call s)
      (λ i. unfold Fired refused ends in λ e. clash e refl)
      (λ f. fired-accepted call o d)

-- Over any calls of the wheel, a timer that has ended, and by no cancel, was told fired.
pub ended-fired : (b n c k : ℕ) (calls : List Call) (s : Plain) → All OfWheel calls → All (λ (call : Call). call ≢ Cancel c k) calls
    → ended b n c k calls s ≡ true
    → 1 ≤ times k (fired_tickets (answers b n calls s))
unfolding ended result Fired
ended-fired b n c k [] s o d e = clash e refl
ended-fired b n c k (call ∷ calls) s o d e =
    let ch : Change = (outcome b n call s).change in
    or-true (ends c k ch s) (ended b n c k calls (apply ch s)) e
    (λ h. omega (arith, fired-more b n k call calls s, fired-call b n c k s call o.0 d.0 h))
    (λ h. omega (arith, fired-more b n k call calls s, ended-fired b n c k calls (apply ch s) o.1 d.1 h))
