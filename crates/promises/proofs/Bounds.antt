-- Each timer makes at most one move fewer than there are levels, from the arm or move that gave it its order number on, whatever is called.
-- Assumes nothing.
use Prim.Native.Nat.{ℕ, ◌+◌, ◌-◌, ◌*◌, ◌≤◌, ◌<◌}
use native.Mathlib.Nat.{mul-le-mul_left}
use native.Mathlib.Omega.{arith}
use mathlib.Core.Bool.{Bool, true, false, cond}
use mathlib.Core.List.{List, [], ◌∷◌, map}
use mathlib.Core.Option.{get_or}
use mathlib.Core.Path.{◌≡◌, refl, sym, ap, subst, ◌∙◌}
use lib.Dec.{eqb}
use lib.ListN.{take, drop, take-append-drop}
use borrow.Author.Tests.{ne_eqb}
use Rattle.cells.specs.Lists.{All, times, sum_of}
use Rattle.cells.proofs.Cases.{at_most?}
use Rattle.cells.proofs.Lists.{all_map, all_drop, all_both, sum_of-append, sum_of-add, sum_of-same}
use Rattle.places.specs.Ticks.{moves, last_tick}
use Rattle.places.proofs.Digits.{tick-below}
use Rattle.places.proofs.Counts.{left, left-bound, moves-all, moves-part, moves-bound}
use Rattle.meaning.specs.Entries.{Entry, named, without, names, nobody}
use Rattle.meaning.specs.Plain.{Plain, files, refiles, frees, hands, apply, filed, refiled}
use Rattle.meaning.specs.Refusals.{Free}
use Rattle.meaning.specs.Calls.{
  Call,
  Put,
  First,
  Take,
  Rekey,
  Remove,
  Arm,
  Move,
  Cancel,
  Advance,
  NextWake,
  OfWheel,
  Outcome,
  causes,
  hand_out,
  filing,
  refiling,
  freeing,
  accepted,
  refused,
  outcome,
  result,
}
use Rattle.meaning.proofs.Given.{given-either}
use Rattle.dial.proofs.AnyOrder.{sum_of-insert}
use Rattle.meaning.specs.Kept.{Kept, Within, Timed}
use Rattle.meaning.specs.Handed.{Handed}
use Rattle.meaning.proofs.Kept.{unused}
use Rattle.meaning.proofs.Handed.{outcome-free}
use Rattle.meaning.proofs.Reached.{kept-call}
use Rattle.meaning.proofs.Timed.{timed-call, advance-hands}
use Rattle.meaning.proofs.Becomes.{counter-call}
use Rattle.promises.specs.Bounds.{moves_of, moves_over}

-- What the entry with order number o still has to move at clock a.
left_of : ℕ → ℕ → ℕ → ℕ → Entry → ℕ
left_of b n o a e = cond (eqb e.order o) (left b n a e.key) 0

-- A sum over a list without an entry.
sum_of-without : (f : Entry → ℕ) (c k : ℕ) (es : List Entry) → sum_of f (without c k es) ≤ sum_of f es
unfolding sum_of without
sum_of-without f c k [] = omega arith
sum_of-without f c k (e ∷ es) = go (names c k e) (sum_of-without f c k es)
  where
    go : (t : Bool) → sum_of f (without c k es) ≤ sum_of f es → sum_of f (cond t es (e ∷ without c k es)) ≤ f e + sum_of f es
    go true r = omega arith
    go false r = omega arith

-- Numbers of at most m, counted for one order number only, come to at most m for each entry that has it.
sum_of-one : (g : Entry → ℕ) (m o : ℕ) (es : List Entry) → ((e : Entry) → g e ≤ m)
    → sum_of (λ (e : Entry). cond (eqb e.order o) (g e) 0) es ≤ m * times o (map (λ (e : Entry). e.order) es)
unfolding sum_of times
sum_of-one g m o [] h = omega arith
sum_of-one g m o (e ∷ es) h = go (eqb e.order o) (sum_of-one g m o es h)
  where
    go : (t : Bool)
        → sum_of (λ (e : Entry). cond (eqb e.order o) (g e) 0) es ≤ m * times o (map (λ (e : Entry). e.order) es)
        → cond t (g e) 0 + sum_of (λ (e : Entry). cond (eqb e.order o) (g e) 0) es
        ≤ m * (cond t 1 0 + times o (map (λ (e : Entry). e.order) es))
    go true r = omega (arith, h e)
    go false r = omega arith

module _ (b n o : ℕ) (positive : 0 < b) (s : Plain) (kept : Kept s) (timed : Timed b n s) (given : o < s.counter) where
  -- At each entry: what it moves up to c and what it has left there is what it had left.
  each_part : (c : ℕ) (e : Entry) → s.clock ≤ c → c ≤ e.key → e.key ≤ last_tick b n
      → moves_of b n o s.clock c e + left_of b n o c e ≡ left_of b n o s.clock e
  unfolding moves_of left_of
  each_part c e h k l = go (eqb e.order o)
    where
      go : (t : Bool)
          → cond t (moves b n s.clock c e.key) 0 + cond t (left b n c e.key) 0 ≡ cond t (left b n s.clock e.key) 0
      go true = moves-part b n s.clock c e.key h k (tick-below b n e.key positive l)
      go false = refl

  each_all : (c : ℕ) (e : Entry) → e.key ≤ c → moves_of b n o s.clock c e ≡ left_of b n o s.clock e
  unfolding moves_of left_of
  each_all c e h = go (eqb e.order o)
    where
      go : (t : Bool) → cond t (moves b n s.clock c e.key) 0 ≡ cond t (left b n s.clock e.key) 0
      go true = moves-all b n s.clock c e.key h
      go false = refl

  -- The moves of a call are paid from what the timer had left.
  Paid : Plain → Type 0
  Paid next =
      sum_of (moves_of b n o s.clock next.clock) s.entries + sum_of (left_of b n o next.clock) next.entries
      ≤ sum_of (left_of b n o s.clock) s.entries

  -- A clock that stands moves nothing.
  still : sum_of (moves_of b n o s.clock s.clock) s.entries ≡ 0
  still =
      omega (
        arith,
        sum_of-add (moves_of b n o s.clock s.clock) (left_of b n o s.clock) (left_of b n o s.clock) s.entries
            (all_map (λ e w. each_part s.clock e (omega arith) w.late w.last) s.entries timed.deadlines),
      )

  -- A new entry has another order number.
  newer : (x : Entry) → x.order ≡ s.counter → left_of b n o s.clock x ≡ 0
  unfolding left_of
  newer x e = rw (ne_eqb x.order o (λ q. omega arith))

  paid-stays : Paid s
  unfolding Paid
  paid-stays = omega (arith, still)

  paid-files : (key load : ℕ) → Paid (apply (files key load) s)
  unfolding Paid apply
  paid-files key load =
      omega (
        arith,
        still,
        sum_of-insert (left_of b n o s.clock) (filed key load s) s.entries,
        newer (filed key load s) (unfold filed in refl),
      )

  paid-refiles : (c k key : ℕ) → Paid (apply (refiles c k key) s)
  unfolding Paid apply
  paid-refiles c k key =
      let e : Entry = refiled key s (get_or (named c k s.entries) nobody) in
      omega (
        arith,
        still,
        sum_of-insert (left_of b n o s.clock) e (without c k s.entries),
        newer e (unfold refiled in refl),
        sum_of-without (left_of b n o s.clock) c k s.entries,
      )

  paid-frees : (c k : ℕ) → Paid (apply (frees c k) s)
  unfolding Paid apply
  paid-frees c k = omega (arith, still, sum_of-without (left_of b n o s.clock) c k s.entries)

  -- Those handed out have made all their moves, the others have made theirs up to the new clock.
  paid-hands : (t r : ℕ) → (h : Handed b n t r s) → Paid (apply (hands h.m h.c) s)
  unfolding Paid apply
  paid-hands t r h =
      let front : List Entry = take h.m s.entries in
      let back : List Entry = drop h.m s.entries in
      let parts : (f : Entry → ℕ) → sum_of f s.entries ≡ sum_of f front + sum_of f back =
      λ f. ap (sum_of f) (sym (take-append-drop h.m s.entries)) ∙ sum_of-append f front back in
      let within : All (Within b n s.clock) back = all_drop (Within b n s.clock) h.m s.entries timed.deadlines in
      omega (
        arith,
        parts (moves_of b n o s.clock h.c),
        parts (left_of b n o s.clock),
        sum_of-same (moves_of b n o s.clock h.c) (left_of b n o s.clock) front (all_map (each_all h.c) front h.early),
        sum_of-add (moves_of b n o s.clock h.c) (left_of b n o h.c) (left_of b n o s.clock) back
            (all_map (λ e w. each_part h.c e h.forward w.0 w.1.last) back
            (all_both (λ (e : Entry). h.c ≤ e.key) (Within b n s.clock) back h.late within)),
      )

  paid-accepted : (call : Call) → OfWheel call → Free (causes b n call s) → Paid (apply (accepted b n call s).change s)
  unfolding accepted filing refiling freeing apply hand_out
  paid-accepted (Put key load) w f = absurd w
  paid-accepted First w f = absurd w
  paid-accepted Take w f = absurd w
  paid-accepted (Rekey c k key) w f = absurd w
  paid-accepted (Remove c k) w f = absurd w
  paid-accepted (Arm e load) w f = paid-files e load
  paid-accepted (Move c k e) w f = paid-refiles c k e
  paid-accepted (Cancel c k) w f = paid-frees c k
  paid-accepted (Advance t r) w f =
      let h : Handed b n t r s = advance-hands b n s kept timed t r f in
      subst (λ (o : Outcome). Paid (apply o.change s)) (sym h.same ∙ outcome-free b n (Advance t r) s f) (paid-hands t r h)
  paid-accepted NextWake w f = paid-stays

  paid : (call : Call) → OfWheel call → Paid (result b n call s).next
  unfolding result outcome refused apply
  paid call w =
      given-either (λ (o : Outcome). Paid (apply o.change s)) refused (accepted b n call s) (causes b n call s)
      (λ i. paid-stays)
      (paid-accepted call w)

module _ (b n o : ℕ) (positive : 0 < b) where
  -- A timer that stands makes at most the moves that it has left.
  moves-left : (calls : List Call) (s : Plain) → All OfWheel calls → Kept s → Timed b n s → o < s.counter
      → moves_over b n o calls s ≤ sum_of (left_of b n o s.clock) s.entries
  unfolding moves_over Paid
  moves-left [] s w kept timed h = omega arith
  moves-left (call ∷ calls) s w kept timed h =
      omega (
        arith,
        paid b n o positive s kept timed h call w.0,
        moves-left calls (result b n call s).next w.1 (kept-call b n call s kept) (timed-call b n s kept timed call w.0)
            (omega (arith, counter-call b n call s)),
      )

  -- Of an order number that no entry holds nothing is moved.
  none_moves : (a c : ℕ) (s : Plain) → Kept s → s.counter ≤ o → sum_of (moves_of b n o a c) s.entries ≡ 0
  unfolding moves_of
  none_moves a c s kept h =
      let absent : times o (map (λ (e : Entry). e.order) s.entries) ≡ 0 =
      unused o (λ (e : Entry). e.order) s.entries (all_map (λ e w. omega (arith, w.taken)) s.entries kept.numbered) in
      omega
      (arith, rw absent at (sum_of-one (λ (e : Entry). moves b n a c e.key) (n - 1) o s.entries (λ e. moves-bound b n a c e.key)))

  -- Of an order number that one entry holds at most levels - 1 moves are left.
  one_left : (s : Plain) → Kept s → sum_of (left_of b n o s.clock) s.entries ≤ n - 1
  unfolding left_of
  one_left s kept =
      omega (
        arith,
        sum_of-one (λ (e : Entry). left b n s.clock e.key) (n - 1) o s.entries (λ e. left-bound b n s.clock e.key),
        mul-le-mul_left (n - 1) (kept.orders o),
      )

  -- "at most five for each timer since it was last armed or moved": over any calls of the wheel, from any list that a set-up and calls have left.
  pub timer-bound : (calls : List Call) (s : Plain) → All OfWheel calls → Kept s → Timed b n s → moves_over b n o calls s ≤ n - 1
  unfolding moves_over
  timer-bound [] s w kept timed = omega arith
  timer-bound (call ∷ calls) s w kept timed =
      let rest : moves_over b n o calls (result b n call s).next ≤ n - 1 =
      timer-bound calls (result b n call s).next w.1 (kept-call b n call s kept) (timed-call b n s kept timed call w.0) in
      at_most? s.counter o
      (λ h. omega (arith, none_moves s.clock (result b n call s).next.clock s kept h))
      (λ h. omega (arith, moves-left (call ∷ calls) s w kept timed h, one_left s kept))
