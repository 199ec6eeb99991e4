-- The wheel's own rules hold from a set-up on: no deadline is ever below the clock, and nothing is above the last tick.
-- Assumes nothing.
use Prim.Native.Nat.{ℕ, ◌≤◌}
use native.Mathlib.Omega.{arith}
use mathlib.Core.List.{List, [], ◌∷◌}
use mathlib.Core.Path.{sym, subst, ◌∙◌}
use mathlib.Core.Option.{get_or}
use lib.ListN.{drop}
use borrow.Author.Tests.{leb-false, ltb-false}
use Rattle.cells.specs.Lists.{All}
use Rattle.cells.proofs.Lists.{all_map, all_drop, all_both}
use Rattle.places.specs.Ticks.{last_tick}
use Rattle.meaning.specs.Entries.{Entry, named, without, nobody}
use Rattle.meaning.specs.Plain.{Plain, fresh, filed, refiled, hands, apply}
use Rattle.meaning.specs.Refusals.{beyond, not_after, Free}
use Rattle.meaning.specs.Calls.{
  Call,
  Put,
  First,
  Take,
  Rekey,
  Remove,
  Arm,
  Move,
  Cancel,
  Advance,
  NextWake,
  OfWheel,
  Outcome,
  causes,
  hand_out,
  filing,
  refiling,
  freeing,
  accepted,
  refused,
  outcome,
  result,
}
use Rattle.meaning.specs.Runs.{after}
use Rattle.meaning.proofs.Orders.{all_insert}
use Rattle.meaning.proofs.Handles.{all_without}
use Rattle.meaning.proofs.Given.{given-either}
use Rattle.meaning.specs.Kept.{Kept, Within, Timed}
use Rattle.meaning.specs.Handed.{Handed}
use Rattle.meaning.proofs.Handed.{outcome-free, handed}
use Rattle.meaning.proofs.Reached.{kept-call}

pub timed-fresh : (b n cells t : ℕ) → t ≤ last_tick b n → Timed b n (fresh cells t)
unfolding fresh
timed-fresh b n cells t h = record { clock = h; deadlines = tt }

module _ (b n : ℕ) (s : Plain) (kept : Kept s) (timed : Timed b n s) where
  -- The first entries handed out at a clock between them and the others leave deadlines at or above it.
  timed-hands : (t r : ℕ) → (h : Handed b n t r s) → t ≤ last_tick b n → Timed b n (apply (hands h.m h.c) s)
  unfolding apply
  timed-hands t r h l =
      record {
        clock = omega (arith, h.up_to);
        deadlines =
            all_map (λ e w. record { late = w.0; last = w.1.last }) (drop h.m s.entries)
            (all_both (λ (e : Entry). h.c ≤ e.key) (Within b n s.clock) (drop h.m s.entries) h.late
            (all_drop (Within b n s.clock) h.m s.entries timed.deadlines));
      }

  -- What an advance does is a hand-out.
  pub advance-hands : (t r : ℕ) → Free (causes b n (Advance t r) s) → Handed b n t r s
  advance-hands t r f = handed b n t r s kept.ordered (all_map (λ e w. w.late) s.entries timed.deadlines) f

  timed-accepted : (call : Call) → OfWheel call → Free (causes b n call s) → Timed b n (apply (accepted b n call s).change s)
  unfolding accepted filing refiling freeing causes beyond not_after apply filed refiled hand_out
  timed-accepted (Put key load) w f = absurd w
  timed-accepted First w f = absurd w
  timed-accepted Take w f = absurd w
  timed-accepted (Rekey c k key) w f = absurd w
  timed-accepted (Remove c k) w f = absurd w
  timed-accepted (Arm e load) w f =
      record {
        clock = timed.clock;
        deadlines =
            all_insert (Within b n s.clock) (filed e load s) s.entries
            (record { late = omega (arith, leb-false e s.clock f.1.0); last = ltb-false (last_tick b n) e f.0 })
            timed.deadlines;
      }
  timed-accepted (Move c k e) w f =
      record {
        clock = timed.clock;
        deadlines =
            all_insert (Within b n s.clock) (refiled e s (get_or (named c k s.entries) nobody)) (without c k s.entries)
            (record { late = omega (arith, leb-false e s.clock f.1.1.0); last = ltb-false (last_tick b n) e f.1.0 })
            (all_without c k (Within b n s.clock) s.entries timed.deadlines);
      }
  timed-accepted (Cancel c k) w f =
      record { clock = timed.clock; deadlines = all_without c k (Within b n s.clock) s.entries timed.deadlines }
  timed-accepted (Advance t r) w f =
      let h : Handed b n t r s = advance-hands t r f in
      subst (λ (o : Outcome). Timed b n (apply o.change s)) (sym h.same ∙ outcome-free b n (Advance t r) s f)
      (timed-hands t r h (ltb-false (last_tick b n) t f.0))
  timed-accepted NextWake w f = timed

  pub timed-call : (call : Call) → OfWheel call → Timed b n (result b n call s).next
  unfolding result outcome refused apply
  timed-call call w =
      given-either (λ (o : Outcome). Timed b n (apply o.change s)) refused (accepted b n call s) (causes b n call s)
      (λ i. timed)
      (timed-accepted call w)

pub timed-run : (b n : ℕ) (calls : List Call) (s : Plain) → All OfWheel calls → Kept s → Timed b n s → Timed b n (after b n calls s)
unfolding after
timed-run b n [] s w kept timed = timed
timed-run b n (call ∷ calls) s w kept timed =
    timed-run b n calls (result b n call s).next w.1 (kept-call b n call s kept) (timed-call b n s kept timed call w.0)
