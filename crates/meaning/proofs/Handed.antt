-- Every accepted advance hands out the front of the list.
-- Assumes nothing.
use Prim.Native.Nat.{ℕ, ◌+◌, ◌≤◌, ◌<◌}
use native.Mathlib.Omega.{arith}
use mathlib.Core.Bool.{true, false}
use mathlib.Core.Path.{◌≡◌, refl, ◌∙◌}
use lib.ListN.{length, take, drop, length-drop}
use lib.Seq.{take-add, drop-drop}
use borrow.Author.Tests.{le-leb, lt-leb, le-ltb, ltb-false}
use Rattle.cells.specs.Lists.{All}
use Rattle.cells.proofs.Cases.{at_most?, clash}
use Rattle.cells.proofs.Lists.{all_map, all_drop}
use Rattle.places.specs.Ticks.{last_tick}
use Rattle.meaning.specs.Entries.{Entry, Ordered, earliest}
use Rattle.meaning.specs.Plain.{Plain, hands, apply}
use Rattle.meaning.specs.Refusals.{beyond, behind, Free}
use Rattle.meaning.specs.Calls.{Call, Advance, is_refused, refused, accepted, outcome, causes, advanced, hand_out, due_by}
use Rattle.meaning.proofs.Due.{due-length, due-front, due-back, due-next, front-earliest, all-earliest, earliest-all}
use Rattle.meaning.proofs.Orders.{ordered-drop}
use Rattle.meaning.proofs.Stack.{onto-append}
use Rattle.meaning.proofs.Given.{given-free, free-given}
use Rattle.meaning.specs.Handed.{Handed}

-- Two hand-outs are one.
pub hands-twice : (m c k u : ℕ) (s : Plain) → apply (hands k u) (apply (hands m c) s) ≡ apply (hands (m + k) u) s
unfolding apply
hands-twice m c k u s = rw (drop-drop k m s.entries, take-add m k s.entries, onto-append (take m s.entries) (take k (drop m s.entries)) s.free)

-- A call that is not refused has no cause against it, and does what an accepted call does.
pub accepted-free : (b n : ℕ) (call : Call) (s : Plain) → is_refused (outcome b n call s).answer ≡ false → Free (causes b n call s)
unfolding outcome refused is_refused
accepted-free b n call s e =
    free-given (λ o. is_refused o.answer) refused (accepted b n call s) (λ i. refl) (causes b n call s) e

pub outcome-free : (b n : ℕ) (call : Call) (s : Plain) → Free (causes b n call s) → outcome b n call s ≡ accepted b n call s
unfolding outcome
outcome-free b n call s f = given-free refused (accepted b n call s) (causes b n call s) f

-- An advance with room for all that is due hands that out and is done at its target,
pub advanced-roomy : (b n t r : ℕ) (s : Plain) → due_by t s.entries ≤ r → advanced b n t r s ≡ hand_out b n true (due_by t s.entries) t s
unfolding advanced
advanced-roomy b n t r s h = rw (le-leb (due_by t s.entries) r h)

-- and one with less room hands out what it can.
pub advanced-short : (b n t r : ℕ) (s : Plain) → r < due_by t s.entries → advanced b n t r s ≡ hand_out b n false r (earliest (drop r s.entries)).key s
unfolding advanced
advanced-short b n t r s h = rw (lt-leb (due_by t s.entries) r h)

-- That is the call's outcome, where no cause refuses it.
pub advance-done : (b n t r : ℕ) (s : Plain) → Free (causes b n (Advance t r) s) → due_by t s.entries ≤ r
    → outcome b n (Advance t r) s ≡ hand_out b n true (due_by t s.entries) t s
unfolding accepted
advance-done b n t r s f h = outcome-free b n (Advance t r) s f ∙ advanced-roomy b n t r s h

pub advance-more : (b n t r : ℕ) (s : Plain) → Free (causes b n (Advance t r) s) → r < due_by t s.entries
    → outcome b n (Advance t r) s ≡ hand_out b n false r (earliest (drop r s.entries)).key s
unfolding accepted
advance-more b n t r s f h = outcome-free b n (Advance t r) s f ∙ advanced-short b n t r s h

-- An advance is accepted from the clock to the last tick.
pub advance-free : (b n t r : ℕ) (s : Plain) → s.clock ≤ t → t ≤ last_tick b n → Free (causes b n (Advance t r) s)
unfolding causes beyond behind
advance-free b n t r s h l = (le-ltb (last_tick b n) t l, (le-ltb t s.clock h, tt))

module _
    (b n t r : ℕ)
    (s : Plain)
    (o : Ordered s.entries)
    (a : All (λ (e : Entry). s.clock ≤ e.key) s.entries)
    (f : Free (causes b n (Advance t r) s))
  where
    -- Room for all: *done* at the target.
    roomy : due_by t s.entries ≤ r → Handed b n t r s
    unfolding causes behind
    roomy h =
        record {
          m = due_by t s.entries;
          c = t;
          done = true;
          same = advance-done b n t r s f h;
          fits = due-length t s.entries;
          early = due-front t (due_by t s.entries) s.entries (omega arith);
          late = all_map (λ e l. omega arith) (drop (due_by t s.entries) s.entries) (due-back t s.entries o);
          forward = ltb-false t s.clock f.1.0;
          up_to = omega arith;
          finished = λ e. (refl, refl);
        }

    -- Too little room: *more* at the next entry's deadline.
    short : r < due_by t s.entries → Handed b n t r s
    short h =
        let some : r < length s.entries = omega (arith, due-length t s.entries) in
        record {
          m = r;
          c = (earliest (drop r s.entries)).key;
          done = false;
          same = advance-more b n t r s f h;
          fits = omega arith;
          early = front-earliest r s.entries some o;
          late = all-earliest (drop r s.entries) (ordered-drop r s.entries o);
          forward =
              earliest-all (λ (e : Entry). s.clock ≤ e.key) (drop r s.entries) (omega (arith, length-drop r s.entries))
              (all_drop (λ (e : Entry). s.clock ≤ e.key) r s.entries a);
          up_to = due-next t r s.entries h;
          finished = λ e. clash e refl;
        }

    pub handed : Handed b n t r s
    handed = at_most? (due_by t s.entries) r roomy short
