-- As far as there is room, what is due is handed out, one entry after the other.
-- Assumes nothing.
use Prim.Native.Nat.{ℕ, zero, suc, ◌+◌, min}
use native.Mathlib.Omega.{arith}
use mathlib.Core.Bool.{Bool, true, false, cond}
use mathlib.Core.List.{List}
use mathlib.Core.Path.{◌≡◌, refl, sym, ap, subst, ◌∙◌}
use lib.Dec.{eqb}
use lib.ListN.{take, drop}
use borrow.Author.Tests.{eq-eqb, ne_eqb, eqb-true, eqb-false}
use Rattle.cells.specs.Stack.{no_cell}
use Rattle.cells.proofs.Cases.{same?}
use Rattle.meaning.specs.Arranged.{arranged}
use Rattle.meaning.specs.Calls.{due_by}
use Rattle.meaning.specs.Entries.{Entry}
use Rattle.meaning.specs.Plain.{Plain, onto, hands}
use Rattle.dial.specs.Joined.{listed, remaining, joins}
use Rattle.dial.specs.Turns.{State, fire, hand_out}
use Rattle.dial.specs.Shows.{Shows}
use Rattle.dial.specs.Records.{with_records}
use Rattle.dial.proofs.Listed.{arranged-hands, joins-hands}
use Rattle.dial.proofs.StableKept.{valid-hands}
use Rattle.dial.proofs.Advances.{due_now}
use Rattle.dial.proofs.FiredShown.{soonest, none-due, due-whole, due-suc, fire-shows, fire-out}
use Rattle.dial.proofs.Recording.{records-none, records-more}

-- From z to y the first j entries were handed out.
pub record HandedOut (z y : State) (m : Plain) (j : ℕ) : Type 0 where
  pub shows : Shows y.lists y.clock y.store (joins (hands j m.clock) m)
  pub fired : y.fired ≡ z.fired + j
  pub moves : y.moves ≡ z.moves
  pub out : y.out ≡ with_records z.out z.fired (take j (arranged m.entries))
  -- Nothing is due any more exactly if they were all that was due.
  pub rest : eqb y.lists.due.first no_cell ≡ eqb j (due_now (listed m))

-- One more on both sides is as equal as before.
suc-same : (i j : ℕ) → eqb i j ≡ eqb (suc i) (suc j)
suc-same i j =
    same? i j
    (λ e. eq-eqb i j e ∙ sym (eq-eqb (suc i) (suc j) (ap suc e)))
    (λ d. ne_eqb i j d ∙ sym (ne_eqb (suc i) (suc j) (λ e. d (omega arith))))

-- The due list is empty exactly if nothing is due.
pub due-empty : (z : State) (m : Plain) → Shows z.lists z.clock z.store m → eqb z.lists.due.first no_cell ≡ eqb 0 (due_now (listed m))
unfolding listed
due-empty z m s =
    same? z.lists.due.first no_cell
    (λ e. eq-eqb z.lists.due.first no_cell e ∙ sym (eq-eqb 0 (due_now (listed m)) (sym (none-due z m s e))))
    (λ d. ne_eqb z.lists.due.first no_cell d ∙ sym (ne_eqb 0 (due_now (listed m)) (λ e. omega (arith, due-suc z m s d))))

-- Nothing is handed out.
none_out : (z : State) (m : Plain) → Shows z.lists z.clock z.store m → HandedOut z z m 0
unfolding joins remaining onto
none_out z m s =
    record {
      shows = s;
      fired = omega arith;
      moves = refl;
      out = sym (records-none z.out z.fired);
      rest = due-empty z m s;
    }

module _ (z : State) (m : Plain) (s : Shows z.lists z.clock z.store m) (d : z.lists.due.first ≡ no_cell → ⊥) where
  -- The model without the first entry,
  after : Plain
  after = joins (hands 1 m.clock) m

  -- which is shown once that is handed out.
  after-shows : Shows (fire z).lists (fire z).clock (fire z).store after
  unfolding after
  after-shows = fire-shows z m s d (valid-hands m 1 s.valid)

  -- Its plain list is the rest.
  after-arranged : arranged after.entries ≡ drop 1 (arranged m.entries)
  unfolding after joins
  after-arranged = arranged-hands m s.valid.kept 1

  -- One fewer is due.
  after-due : due_now (listed m) ≡ suc (due_now (listed after))
  unfolding after joins listed
  after-due = due-suc z m s d ∙ ap (λ (es : List Entry). suc (due_by m.clock es)) (sym after-arranged)

  -- The first and then j others handed out are one more than j.
  hands-again : (j : ℕ) → joins (hands j after.clock) after ≡ joins (hands (suc j) m.clock) m
  unfolding after joins
  hands-again j =
      let more : 1 + j ≡ suc j = omega arith in
      joins-hands m s.valid.kept 1 m.clock j m.clock
      ∙ ap (λ (k : ℕ). joins (hands k m.clock) m) more

  -- Their records stand one behind the other.
  records-again :
      (j : ℕ)
      → with_records (fire z).out (suc z.fired) (take j (arranged after.entries))
      ≡ with_records z.out z.fired (take (suc j) (arranged m.entries))
  records-again j =
      ap (λ (es : List Entry). with_records (fire z).out (suc z.fired) (take j es)) after-arranged
      ∙ ap (λ (o : List ℕ). with_records o (suc z.fired) (take j (drop 1 (arranged m.entries)))) (fire-out z m s d)
      ∙ records-more z.out z.fired (soonest m) (take j (drop 1 (arranged m.entries)))
      ∙ ap (λ (es : List Entry). with_records z.out z.fired (take (suc j) es)) (sym (due-whole z m s d))

  -- So j more handed out after the first are suc j.
  one_more : (y : State) (j : ℕ) → HandedOut (fire z) y after j → HandedOut z y m (suc j)
  unfolding fire
  one_more y j h =
      record {
        shows = subst (λ (x : Plain). Shows y.lists y.clock y.store x) (hands-again j) h.shows;
        fired = omega (arith, h.fired);
        moves = h.moves;
        out = h.out ∙ records-again j;
        rest = h.rest ∙ suc-same j (due_now (listed after)) ∙ ap (eqb (suc j)) (sym after-due);
      }

-- What is due is handed out in the plain list's order, up to k entries.
pub hand-out-shows :
    (k : ℕ) (z : State) (m : Plain)
    → Shows z.lists z.clock z.store m
    → HandedOut z (hand_out k z) m (min k (due_now (listed m)))
unfolding hand_out listed
hand-out-shows zero z m s =
    let least : 0 ≡ min 0 (due_now (listed m)) = omega arith in subst (HandedOut z z m) least (none_out z m s)
hand-out-shows (suc k) z m s = go (eqb z.lists.due.first no_cell) refl (λ n. hand-out-shows k (fire z) n)
  where
    go : (t : Bool) → eqb z.lists.due.first no_cell ≡ t
        → ((n : Plain) → Shows (fire z).lists (fire z).clock (fire z).store n → HandedOut (fire z) (hand_out k (fire z)) n (min k (due_now (listed n))))
        → HandedOut z (cond t z (hand_out k (fire z))) m (min (suc k) (due_now (listed m)))
    go true e further =
        let none : due_now (listed m) ≡ 0 = none-due z m s (eqb-true _ _ e) in
        let least : 0 ≡ min (suc k) (due_now (listed m)) = omega arith in
        subst (HandedOut z z m) least (none_out z m s)
    go false e further =
        let d : z.lists.due.first ≡ no_cell → ⊥ = eqb-false _ _ e in
        let more : suc (min k (due_now (listed (after z m s d)))) ≡ min (suc k) (due_now (listed m)) = omega (arith, after-due z m s d) in
        subst (HandedOut z (hand_out k (fire z)) m) more
        (one_more z m s d (hand_out k (fire z)) (min k (due_now (listed (after z m s d))))
        (further (after z m s d) (after-shows z m s d)))
