-- The lists by number, from what the functions on one ring and on the slots answer.
-- Assumes nothing.
use Prim.Native.Nat.{ℕ, ◌+◌, ◌*◌, ◌<◌}
use native.Mathlib.Omega.{arith}
use mathlib.Core.List.{List}
use mathlib.Core.Path.{◌≡◌}
use borrow.Author.Tests.{eq-eqb, ne_eqb}
use Rattle.cells.proofs.Cases.{test}
use Rattle.places.specs.Ticks.{digit, level, place}
use Rattle.places.proofs.Levels.{level-below}
use Rattle.slots.specs.declared.ring.Ends.{Ends}
use Rattle.slots.specs.Rings.{
  Lists,
  has_slot,
  ends_of,
  with_ring,
  join_slot,
  leave_slot,
  empty_slot,
  with_due,
  join_due,
  leave_due,
  joined,
  left,
  lent,
}
use Rattle.slots.specs.Stand.{due_list, join_at, leave_at}
use Rattle.dial.specs.Turns.{list_of, list_number}
use Rattle.dial.specs.Lent.{lists_of}

-- The number of a list, by whether the deadline is the clock.
module _ (t e : ℕ) where
  pub due-number : e ≡ t → due_list ≡ list_of t e
  unfolding list_of list_number place
  due-number h = rw (eq-eqb e t h)

  -- Else by level and slot.
  module _ (p s : ℕ) (i : p ≡ level 64 6 t e) (j : s ≡ digit 64 p e) where
    pub slot-number : (e ≡ t → ⊥) → p * 64 + s ≡ list_of t e
    unfolding list_of list_number place
    slot-number h = rw (ne_eqb e t h, j, i)

  -- A level is one of six.
  pub level-small : (p : ℕ) → p ≡ level 64 6 t e → p < 6
  level-small p i = rw i (level-below 64 6 t e (omega arith))

-- A digit is below 64.
pub digit-small : (p e s : ℕ) → s ≡ digit 64 p e → s < 64
unfolding digit
digit-small p e s j = omega arith

-- What a function on the slots does, with the due list beside it.
module _ (w f l m : List ℕ) (d : Ends) (i : ℕ) where
  pub join-beside : (c : ℕ) {x : Lists} → x ≡ join_slot (lent w f l m) i c → lists_of x.words x.first x.last x.marks d ≡ join_slot (lists_of w f l m d) i c
  unfolding join_slot with_ring has_slot ends_of
  join-beside c h = rw h (test (has_slot (lent w f l m) i) (λ e. rw e) (λ e. rw e))

  pub leave-beside : (c : ℕ) {x : Lists} → x ≡ leave_slot (lent w f l m) i c → lists_of x.words x.first x.last x.marks d ≡ leave_slot (lists_of w f l m d) i c
  unfolding leave_slot with_ring has_slot ends_of
  leave-beside c h = rw h (test (has_slot (lent w f l m) i) (λ e. rw e) (λ e. rw e))

  pub empty-beside : {x : Lists} → x ≡ empty_slot (lent w f l m) i → lists_of x.words x.first x.last x.marks d ≡ empty_slot (lists_of w f l m d) i
  unfolding empty_slot with_ring has_slot
  empty-beside h = rw h (test (has_slot (lent w f l m) i) (λ e. rw e) (λ e. rw e))

-- A cell joins or leaves list i: the due list, or a slot.
module _ (w f l m : List ℕ) (d : Ends) (i c : ℕ) where
  pub join-due : {u : List ℕ} {h : Ends} → i ≡ due_list → u ≡ (joined w d c).words → h ≡ (joined w d c).ends
      → lists_of u f l m h ≡ join_at (lists_of w f l m d) i c
  unfolding join_at join_due with_due
  join-due e a b = rw (eq-eqb i due_list e, a, b)

  pub leave-due : {u : List ℕ} {h : Ends} → i ≡ due_list → u ≡ (left w d c).words → h ≡ (left w d c).ends
      → lists_of u f l m h ≡ leave_at (lists_of w f l m d) i c
  unfolding leave_at leave_due with_due
  leave-due e a b = rw (eq-eqb i due_list e, a, b)

  module _ (e : i ≡ due_list → ⊥) {x : Lists} where
    pub join_slot_lem : x ≡ join_slot (lent w f l m) i c → lists_of x.words x.first x.last x.marks d ≡ join_at (lists_of w f l m d) i c
    unfolding join_at
    join_slot_lem h = rw (ne_eqb i due_list e) (join-beside w f l m d i c h)

    pub leave-slot : x ≡ leave_slot (lent w f l m) i c → lists_of x.words x.first x.last x.marks d ≡ leave_at (lists_of w f l m d) i c
    unfolding leave_at
    leave-slot h = rw (ne_eqb i due_list e) (leave-beside w f l m d i c h)
