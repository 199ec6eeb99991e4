-- The parents in turn: each position is held against its own parent.
-- Assumes nothing.
use Prim.Native.Nat.{ℕ, zero, suc, ◌+◌, ◌*◌, ◌-◌, ◌≤◌}
use native.Mathlib.Nat.{mul-add}
use native.Mathlib.Omega.{arith}
use mathlib.Core.Bool.{Bool, false, not, ◌&&◌}
use mathlib.Core.List.{List}
use mathlib.Core.Path.{◌≡◌, refl, sym, ap, ◌∙◌}
use lib.Dec.{ltb, eqb}
use borrow.Author.Tests.{le-ltb, eq-eqb, ne_eqb}
use Rattle.cells.specs.Words.{word}
use Rattle.cells.specs.Stack.{is_free}
use Rattle.cells.proofs.Cases.{and-false}
use Rattle.meaning.specs.Heap.{parent}
use Rattle.heap.specs.Seats.{ranked, seat_at}
use Rattle.heap.proofs.Positions.{parent_of}
use Rattle.queue.specs.AuditTests.{family_of, behind_test, seat_test, held_test}
use Rattle.queue.specs.declared.audit.Family.{Family}

-- The family f before position p: with the children that are left it is as many positions as the parents so far and the root's family have.
pub record Turn (w : List ℕ) (d p : ℕ) (f : Family) : Type 0 where
  pub place : p + f.left ≡ d * f.next + 1
  pub few : f.left ≤ d
  pub early : f.next ≤ p
  pub root : f.next ≡ 0 → (f.key ≡ 0) × (f.order ≡ 0)
  pub parents : (q : ℕ) → f.next ≡ q + 1 → (f.key ≡ (seat_at w q).key) × (f.order ≡ (seat_at w q).order)

-- The family that position p is of.
pub record Own (w : List ℕ) (d p : ℕ) (f : Family) : Type 0 where
  pub some : 1 ≤ f.left
  pub place : p + f.left ≡ d * f.next + 1
  pub few : f.left ≤ d
  pub early : f.next ≤ p + 1
  pub root : f.next ≡ 0 → (f.key ≡ 0) × (f.order ≡ 0)
  pub parents : (q : ℕ) → f.next ≡ q + 1 → (f.key ≡ (seat_at w q).key) × (f.order ≡ (seat_at w q).order)

module _ (w : List ℕ) (d : ℕ) (wide : 1 ≤ d) where
  pub turn-root : Turn w d 0 (record { next = 0; left = 1; key = 0; order = 0 })
  turn-root =
      record { place = omega arith; few = wide; early = omega arith; root = λ e. (refl, refl); parents = λ q e. absurd (omega arith) }

  pub turn-own : (p : ℕ) (f g : Family) → g ≡ family_of w d f → Turn w d p f → Own w d p g
  unfolding family_of
  turn-own p f g e t = go f.left refl
    where
      go : (k : ℕ) → f.left ≡ k → Own w d p g
      go zero z =
          let next : g ≡ record { next = f.next + 1; left = d; key = (seat_at w f.next).key; order = (seat_at w f.next).order } =
          e ∙ rw (eq-eqb f.left 0 z) in
          rw next
          (record {
            some = wide;
            place = omega (arith, t.place, z, mul-add d f.next 1);
            few = omega arith;
            early = omega (arith, t.early);
            root = λ h. absurd (omega arith);
            parents =
                λ q h.
                let same : f.next ≡ q = omega arith in
                (ap (λ (x : ℕ). (seat_at w x).key) same, ap (λ (x : ℕ). (seat_at w x).order) same);
          })
      go (suc k) z =
          let stays : g ≡ f = e ∙ rw (ne_eqb f.left 0 (λ h. omega (arith, h, z))) in
          rw stays
          (record {
            some = omega (arith, z);
            place = t.place;
            few = t.few;
            early = omega (arith, t.early);
            root = t.root;
            parents = t.parents;
          })

  pub own_turn : (p : ℕ) (f g : Family) → g.next ≡ f.next → g.left ≡ f.left - 1 → g.key ≡ f.key → g.order ≡ f.order → Own w d p f
      → Turn w d (p + 1) g
  own_turn p f g a b c e t =
      record {
        place = rw a (omega (arith, t.place, t.some, b));
        few = omega (arith, t.few, b);
        early = omega (arith, t.early, a);
        root = λ h. let at = t.root (sym a ∙ h) in (c ∙ at.0, e ∙ at.1);
        parents = λ q h. let at = t.parents q (sym a ∙ h) in (c ∙ at.0, e ∙ at.1);
      }

  -- Nothing is before key 0 and order number 0.
  ranked-none : (x y : ℕ) → ranked x y 0 0 ≡ false
  unfolding ranked
  ranked-none x y = rw (le-ltb x 0 (omega arith), le-ltb y 0 (omega arith)) (and-false (eqb x 0))

  -- Held against its own family, a position is held against its parent.
  own_behind : (p : ℕ) (f : Family) → Own w d p f
      → not (ranked (word w (word w p 6) 2) (word w (word w p 6) 1) f.key f.order) ≡ behind_test w d p
  unfolding behind_test seat_at
  own_behind p f t = go f.next refl
    where
      go : (k : ℕ) → f.next ≡ k → not (ranked (word w (word w p 6) 2) (word w (word w p 6) 1) f.key f.order) ≡ behind_test w d p
      go zero z =
          let at = t.root z in
          let first : p ≡ 0 = omega (arith, t.place, t.some, ap (λ (x : ℕ). d * x) z) in
          rw (at.0, at.1, ranked-none (word w (word w p 6) 2) (word w (word w p 6) 1), eq-eqb p 0 first)
      go (suc k) z =
          let at = t.parents k (omega (arith, z)) in
          let times : d * f.next ≡ d * k + d = ap (λ (x : ℕ). d * x) z ∙ omega (arith, mul-add d k 1) in
          let own : parent d p ≡ k =
          parent_of d wide k p (omega (arith, t.place, t.few, times)) (omega (arith, t.place, t.some, times)) in
          let other : p ≡ 0 → ⊥ = λ h. omega (arith, t.place, t.few, times) in
          rw (at.0, at.1, ne_eqb p 0 other, own)

  pub own-seat : (n p : ℕ) (f : Family) → Own w d p f → held_test w n p f.key f.order ≡ seat_test w d n p
  unfolding held_test seat_test
  own-seat n p f t =
      ap (λ (b : Bool). ltb (word w p 6) n && (not (is_free w (word w p 6)) && (eqb (word w (word w p 6) 5) p && b))) (own_behind p f t)
