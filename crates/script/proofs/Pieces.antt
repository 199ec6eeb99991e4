-- Laws of the pieces between separators: the first one, and those that follow it.
-- Assumes nothing.
use Prim.Native.Nat.{ℕ, ◌+◌, ◌-◌, ◌≤◌, ◌<◌}
use native.Mathlib.Omega.{arith}
use mathlib.Core.List.{List, [], ◌∷◌}
use mathlib.Core.Path.{◌≡◌, refl, ap}
use lib.ListN.{length, take, drop, drop_of_length-le}
use Rattle.std.specs.Prelude.{Option, unwrap_or}
use Rattle.std.specs.Option.{MatchOption}
use Rattle.std.specs.List.{AllWithin, HoldsAt}
use Rattle.std.proofs.lemmas.Iterator.{index_from_first}
use borrow.Author.Tests.{eq-eqb, ne_eqb}
use Rattle.cells.proofs.Cases.{same?}
use Rattle.script.specs.Grammar.{up_to, in_front, pieces, after}

module _ (sep : ℕ) where
  -- A separator ends the first piece, any other byte belongs to it.
  pub up_to-stop : (b : ℕ) (s : List ℕ) → b ≡ sep → up_to sep (b ∷ s) ≡ []
  unfolding up_to
  up_to-stop b s e = rw (eq-eqb b sep e)

  pub up_to-past : (b : ℕ) (s : List ℕ) → (b ≡ sep → ⊥) → up_to sep (b ∷ s) ≡ b ∷ up_to sep s
  unfolding up_to
  up_to-past b s d = rw (ne_eqb b sep d)

  pub pieces-stop : (b : ℕ) (s : List ℕ) → b ≡ sep → pieces sep (b ∷ s) ≡ [] ∷ pieces sep s
  unfolding pieces
  pieces-stop b s e = rw (eq-eqb b sep e)

  pub pieces-past : (b : ℕ) (s : List ℕ) → (b ≡ sep → ⊥) → pieces sep (b ∷ s) ≡ in_front b (pieces sep s)
  unfolding pieces
  pieces-past b s d = rw (ne_eqb b sep d)

  -- The first piece lies within the bytes, at their front.
  pub up_to-length : (s : List ℕ) → length (up_to sep s) ≤ length s
  up_to-length [] = unfold up_to in omega arith
  up_to-length (b ∷ s) =
      same? b sep
      (λ e. rw (up_to-stop b s e) (omega arith))
      (λ d. rw (up_to-past b s d) (omega (arith, up_to-length s)))

  pub up_to-take : (s : List ℕ) → take (length (up_to sep s)) s ≡ up_to sep s
  up_to-take [] = unfold up_to in refl
  up_to-take (b ∷ s) =
      same? b sep
      (λ e. rw (up_to-stop b s e))
      (λ d. rw (up_to-past b s d) (ap (λ (t : List ℕ). b ∷ t) (up_to-take s)))

  -- The pieces are the first one, and those after the separator at which it ends.
  pub pieces-first : (s : List ℕ) → pieces sep s ≡ up_to sep s ∷ after sep (drop (length (up_to sep s)) s)
  unfolding after in_front
  pieces-first [] = unfold pieces up_to in refl
  pieces-first (b ∷ s) =
      same? b sep
      (λ e. rw (pieces-stop b s e, up_to-stop b s e))
      (λ d. rw (pieces-past b s d, up_to-past b s d, pieces-first s))

  -- The first separator, where `position` finds one, ends the first piece.
  pub up_to-first :
      (s : List ℕ) (r : Option ℕ)
      → MatchOption r (AllWithin (λ b. b ≡ sep → ⊥) s 0 (length s))
      (λ i. (i < length s) × HoldsAt (λ b. b ≡ sep) s i × AllWithin (λ b. b ≡ sep → ⊥) s 0 i)
      → length (up_to sep s) ≡ unwrap_or r (length s)
  up_to-first =
      index_from_first (λ t. length (up_to sep t)) (λ b. b ≡ sep) (λ b. b ≡ sep → ⊥) (unfold up_to in refl)
      (λ b s e. rw (up_to-stop b s e))
      (λ b s d. rw (up_to-past b s d) (omega arith))

  -- Behind the end there is none.
  pub up_to-behind : (s : List ℕ) (from : ℕ) → length s < from → from ≡ from + length (up_to sep (drop from s))
  up_to-behind s from h = rw (drop_of_length-le s {i = from} (omega arith)) (unfold up_to in omega arith)

-- The piece that starts at `start` is what stands from there to its end.
pub piece_cut :
    (sep : ℕ) (s : List ℕ) (start end : ℕ)
    → end ≡ start + length (up_to sep (drop start s))
    → take (end - start) (drop start s) ≡ up_to sep (drop start s)
piece_cut sep s start end e =
    let n : end - start ≡ length (up_to sep (drop start s)) = omega arith in
    rw n (up_to-take sep (drop start s))
