-- The entries that pass a test.
-- Assumes nothing.
use Prim.Native.Nat.{ℕ, ◌≤◌, ◌<◌}
use native.Mathlib.Omega.{arith}
use mathlib.Core.Bool.{Bool, true, false, cond, ◌&&◌}
use mathlib.Core.List.{List, [], ◌∷◌, map}
use mathlib.Core.Path.{◌≡◌, refl}
use lib.Dec.{eqb}
use lib.ListN.{length}
use borrow.Author.Tests.{eq-eqb}
use Rattle.cells.proofs.Cases.{clash, at_most?}
use Rattle.cells.specs.Lists.{All, times}
use Rattle.slots.specs.Stand.{has_cells}
use Rattle.meaning.specs.Entries.{Entry}
use Rattle.dial.specs.Shows.{passing}

-- A list without cells is one of no entries.
pub no-entries : (ws : List Entry) → has_cells (map (λ (e : Entry). e.cell) ws) ≡ false → ws ≡ []
unfolding has_cells
no-entries [] e = refl
no-entries (w ∷ ws) e = clash refl e

-- None passes a test that fails at each,
pub passing-none : (test : Entry → Bool) (es : List Entry) → All (λ (e : Entry). test e ≡ false) es → passing test es ≡ []
unfolding passing
passing-none test [] h = refl
passing-none test (e ∷ es) h = rw h.0 (passing-none test es h.1)

-- and a test that none passes fails at each.
pub passing-empty : (test : Entry → Bool) (es : List Entry) → passing test es ≡ [] → All (λ (e : Entry). test e ≡ false) es
unfolding passing
passing-empty test [] h = tt
passing-empty test (e ∷ es) h = go (test e) refl (passing-empty test es) h
  where
    go :
        (b : Bool)
        → test e ≡ b
        → (passing test es ≡ [] → All (λ (x : Entry). test x ≡ false) es)
        → cond b (e ∷ passing test es) (passing test es) ≡ []
        → (test e ≡ false) × All (λ (x : Entry). test x ≡ false) es
    go true q more k = absurd (let z : ◌≡◌ {A = ℕ} 0 1 = cc in omega arith)
    go false q more k = (q, more k)

-- The same pass two tests that agree at each.
pub passing-same : (s r : Entry → Bool) (es : List Entry) → All (λ (e : Entry). s e ≡ r e) es → passing s es ≡ passing r es
unfolding passing
passing-same s r [] h = refl
passing-same s r (e ∷ es) h = rw (h.0, passing-same s r es h.1)

-- Those of the ones that passed a test that pass another pass both.
pub passing-both : (r s : Entry → Bool) (es : List Entry) → passing s (passing r es) ≡ passing (λ (e : Entry). r e && s e) es
unfolding passing
passing-both r s [] = refl
passing-both r s (e ∷ es) = go (r e) (passing-both r s es)
  where
    rest : List Entry
    rest = passing (λ (x : Entry). r x && s x) es

    go : (b : Bool) → passing s (passing r es) ≡ rest → passing s (cond b (e ∷ passing r es) (passing r es)) ≡ cond (b && s e) (e ∷ rest) rest
    go true q = rw q
    go false q = q

module _ (test : Entry → Bool) where
  -- What holds of each entry holds of each that passes.
  pub passing-all : (P : Entry → Type 0) (es : List Entry) → All P es → All P (passing test es)
  unfolding passing
  passing-all P [] h = tt
  passing-all P (e ∷ es) h = go (test e) (passing-all P es h.1)
    where
      go : (b : Bool) → All P (passing test es) → All P (cond b (e ∷ passing test es) (passing test es))
      go true more = (h.0, more)
      go false more = more

  -- The test holds of those that pass it.
  pub passing-true : (es : List Entry) → All (λ (e : Entry). test e ≡ true) (passing test es)
  unfolding passing
  passing-true [] = tt
  passing-true (e ∷ es) = go (test e) refl (passing-true es)
    where
      go :
          (b : Bool)
          → test e ≡ b
          → All (λ (x : Entry). test x ≡ true) (passing test es)
          → All (λ (x : Entry). test x ≡ true) (cond b (e ∷ passing test es) (passing test es))
      go true q more = (q, more)
      go false q more = more

  -- They are no more than there are entries,
  pub passing-length : (es : List Entry) → length (passing test es) ≤ length es
  unfolding passing
  passing-length [] = omega arith
  passing-length (e ∷ es) = go (test e) (passing-length es)
    where
      go : (b : Bool) → length (passing test es) ≤ length es → length (cond b (e ∷ passing test es) (passing test es)) ≤ length (e ∷ es)
      go true more = omega arith
      go false more = omega arith

  -- and no number is read off them more often.
  pub passing-times : (f : Entry → ℕ) (k : ℕ) (es : List Entry) → times k (map f (passing test es)) ≤ times k (map f es)
  unfolding passing times
  passing-times f k [] = omega arith
  passing-times f k (e ∷ es) = go (test e) (passing-times f k es)
    where
      go :
          (b : Bool)
          → times k (map f (passing test es)) ≤ times k (map f es)
          → times k (map f (cond b (e ∷ passing test es) (passing test es))) ≤ times k (map f (e ∷ es))
      go true more = omega arith
      go false more = omega arith

-- Numbers of entries that are none of those below i are at least i.
pub none_below :
    (f : Entry → ℕ) (i : ℕ) (es : List Entry)
    → ((j : ℕ) → j < i → All (λ (e : Entry). eqb (f e) j ≡ false) es)
    → All (λ (e : Entry). i ≤ f e) es
none_below f i [] h = tt
none_below f i (e ∷ es) h = (
  at_most? i (f e) (λ k. k) (λ k. clash (eq-eqb (f e) (f e) refl) (h (f e) k).0),
  none_below f i es (λ j k. (h j k).1),
)
