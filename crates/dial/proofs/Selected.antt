-- The entries that pass a test, of lists in which all pass or which stand one behind the other.
-- Assumes nothing.
use Prim.Native.Nat.{ℕ, zero, suc, ◌≤◌, ◌<◌}
use native.Mathlib.Omega.{arith}
use mathlib.Core.Bool.{Bool, true, false, cond}
use mathlib.Core.List.{List, [], ◌∷◌, ◌++◌, map}
use mathlib.Core.Path.{◌≡◌, refl, ap}
use lib.ListN.{length}
use Rattle.cells.proofs.Lists.{times-here}
use Rattle.cells.specs.Lists.{All, times}
use Rattle.meaning.specs.Entries.{Entry}
use Rattle.meaning.specs.Heap.{at}
use Rattle.dial.specs.Joined.{Stable}
use Rattle.dial.specs.Shows.{passing}
use Rattle.dial.proofs.Passing.{passing-all}

module _ (test : Entry → Bool) where
  -- All pass where each does.
  pub passing-every : (es : List Entry) → All (λ (e : Entry). test e ≡ true) es → passing test es ≡ es
  unfolding passing
  passing-every [] h = refl
  passing-every (e ∷ es) h = rw h.0 (ap (λ (xs : List Entry). e ∷ xs) (passing-every es h.1))

  -- Of two lists, one behind the other, those that pass stand one behind the other.
  pub passing-append : (xs ys : List Entry) → passing test (xs ++ ys) ≡ passing test xs ++ passing test ys
  unfolding passing
  passing-append [] ys = refl
  passing-append (x ∷ xs) ys = go (test x) (passing-append xs ys)
    where
      go :
          (b : Bool)
          → passing test (xs ++ ys) ≡ passing test xs ++ passing test ys
          → cond b (x ∷ passing test (xs ++ ys)) (passing test (xs ++ ys)) ≡ cond b (x ∷ passing test xs) (passing test xs) ++ passing test ys
      go true more = ap (λ (zs : List Entry). x ∷ zs) more
      go false more = more

  -- A number of an entry that passes is read off those that pass.
  pub passing-stands : (f : Entry → ℕ) (es : List Entry) (p : ℕ) → p < length es → test (at es p) ≡ true
      → 1 ≤ times (f (at es p)) (map f (passing test es))
  unfolding passing at
  passing-stands f [] p l t = absurd (omega arith)
  passing-stands f (e ∷ es) zero l t = rw t (omega (arith, times-here (f e) (f e) (map f (passing test es)) refl))
  passing-stands f (e ∷ es) (suc p) l t = go (test e) (passing-stands f es p (omega arith) t)
    where
      go :
          (b : Bool)
          → 1 ≤ times (f (at es p)) (map f (passing test es))
          → 1 ≤ times (f (at es p)) (map f (cond b (e ∷ passing test es) (passing test es)))
      go true more = unfold times in omega arith
      go false more = more

  -- Entries of equal deadline that pass stand by rising order number, if all do.
  pub passing-stable : (es : List Entry) → Stable es → Stable (passing test es)
  unfolding passing
  passing-stable [] h = tt
  passing-stable (e ∷ es) h = go (test e) (passing-stable es h.1)
    where
      go : (b : Bool) → Stable (passing test es) → Stable (cond b (e ∷ passing test es) (passing test es))
      go true more = (passing-all test (λ (y : Entry). e.key ≡ y.key → e.order < y.order) es h.0, more)
      go false more = more
