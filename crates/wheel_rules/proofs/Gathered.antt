-- All lists read one after the other: each is found again in what was read, and cells of equal deadline rise.
-- Assumes nothing.
use Prim.Native.Nat.{ℕ, zero, suc, ◌≤◌, ◌<◌}
use native.Mathlib.Omega.{arith}
use mathlib.Core.Bool.{Bool, true, false}
use mathlib.Core.List.{List, [], ◌∷◌, ◌++◌, map, append-nil}
use mathlib.Core.Logic.{◌≢◌}
use mathlib.Core.Path.{◌≡◌, refl, sym, ap, ◌∙◌}
use lib.Dec.{eqb}
use borrow.Author.Tests.{eq-eqb, ne_eqb}
use Rattle.cells.specs.Lists.{All, times, sum_below}
use Rattle.cells.specs.Words.{word}
use Rattle.cells.proofs.Cases.{same?}
use Rattle.cells.proofs.Lists.{all_map, all-image, all_append, times-append}
use Rattle.meaning.specs.Entries.{Entry}
use Rattle.meaning.proofs.Handles.{map-append}
use Rattle.meaning.proofs.Read.{entry_in}
use Rattle.meaning.proofs.Stack.{cell_of}
use Rattle.dial.specs.Joined.{Stable}
use Rattle.dial.specs.Turns.{list_of}
use Rattle.dial.specs.Shows.{passing, standing, cells_at}
use Rattle.dial.proofs.Passing.{passing-none}
use Rattle.dial.proofs.Selected.{passing-every, passing-append}
use Rattle.wheel_rules.specs.Rules.{Rises}
use Rattle.wheel_rules.proofs.Counting.{gathered}

-- A cell stands in lists gathered as often as in each of them, together.
pub times-gathered : (ls : ℕ → List ℕ) (c n : ℕ) → times c (gathered ls n) ≡ sum_below (λ (i : ℕ). times c (ls i)) n
unfolding gathered sum_below
times-gathered ls c zero = unfold times in refl
times-gathered ls c (suc n) = omega (arith, times-append c (gathered ls n) (ls n), times-gathered ls c n)

-- What holds of the cells of each list holds of all gathered.
pub all-gathered : (P : ℕ → Type 0) (ls : ℕ → List ℕ) (n : ℕ) → ((i : ℕ) → i < n → All P (ls i)) → All P (gathered ls n)
unfolding gathered
all-gathered P ls zero h = tt
all-gathered P ls (suc n) h = all_append P (gathered ls n) (ls n) (all-gathered P ls n (λ i k. h i (omega arith))) (h n (omega arith))

-- The entries of cells that rise are stable.
pub rises-stable : (w : List ℕ) (xs : List ℕ) → Rises w xs → Stable (map (entry_in w) xs)
unfolding entry_in
rises-stable w [] r = tt
rises-stable w (x ∷ xs) r =
    (all-image (λ (y : Entry). word w x 2 ≡ y.key → word w x 1 < y.order) (entry_in w) xs r.0, rises-stable w xs r.1)

-- The cells of the entries in cells are those cells.
pub cells-read : (w : List ℕ) (xs : List ℕ) → map cell_of (map (entry_in w) xs) ≡ xs
unfolding entry_in
cells-read w [] = refl
cells-read w (x ∷ xs) = ap (λ (ys : List ℕ). x ∷ ys) (cells-read w xs)

-- The lists are found again where each cell stands in the list of its number.
module _ (w : List ℕ) (t : ℕ) (ls : ℕ → List ℕ) where
  -- Of cells of no such deadline there are none,
  found_none : (i : ℕ) (xs : List ℕ) → All (λ (c : ℕ). list_of t (word w c 2) ≢ i) xs → cells_at t (map (entry_in w) xs) i ≡ []
  unfolding standing entry_in
  found_none i xs h =
      let here : Entry → Bool = λ e. eqb (list_of t e.key) i in
      ap (map cell_of)
      (passing-none here (map (entry_in w) xs)
      (all-image (λ (e : Entry). here e ≡ false) (entry_in w) xs (all_map (λ c n. ne_eqb (list_of t (word w c 2)) i n) xs h)))

  -- and of cells of such deadlines there are all.
  found-every : (i : ℕ) (xs : List ℕ) → All (λ (c : ℕ). list_of t (word w c 2) ≡ i) xs → cells_at t (map (entry_in w) xs) i ≡ xs
  unfolding standing entry_in
  found-every i xs h =
      let here : Entry → Bool = λ e. eqb (list_of t e.key) i in
      ap (map cell_of)
      (passing-every here (map (entry_in w) xs)
      (all-image (λ (e : Entry). here e ≡ true) (entry_in w) xs (all_map (λ c n. eq-eqb (list_of t (word w c 2)) i n) xs h)))
      ∙ cells-read w xs

  -- Those of one list behind another stand one behind the other.
  found-append : (i : ℕ) (xs ys : List ℕ) → cells_at t (map (entry_in w) (xs ++ ys)) i ≡ cells_at t (map (entry_in w) xs) i ++ cells_at t (map (entry_in w) ys) i
  unfolding standing
  found-append i xs ys =
      let here : Entry → Bool = λ e. eqb (list_of t e.key) i in
      rw (map-append (entry_in w) xs ys, passing-append here (map (entry_in w) xs) (map (entry_in w) ys))
      (map-append cell_of (passing here (map (entry_in w) xs)) (passing here (map (entry_in w) ys)))

  -- Each cell of the first n lists is of a deadline of its list.
  module _ (n : ℕ) (own : (i : ℕ) → i < n → All (λ (c : ℕ). list_of t (word w c 2) ≡ i) (ls i)) where
    -- So those gathered have numbers below n.
    gathered-below : (k : ℕ) → k ≤ n → All (λ (c : ℕ). list_of t (word w c 2) < k) (gathered ls k)
    gathered-below k h =
        all-gathered (λ (c : ℕ). list_of t (word w c 2) < k) ls k (λ i j. all_map (λ c e. omega arith) (ls i) (own i (omega arith)))

    -- Each list is found again.
    pub gathered-found : (k : ℕ) → k ≤ n → (i : ℕ) → i < k → cells_at t (map (entry_in w) (gathered ls k)) i ≡ ls i
    unfolding gathered
    gathered-found zero h i l = absurd (omega arith)
    gathered-found (suc k) h i l =
        found-append i (gathered ls k) (ls k)
        ∙ same? i k
        (λ e.
        rw (found_none i (gathered ls k) (all_map (λ c b q. omega arith) (gathered ls k) (gathered-below k (omega arith))))
        (rw e (found-every k (ls k) (own k (omega arith)))))
        (λ d.
        rw (gathered-found k (omega arith) i (omega arith))
        (rw (found_none i (ls k) (all_map (λ c e q. d (sym q ∙ e)) (ls k) (own k (omega arith)))) (append-nil (ls i))))
