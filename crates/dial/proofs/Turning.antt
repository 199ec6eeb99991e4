-- The lists at a wake tick, given those at the clock before: the first list with entries is empty, its entries stand in lists that were empty, and every other list is as it was.
-- Assumes nothing.
use Prim.Native.Nat.{ℕ, ◌≤◌, ◌<◌}
use native.Mathlib.Omega.{arith}
use mathlib.Core.Bool.{false, ◌&&◌}
use mathlib.Core.List.{List, [], ◌++◌, append-nil}
use mathlib.Core.Logic.{◌≢◌}
use mathlib.Core.Path.{◌≡◌, sym, ap, ◌∙◌}
use lib.Dec.{eqb}
use borrow.Author.Tests.{eq-eqb, ne_eqb}
use Rattle.cells.proofs.Cases.{same?, at_most?, and-false}
use Rattle.cells.proofs.Lists.{all_map, all-every}
use Rattle.cells.specs.Lists.{All}
use Rattle.slots.specs.Stand.{due_list, put_list}
use Rattle.slots.proofs.Changing.{put-here, put_other}
use Rattle.meaning.specs.Entries.{Entry}
use Rattle.dial.specs.Turns.{list_of}
use Rattle.dial.specs.Shows.{passing, standing, cells_at}
use Rattle.dial.proofs.Numbers.{Turned, lowers, falls, waits, due-test, number-stays}
use Rattle.dial.proofs.Passing.{passing-none, passing-same, passing-both}

-- In the due list stand the entries whose deadline is the clock.
pub standing-due : (t : ℕ) (es : List Entry) → standing t due_list es ≡ passing (λ (e : Entry). eqb e.key t) es
unfolding standing
standing-due t es =
    passing-same (λ (e : Entry). eqb (list_of t e.key) due_list) (λ (e : Entry). eqb e.key t) es
    (all-every (λ (e : Entry). eqb (list_of t e.key) due_list ≡ eqb e.key t) (λ e. due-test t e.key) es)

module _ (a t i j e : ℕ) where
  -- No entry stands in the list that woke.
  none_here : j ≡ i → i < due_list → Turned a t i e → eqb (list_of t e) j ≡ false
  none_here p h (lowers s l k v) = ne_eqb (list_of t e) j (λ q. omega arith)
  none_here p h (falls s q k) = ne_eqb (list_of t e) j (λ q. omega arith)
  none_here p h (waits l k v q) = ne_eqb (list_of t e) j (λ s. omega (arith, number-stays a t e q))

  -- A list of a lower number, and the due list, had no entry, and gets those from the list that woke.
  module _ (d : j ≢ i) (k : i < j → j ≡ due_list) where
    none_before : Turned a t i e → eqb (list_of a e) j ≡ false
    none_before (lowers s l m v) = ne_eqb (list_of a e) j (λ q. d (sym q ∙ s))
    none_before (falls s q m) = ne_eqb (list_of a e) j (λ q. d (sym q ∙ s))
    none_before (waits l m v q) = ne_eqb (list_of a e) j (λ s. omega (arith, k (rw s at m)))

    goes-there : Turned a t i e → eqb (list_of t e) j ≡ eqb (list_of a e) i && eqb (list_of t e) j
    goes-there (lowers s l m v) = rw (eq-eqb (list_of a e) i s)
    goes-there (falls s q m) = rw (eq-eqb (list_of a e) i s)
    goes-there (waits l m v q) =
        rw (ne_eqb (list_of a e) i (λ s. omega arith))
        (ne_eqb (list_of t e) j (λ s. omega (arith, number-stays a t e q, k (omega (arith, number-stays a t e q)))))

  -- Each other list keeps its entries, and none joins it.
  module _ (l : i < j) (k : j < due_list) where
    stays-there : Turned a t i e → eqb (list_of t e) j ≡ eqb (list_of a e) j
    stays-there (lowers s m n v) = ne_eqb (list_of t e) j (λ q. omega arith) ∙ sym (ne_eqb (list_of a e) j (λ q. omega arith))
    stays-there (falls s q n) = ne_eqb (list_of t e) j (λ q. omega arith) ∙ sym (ne_eqb (list_of a e) j (λ q. omega arith))
    stays-there (waits m n v q) = ap (λ (x : ℕ). eqb x j) (number-stays a t e q)

    none-joins : Turned a t i e → eqb (list_of a e) i && eqb (list_of t e) j ≡ false
    none-joins (lowers s m n v) = rw (ne_eqb (list_of t e) j (λ q. omega arith)) (and-false (eqb (list_of a e) i))
    none-joins (falls s q n) = rw (ne_eqb (list_of t e) j (λ q. omega arith)) (and-false (eqb (list_of a e) i))
    none-joins (waits m n v q) = rw (ne_eqb (list_of a e) i (λ s. omega arith))

module _ (a t i : ℕ) (es : List Entry) (h : i < due_list) (all : All (λ (e : Entry). Turned a t i e.key) es) where
  -- The entries of the list that woke that stand in list j now.
  walked : (j : ℕ) → standing t j (standing a i es) ≡ passing (λ (e : Entry). eqb (list_of a e.key) i && eqb (list_of t e.key) j) es
  unfolding standing
  walked j = passing-both (λ (e : Entry). eqb (list_of a e.key) i) (λ (e : Entry). eqb (list_of t e.key) j) es

  -- What holds of the test for a list at each entry, by its key.
  each : (P : ℕ → Type 0) → ((x : ℕ) → Turned a t i x → P x) → All (λ (e : Entry). P e.key) es
  each P f = all_map (λ e r. f e.key r) es all

  -- The list that woke is empty,
  pub list-woken : (j : ℕ) → j ≡ i → (standing t j es ≡ []) × (standing t j (standing a i es) ≡ [])
  unfolding standing
  list-woken j s = (
    passing-none (λ (e : Entry). eqb (list_of t e.key) j) es
        (each (λ (x : ℕ). eqb (list_of t x) j ≡ false) (λ x r. none_here a t i j x s h r)),
    walked j
        ∙ passing-none (λ (e : Entry). eqb (list_of a e.key) i && eqb (list_of t e.key) j) es
        (each (λ (x : ℕ). eqb (list_of a x) i && eqb (list_of t x) j ≡ false)
        (λ x r. rw (none_here a t i j x s h r) (and-false (eqb (list_of a x) i)))),
  )

  -- those of lower numbers and the due list were, and get their entries from it,
  pub list-filled :
      (j : ℕ)
      → j ≢ i
      → (i < j → j ≡ due_list)
      → (standing a j es ≡ []) × (standing t j es ≡ standing t j (standing a i es))
  unfolding standing
  list-filled j d k = (
    passing-none (λ (e : Entry). eqb (list_of a e.key) j) es
        (each (λ (x : ℕ). eqb (list_of a x) j ≡ false) (λ x r. none_before a t i j x d k r)),
    passing-same (λ (e : Entry). eqb (list_of t e.key) j) (λ (e : Entry). eqb (list_of a e.key) i && eqb (list_of t e.key) j) es
        (each (λ (x : ℕ). eqb (list_of t x) j ≡ eqb (list_of a x) i && eqb (list_of t x) j) (λ x r. goes-there a t i j x d k r))
        ∙ sym (walked j),
  )

  -- and those of higher numbers keep theirs.
  pub list-kept :
      (j : ℕ)
      → i < j
      → j < due_list
      → (standing t j es ≡ standing a j es) × (standing t j (standing a i es) ≡ [])
  unfolding standing
  list-kept j l k = (
    passing-same (λ (e : Entry). eqb (list_of t e.key) j) (λ (e : Entry). eqb (list_of a e.key) j) es
        (each (λ (x : ℕ). eqb (list_of t x) j ≡ eqb (list_of a x) j) (λ x r. stays-there a t i j x l k r)),
    walked j
        ∙ passing-none (λ (e : Entry). eqb (list_of a e.key) i && eqb (list_of t e.key) j) es
        (each (λ (x : ℕ). eqb (list_of a x) i && eqb (list_of t x) j ≡ false) (λ x r. none-joins a t i j x l k r)),
  )

  -- In one: the list that woke is emptied, and each of its entries joins the list of its place, behind those that were there.
  pub turned-lists : (j : ℕ) → j ≤ due_list → cells_at t es j ≡ put_list (cells_at a es) i [] j ++ cells_at t (standing a i es) j
  turned-lists j u =
      same? j i
      (λ s. let both = list-woken j s in rw (both.0, both.1, s, put-here (cells_at a es) i []))
      (λ d.
      rw (put_other (cells_at a es) i [] j d)
      (at_most? j i
      (λ k. filled d (λ l. omega arith))
      (λ l.
      same? j due_list
      (λ s. filled d (λ _. s))
      (λ n.
      let both = list-kept j l (omega arith) in
      rw (both.0, both.1) (sym (append-nil (cells_at a es j)))))))
    where
      filled : j ≢ i → (i < j → j ≡ due_list) → cells_at t es j ≡ cells_at a es j ++ cells_at t (standing a i es) j
      filled d k = let both = list-filled j d k in rw (both.0, both.1)
