-- Counting moves: entry by entry, and along a path.
-- Assumes nothing.
use Prim.Native.Nat.{ℕ, suc, ◌+◌, ◌≤◌, ◌<◌}
use native.Mathlib.Nat.{zero-add, add-zero}
use native.Mathlib.Omega.{arith}
use mathlib.Core.Bool.{Bool, true, false, cond, not, ◌&&◌}
use mathlib.Core.List.{List, [], ◌∷◌, map}
use mathlib.Core.Path.{◌≡◌, refl, sym, ap, ◌∙◌}
use lib.Dec.{eqb}
use lib.ListN.{length}
use borrow.Author.Tests.{eq-eqb, ne_eqb}
use Rattle.cells.specs.Lists.{All, times, sum_below}
use Rattle.cells.proofs.Cases.{same?, and-false}
use Rattle.cells.proofs.Lists.{all-times, times-here, times-past}
use Rattle.cells.proofs.Sums.{sum_below-same, sum_below-most, length-times}
use Rattle.meaning.specs.Entries.{Entry}
use Rattle.meaning.specs.Heap.{at, holds, moved_from, heap_moves}
use Rattle.meaning.proofs.Handles.{ticket_of}
use Rattle.meaning.proofs.ByPosition.{at-stands}
use Rattle.heap.proofs.Paths.{along, Path}
use Rattle.heap.proofs.Displaced.{along-same, times-along, along-differs}

-- The tickets of the entries differ.
abbrev pub Differ : List Entry → Type 0
Differ h = (k : ℕ) → times k (map ticket_of h) ≤ 1

-- A ticket that stands among the tickets is held.
pub holds-standing : (k : ℕ) (h : List Entry) → 1 ≤ times k (map ticket_of h) → holds k h ≡ true
unfolding holds
holds-standing k [] i = absurd (unfold times in omega arith)
holds-standing k (e ∷ es) i =
    same? e.ticket k
    (λ q. rw (eq-eqb e.ticket k q))
    (λ d.
    rw (ne_eqb e.ticket k d)
    (holds-standing k es (omega (arith, times-past k e.ticket (map ticket_of es) d))))

-- A ticket that does not is not held.
pub holds-absent : (k : ℕ) (h : List Entry) → times k (map ticket_of h) ≡ 0 → holds k h ≡ false
unfolding holds
holds-absent k [] z = refl
holds-absent k (e ∷ es) z =
    let other : e.ticket ≡ k → ⊥ = λ q. omega (arith, times-here k e.ticket (map ticket_of es) q) in
    rw (ne_eqb e.ticket k other) (holds-absent k es (omega (arith, times-past k e.ticket (map ticket_of es) other)))

-- 1 if the entry, which stood at a position, is present after and stands at another.
unfoldable pub moved : Entry → ℕ → List Entry → ℕ
moved e i after = cond (holds e.ticket after && not (eqb (at after i).ticket e.ticket)) 1 0

module _ (e : Entry) (i : ℕ) (after : List Entry) where
  -- An entry whose ticket still stands at its position did not move.
  pub moved-still : (at after i).ticket ≡ e.ticket → moved e i after ≡ 0
  unfolding moved
  moved-still q = rw (eq-eqb (at after i).ticket e.ticket q, and-false (holds e.ticket after))

  -- An entry that is not present after did not move.
  pub moved-gone : times e.ticket (map ticket_of after) ≡ 0 → moved e i after ≡ 0
  unfolding moved
  moved-gone z = rw (holds-absent e.ticket after z)

  -- An entry that is present after, with another ticket at its position, moved.
  pub moved-away : 1 ≤ times e.ticket (map ticket_of after) → ((at after i).ticket ≡ e.ticket → ⊥) → moved e i after ≡ 1
  unfolding moved
  moved-away h d = rw (holds-standing e.ticket after h, ne_eqb (at after i).ticket e.ticket d)

  -- An entry counts once at most.
  pub moved-once : moved e i after ≤ 1
  unfolding moved
  moved-once = go (holds e.ticket after && not (eqb (at after i).ticket e.ticket))
    where
      go : (t : Bool) → cond t 1 0 ≤ 1
      go true = omega arith
      go false = omega arith

-- The moves of the entries from position i up are the terms of a sum from i up.
moves_from : (f : ℕ → ℕ) (after : List Entry) (i : ℕ) (es : List Entry)
    → ((j : ℕ) → j < length es → moved (at es j) (i + j) after ≡ f (i + j))
    → moved_from i es after + sum_below f i ≡ sum_below f (i + length es)
unfolding moved_from moved sum_below at
moves_from f after i [] h = rw (add-zero i) (omega arith)
moves_from f after i (e ∷ es) h =
    let same : i + suc (length es) ≡ suc i + length es = omega arith in
    let here = rw (add-zero i) at (h 0 (omega arith)) in
    rw same (omega (arith, here, moves_from f after (suc i) es (λ j k. later j (h (suc j) (omega arith)))))
  where
    later : (j : ℕ) → moved (at es j) (i + suc j) after ≡ f (i + suc j) → moved (at es j) (suc i + j) after ≡ f (suc i + j)
    later j q = let same : i + suc j ≡ suc i + j = omega arith in rw same at q

-- The moves are a sum over the positions before the call.
pub moves-sum : (h after : List Entry) → heap_moves h after ≡ sum_below (λ (r : ℕ). moved (at h r) r after) (length h)
unfolding heap_moves sum_below
moves-sum h after =
    let f : ℕ → ℕ = λ (r : ℕ). moved (at h r) r after in
    let all : moved_from 0 h after + sum_below f 0 ≡ sum_below f (0 + length h) =
    moves_from f after 0 h (λ j i. rw (zero-add j)) in
    let short : sum_below f (0 + length h) ≡ sum_below f (length h) = rw (zero-add (length h)) in
    omega arith

module _ (h after : List Entry) (ps : List ℕ) (filled : All (λ (q : ℕ). q < length h) ps) where
  -- Moves are at most the positions of a list, if no entry elsewhere moved.
  pub moves-most : ((r : ℕ) → r < length h → times r ps ≡ 0 → moved (at h r) r after ≡ 0) → heap_moves h after ≤ length ps
  moves-most k =
      omega (
        arith,
        moves-sum h after,
        length-times (length h) ps filled,
        sum_below-most (λ (r : ℕ). moved (at h r) r after) (λ (r : ℕ). times r ps) (length h) each,
      )
    where
      each : (r : ℕ) → r < length h → moved (at h r) r after ≤ times r ps
      each r i =
          same? (times r ps) 0 (λ z. omega (arith, k r i z)) (λ n. omega (arith, moved-once (at h r) r after))

  -- Moves are as many as the positions of a list, if exactly the entries there moved.
  pub moves-exactly : ((r : ℕ) → r < length h → moved (at h r) r after ≡ times r ps) → heap_moves h after ≡ length ps
  moves-exactly k =
      moves-sum h after
      ∙ sum_below-same (λ (r : ℕ). moved (at h r) r after) (λ (r : ℕ). times r ps) (length h) k
      ∙ length-times (length h) ps filled

-- The positions whose entries are displaced: none if no step was made, else all of the path.
unfoldable pub displaced : ℕ → List ℕ → List ℕ
displaced p [] = []
displaced p (q ∷ qs) = p ∷ (q ∷ qs)

-- But for where the path begins, those positions are those that it goes to.
pub displaced-rest : (r p : ℕ) (ps : List ℕ) → (p ≡ r → ⊥) → times r (displaced p ps) ≡ times r ps
unfolding displaced
displaced-rest r p [] d = refl
displaced-rest r p (q ∷ qs) d = times-past r p (q ∷ qs) d

-- Those positions are filled if the path is.
pub displaced-filled : (n p : ℕ) (ps : List ℕ) → All (λ (q : ℕ). q < n) (p ∷ ps) → All (λ (q : ℕ). q < n) (displaced p ps)
unfolding displaced
displaced-filled n p [] a = tt
displaced-filled n p (q ∷ qs) a = a

-- An entry moves along with a path exactly if it stands on it and a step is made.
pub along-counts : (p : ℕ) (ps : List ℕ) (g : List Entry) → Path (length g) p ps → Differ g
    → (e : Entry) (r : ℕ) → e.ticket ≡ (at g r).ticket → moved e r (along p ps g) ≡ times r (displaced p ps)
along-counts p [] g t u e r q = unfold displaced along times in moved-still e r g (sym q)
along-counts p (s ∷ ss) g t u e r q =
    let path : List ℕ = p ∷ (s ∷ ss) in
    let after : List Entry = along p (s ∷ ss) g in
    let count : times r (displaced p (s ∷ ss)) ≡ times r path = unfold displaced in refl in
    same? (times r path) 0
    (λ z.
    moved-still e r after (ap ticket_of ((along-same p (s ∷ ss) g).elsewhere r z) ∙ sym q) ∙ sym (count ∙ z))
    (λ n.
    let on : 1 ≤ times r path = omega arith in
    let inside : r < length g = all-times (λ (x : ℕ). x < length g) path t.filled r on in
    let stands : 1 ≤ times e.ticket (map ticket_of after) =
    rw (times-along ticket_of e.ticket p (s ∷ ss) g t.filled, q) (at-stands ticket_of g r inside) in
    let away : (at after r).ticket ≡ e.ticket → ⊥ = λ w. along-differs ticket_of p s ss g t u r on (w ∙ q) in
    let one : times r path ≡ 1 = omega (arith, t.apart r) in
    moved-away e r after stands away ∙ sym (count ∙ one))
