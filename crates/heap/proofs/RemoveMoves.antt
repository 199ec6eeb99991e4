-- The moves of a remove: how many they are, and that they are at most the levels of the heap.
-- Assumes nothing.
use Prim.Native.Nat.{ℕ, suc, ◌-◌, ◌≤◌, ◌<◌}
use native.Mathlib.Omega.{arith}
use mathlib.Core.List.{List, [], ◌∷◌, map}
use mathlib.Core.Path.{◌≡◌, refl, sym, ap, ◌∙◌}
use lib.ListN.{length, get_or, take, set, length-set, get_or-eq_default}
use lib.Seq.{get_or-set_other, get_or-take, length-take-le}
use borrow.Author.Tests.{eq-eqb, ne_eqb}
use Rattle.cells.specs.Lists.{All, times}
use Rattle.cells.proofs.Cases.{same?}
use Rattle.cells.proofs.Lists.{all-times, times-here, times-past}
use Rattle.meaning.specs.Entries.{Entry, nobody}
use Rattle.meaning.specs.Heap.{at, settle, heap_remove, heap_moves, levels}
use Rattle.meaning.proofs.Handles.{ticket_of}
use Rattle.meaning.proofs.ByPosition.{at-stands, one-position}
use Rattle.heap.proofs.Permutes.{times-fill, times-remove}
use Rattle.heap.proofs.Levels.{levels-order}
use Rattle.heap.proofs.Paths.{settled, Path, settle-along, settled-path, settled-steps, below_wider}
use Rattle.heap.proofs.Displaced.{settle-same}
use Rattle.heap.proofs.Moves.{Differ, moved, moved-still, moved-gone, moved-away, moves-most, moves-exactly, displaced-rest, along-counts}

-- The heap as its last entry fills the hole at p.
abbrev pub refilled : ℕ → List Entry → List Entry
refilled p h = set (take (length h - 1) h) p (at h (length h - 1))

-- The positions that the entry goes to that fills the hole at p.
abbrev pub remove_path : ℕ → ℕ → List Entry → List ℕ
remove_path d p h = settled d p (refilled p h)

-- With the hole last there is nothing to fill.
pub remove-last : (d p : ℕ) (h : List Entry) → p ≡ length h - 1 → heap_remove d p h ≡ take (length h - 1) h
unfolding heap_remove
remove-last d p h q = rw (eq-eqb p (length h - 1) q)

-- A hole elsewhere is filled, and the entry that fills it settles.
pub remove-inner : (d p : ℕ) (h : List Entry) → (p ≡ length h - 1 → ⊥) → heap_remove d p h ≡ settle d p (refilled p h)
unfolding heap_remove
remove-inner d p h n = rw (ne_eqb p (length h - 1) n)

-- The removed entry is not among those after.
removed-gone : (d p : ℕ) (h : List Entry) → p < length h → Differ h
    → times (at h p).ticket (map ticket_of (heap_remove d p h)) ≡ 0
removed-gone d p h i u =
    let k : ℕ = (at h p).ticket in
    omega (arith, u k, times-remove ticket_of k d p h i, times-here k k (map ticket_of (heap_remove d p h)) refl)

-- Removing the last entry moves none.
pub remove-last-moves : (d p : ℕ) (h : List Entry) → suc p ≡ length h → Differ h → heap_moves h (heap_remove d p h) ≡ 0
unfolding at
remove-last-moves d p h q u =
    moves-exactly h (heap_remove d p h) [] tt
    (λ r i.
    unfold times in
    same? r p
    (λ s. rw s (moved-gone (at h p) p (heap_remove d p h) (removed-gone d p h (omega arith) u)))
    (λ n.
    moved-still (at h r) r (heap_remove d p h)
    (rw (remove-last d p h (omega arith)) (ap ticket_of (get_or-take (length h - 1) h r nobody (omega arith))))))

-- Where the entries stood that move as another entry fills the hole at p: the last position, and those that it goes to.
abbrev leavers : ℕ → ℕ → List Entry → List ℕ
leavers d p h = (length h - 1) ∷ remove_path d p h

module _ (p : ℕ) (h : List Entry) (inner : suc p < length h) where
  -- Filling the hole makes the heap shorter by one.
  pub refilled-length : length (refilled p h) ≡ length h - 1
  refilled-length = simp length-set (length-take-le (length h - 1) h (omega arith))

  refilled-inside : p < length (refilled p h)
  refilled-inside = rw refilled-length (omega arith)

  -- Every other position in front of the last has the entry that it had.
  pub refilled-other : (r : ℕ) → suc r < length h → (r ≡ p → ⊥) → at (refilled p h) r ≡ at h r
  unfolding at
  refilled-other r i m =
      get_or-set_other (take (length h - 1) h) p r (get_or h (length h - 1) nobody) nobody m
      ∙ get_or-take (length h - 1) h r nobody (omega arith)

  -- Tickets that differ still do.
  pub refilled-differ : Differ h → Differ (refilled p h)
  unfolding times
  refilled-differ u k = omega (arith, u k, times-fill ticket_of k p h inner)

module _ (d : ℕ) (some : 1 ≤ d) (p : ℕ) (h : List Entry) (inner : suc p < length h) where
  refilled-path : Path (length (refilled p h)) p (remove_path d p h)
  refilled-path = settled-path d some p (refilled p h) (refilled-inside p h inner)

  after-inner : heap_remove d p h ≡ settle d p (refilled p h)
  after-inner = remove-inner d p h (λ q. omega arith)

  removed-moves : Differ h → moved (at h p) p (heap_remove d p h) ≡ 0
  removed-moves u = moved-gone (at h p) p (heap_remove d p h) (removed-gone d p h (omega arith) u)

  leavers-filled : All (λ (q : ℕ). q < length h) (leavers d p h)
  leavers-filled = (
    omega arith,
    below_wider (length (refilled p h)) (length h) (remove_path d p h) (omega (arith, refilled-length p h inner)) refilled-path.filled.1,
  )

  -- The moves of a remove are at most one more than the steps of the entry that fills the hole.
  pub remove-moves-steps : Differ h → heap_moves h (heap_remove d p h) ≤ suc (length (remove_path d p h))
  remove-moves-steps u =
      let ps : List ℕ = remove_path d p h in
      moves-most h (heap_remove d p h) (leavers d p h) leavers-filled
      (λ r i z.
      same? r p
      (λ s. rw s (removed-moves u))
      (λ m.
      let off : length h - 1 ≡ r → ⊥ = λ s. omega (arith, times-here r (length h - 1) ps s) in
      let away : times r (p ∷ ps) ≡ 0 =
      times-past r p ps (λ s. m (sym s)) ∙ sym (times-past r (length h - 1) ps off) ∙ z in
      moved-still (at h r) r (heap_remove d p h)
      (rw after-inner
      (ap ticket_of ((settle-same d p (refilled p h)).elsewhere r away ∙ refilled-other p h inner r (omega arith) m)))))

  -- The last entry is present after, and no longer where it stood.
  last-moves : Differ h → times 0 (map ticket_of h) ≡ 0 → moved (at h (length h - 1)) (length h - 1) (heap_remove d p h) ≡ 1
  unfolding at
  last-moves u z =
      moved-away (at h n) n after
      (omega (
        arith,
        at-stands ticket_of h n (omega arith),
        times-remove ticket_of k d p h (omega arith),
        times-past k (at h p).ticket (map ticket_of after) other,
      ))
      (λ q. omega (arith, rw (sym q ∙ ap ticket_of outside) at (at-stands ticket_of h n (omega arith))))
    where
      n : ℕ
      n = length h - 1

      k : ℕ
      k = (at h n).ticket

      after : List Entry
      after = heap_remove d p h

      other : (at h p).ticket ≡ k → ⊥
      other q = omega (arith, one-position ticket_of h u p n (omega arith) (omega arith) q)

      short : length after ≡ n
      short = rw after-inner ((settle-same d p (refilled p h)).as_long ∙ refilled-length p h inner)

      outside : at after n ≡ nobody
      outside = get_or-eq_default after nobody (omega (arith, short))

  leaver : Differ h → times 0 (map ticket_of h) ≡ 0
      → (r : ℕ) → r < length h → moved (at h r) r (heap_remove d p h) ≡ times r (leavers d p h)
  leaver u z r i =
      same? r p
      (λ s. rw s (removed-moves u ∙ sym (times-past p n ps (λ q. omega arith) ∙ off)))
      (λ m.
      same? r n
      (λ s. rw s (last-moves u z ∙ sym (times-here n n ps refl ∙ ap suc beyond)))
      (λ w.
      rw (after-inner, settle-along d p (refilled p h))
      (along-counts p ps (refilled p h) refilled-path (refilled-differ p h inner u) (at h r) r
      (ap ticket_of (sym (refilled-other p h inner r (omega arith) m)))
      ∙ displaced-rest r p ps (λ q. m (sym q))
      ∙ sym (times-past r n ps (λ q. w (sym q))))))
    where
      n : ℕ
      n = length h - 1

      ps : List ℕ
      ps = remove_path d p h

      off : times p ps ≡ 0
      off = omega (arith, refilled-path.apart p, times-here p p ps refl)

      beyond : times n ps ≡ 0
      beyond =
          same? (times n ps) 0
          (λ e. e)
          (λ m.
          let inside : n < length (refilled p h) =
          all-times (λ (x : ℕ). x < length (refilled p h)) ps refilled-path.filled.1 n (omega arith) in
          absurd (omega (arith, refilled-length p h inner)))

  -- If tickets differ they are exactly one more. None may be 0: that is what `at` reads behind the heap, where the last entry stood.
  pub remove-moves : Differ h → times 0 (map ticket_of h) ≡ 0 → heap_moves h (heap_remove d p h) ≡ suc (length (remove_path d p h))
  remove-moves u z = moves-exactly h (heap_remove d p h) (leavers d p h) leavers-filled (leaver u z)

-- The moves of a remove are at most the levels before it.
pub remove-moves-levels : (d : ℕ) → 1 ≤ d → (p : ℕ) (h : List Entry) → p < length h → Differ h
    → heap_moves h (heap_remove d p h) ≤ levels d (length h)
remove-moves-levels d some p h i u =
    same? (suc p) (length h)
    (λ q. omega (arith, remove-last-moves d p h q u))
    (λ m.
    let inner : suc p < length h = omega arith in
    let few = settled-steps d some p (refilled p h) (refilled-inside p h inner) in
    omega (
      arith,
      remove-moves-steps d some p h inner u,
      few,
      levels-order d (length (refilled p h)) (length h) (omega (arith, refilled-length p h inner)),
    ))
