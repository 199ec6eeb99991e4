-- The heap's calls in lent words: an entry enters, leaves, or settles again, and the words after hold the heap after, with the moves counted.
-- Assumes nothing.
use Prim.Native.Nat.{ℕ, suc, ◌-◌, ◌/◌, ◌≤◌, ◌<◌}
use native.Mathlib.Omega.{arith}
use mathlib.Core.Bool.{true}
use mathlib.Core.List.{List, [], ◌∷◌, ◌++◌, map}
use mathlib.Core.Logic.{◌≢◌}
use mathlib.Core.Path.{◌≡◌, refl, sym, ap, ◌∙◌}
use lib.ListN.{length, take, set, length-append, length-set}
use lib.Seq.{length-take-le}
use borrow.Author.Tests.{le-leb, lt-ltb, eq-eqb, ne_eqb}
use Rattle.cells.specs.Lists.{All, times}
use Rattle.cells.specs.Words.{word, put_word}
use Rattle.cells.proofs.Cases.{same?}
use Rattle.cells.proofs.Lists.{all_take, all_map}
use Rattle.cells.proofs.Places.{put-length, put_same, put-other-field, put-other-cell, put-tail}
use Rattle.meaning.specs.Entries.{Entry}
use Rattle.meaning.specs.Heap.{at, settle, heap_put, heap_remove, heap_rekey, heap_moves}
use Rattle.meaning.proofs.Handles.{ticket_of}
use Rattle.meaning.proofs.ByPosition.{all-at}
use Rattle.heap.specs.Seats.{Walk, settle_walk, standing, once_more, in_reach, enter_walk, refill_walk, vacate_walk, count_self, resettle_walk}
use Rattle.heap.specs.Stands.{cells_of, Stands, StandsBut, Ranks, Apart, Reseated}
use Rattle.heap.proofs.Exchanges.{at_set, at_take, at-append-last}
use Rattle.heap.proofs.Permutes.{times-fill}
use Rattle.heap.proofs.Moves.{Differ, displaced}
use Rattle.heap.proofs.MovesBound.{put-moves, rekey-moves}
use Rattle.heap.proofs.RemoveMoves.{refilled, remove_path, remove-last, remove-inner, remove-last-moves, remove-moves, refilled-length, refilled-other}
use Rattle.heap.proofs.Seating.{all_set}
use Rattle.heap.proofs.Walks.{Comes, rise-comes, settle-comes}

-- An arity of 1 to 8, and a heap of at most 4,096 entries.
pub record Sized (d n : ℕ) : Type 0 where
  pub some : 1 ≤ d
  pub few : d ≤ 8
  pub fits : n ≤ 4096

-- The same walk with its steps counted in another way.
comes-count : {h g : List Entry} {w : List ℕ} {s t : ℕ} {a : Walk} → s ≡ t → Comes h g w s a → Comes h g w t a
comes-count q c = record { stands = c.stands; reseated = c.reseated; counted = c.counted ∙ q }

-- What holds of every entry holds after the last has filled a hole.
pub all-refilled : (P : Entry → Type 0) (p : ℕ) (h : List Entry) → p < length h → All P h → All P (refilled p h)
all-refilled P p h l a =
    let n : ℕ = length h - 1 in
    all_set P (take n h) p (at h n) (all-at P h a n (omega arith)) (all_take P n h a)

-- In such a heap every filled position is in reach.
in_reach_lem : (d n p : ℕ) → Sized d n → p < n → in_reach d n p ≡ true
unfolding in_reach
in_reach_lem d n p z l = rw (le-leb 1 d z.some, le-leb d 8 z.few, le-leb n 4096 z.fits, lt-ltb p n l)

-- An entry enters at the end and rises: the heap after a put stands in the words, and its moves are counted.
pub enter-comes : (d : ℕ) (e : Entry) (h : List Entry) (w : List ℕ) → Sized d (suc (length h))
    → StandsBut (length h) w (h ++ (e ∷ [])) → All (Ranks w) (h ++ (e ∷ [])) → Apart w (h ++ (e ∷ []))
    → ((k : ℕ) → times k (e.ticket ∷ map ticket_of h) ≤ 1)
    → Comes (h ++ (e ∷ [])) (heap_put d e h) w (heap_moves h (heap_put d e h)) (enter_walk d (length h) e.cell w)
unfolding heap_put enter_walk
enter-comes d e h w z b r a u =
    let n : ℕ = length h in
    let g : List Entry = h ++ (e ∷ []) in
    let last : at g n ≡ e = at-append-last h e in
    let inside : n < length g = omega (arith, length-append h (e ∷ [])) in
    let own : Ranks w e = rw last at (all-at (Ranks w) g r n inside) in
    rw (in_reach_lem d (suc n) n z (omega arith), own.key, own.order)
    (comes-count (omega (arith, put-moves d e h u))
    (rw last at (rise-comes d n n 0 g w inside b r a)))

-- Clearing a word of the table, of a position that is filled, only seats anew.
reseated-put : (h : List Entry) (w : List ℕ) (p v : ℕ) → p < length h → Reseated h w (put_word w p 6 v)
reseated-put h w p v l = record {
  size = put-length w p 6 v;
  tail = put-tail w p 6 v;
  fields = λ c f m n. put-other-field w p 6 v c f (λ e. n (sym e));
  table = λ q i. put-other-cell w p 6 v q 6 (λ e. omega arith);
  places = λ c i. put-other-field w p 6 v c 5 (λ e. omega arith);
}

-- Seating anew twice, the second time a smaller heap of entries of the first.
reseated-both : (h g : List Entry) (w v u : List ℕ) → length g ≤ length h
    → ((c : ℕ) → times c (cells_of h) ≡ 0 → times c (cells_of g) ≡ 0)
    → Reseated h w v → Reseated g v u → Reseated h w u
reseated-both h g w v u l sub a b = record {
  size = b.size ∙ a.size;
  tail = rw a.size at b.tail ∙ a.tail;
  fields = λ c f m n. b.fields c f m n ∙ a.fields c f m n;
  table = λ p i. b.table p (omega arith) ∙ a.table p i;
  places = λ c i. b.places c (sub c i) ∙ a.places c i;
}

-- The entry at a position has left the heap, and the table no longer names a cell at the last position.
pub record Vacated (d p : ℕ) (h : List Entry) (w : List ℕ) : Type 0 where
  pub comes : Comes h (heap_remove d p h) w (heap_moves h (heap_remove d p h)) (vacate_walk d (length h) p w)
  pub gone : word (vacate_walk d (length h) p w).words (length h - 1) 6 ≡ 0

-- A heap stands in the words, with its keys and order numbers, and each entry in a cell of its own.
pub record Sitting (w : List ℕ) (h : List Entry) : Type 0 where
  pub stands : Stands w h
  pub ranks : All (Ranks w) h
  pub apart : Apart w h

-- The words as the cell at the last position is no longer named there.
abbrev cleared : List Entry → List ℕ → List ℕ
cleared h w = put_word w (length h - 1) 6 0

module _ (h : List Entry) (w : List ℕ) (s : Sitting w h) where
  -- In front of the last position what stood stands.
  cleared-table : (r : ℕ) → suc r < length h → word (cleared h w) r 6 ≡ (at h r).cell
  cleared-table r i = put-other-cell w (length h - 1) 6 0 r 6 (λ e. omega arith) ∙ s.stands.table r (omega arith)

  -- Each entry still knows its position.
  cleared-place : (r : ℕ) → r < length h → word (cleared h w) (at h r).cell 5 ≡ r
  cleared-place r i = put-other-field w (length h - 1) 6 0 (at h r).cell 5 (λ e. omega arith) ∙ s.stands.place r i

  -- The last position names no cell.
  cleared-last : 0 < length h → word (cleared h w) (length h - 1) 6 ≡ 0
  cleared-last i = put_same w (length h - 1) 6 0 (omega arith) (omega (arith, s.apart.room))

  -- With its last entry gone the heap still stands.
  cleared-stands : Stands (cleared h w) (take (length h - 1) h)
  cleared-stands = record { table = each-table; place = each-place }
    where
      n : ℕ
      n = length h - 1

      short : length (take n h) ≡ n
      short = length-take-le n h (omega arith)

      each-table : (r : ℕ) → r < length (take n h) → word (cleared h w) r 6 ≡ (at (take n h) r).cell
      each-table r i = rw (at_take n h r (omega (arith, short))) (cleared-table r (omega (arith, short)))

      each-place : (r : ℕ) → r < length (take n h) → word (cleared h w) (at (take n h) r).cell 5 ≡ r
      each-place r i = rw (at_take n h r (omega (arith, short))) (cleared-place r (omega (arith, short)))

-- The last entry leaves: its position is cleared, and none moves.
vacate-last : (d p : ℕ) (h : List Entry) (w : List ℕ) → Sized d (length h) → suc p ≡ length h → Sitting w h → Differ h → Vacated d p h w
unfolding vacate_walk standing
vacate-last d p h w z q s u = record { comes = comes; gone = gone }
  where
    last : p ≡ length h - 1
    last = omega arith

    walk : vacate_walk d (length h) p w ≡ standing (cleared h w)
    walk = rw (in_reach_lem d (length h) p z (omega arith), eq-eqb p (length h - 1) last, last)

    comes : Comes h (heap_remove d p h) w (heap_moves h (heap_remove d p h)) (vacate_walk d (length h) p w)
    comes =
        rw (walk, remove-last-moves d p h q u, remove-last d p h last)
        record {
          stands = cleared-stands h w s;
          reseated = reseated-put h w (length h - 1) 0 (omega arith);
          counted = refl;
        }

    gone : word (vacate_walk d (length h) p w).words (length h - 1) 6 ≡ 0
    gone = rw walk (cleared-last h w s (omega arith))

module _ (p : ℕ) (h : List Entry) (inner : suc p < length h) (w : List ℕ) (s : Sitting w h) where
  -- The last entry stands in the hole.
  refilled-hole : at (refilled p h) p ≡ at h (length h - 1)
  refilled-hole =
      let n : ℕ = length h - 1 in
      at_set (take n h) p (at h n) (rw (length-take-le n h (omega arith)) (omega arith))

  -- The heap stands but for the hole.
  refilled-stands : StandsBut p (cleared h w) (refilled p h)
  refilled-stands = record { table = each-table; place = each-place }
    where
      short : length (refilled p h) ≡ length h - 1
      short = refilled-length p h inner

      each-table : (r : ℕ) → r < length (refilled p h) → r ≢ p → word (cleared h w) r 6 ≡ (at (refilled p h) r).cell
      each-table r i m =
          let front : suc r < length h = omega (arith, short) in
          rw (refilled-other p h inner r front m) (cleared-table h w s r front)

      each-place : (r : ℕ) → r < length (refilled p h) → r ≢ p → word (cleared h w) (at (refilled p h) r).cell 5 ≡ r
      each-place r i m =
          let front : suc r < length h = omega (arith, short) in
          rw (refilled-other p h inner r front m) (cleared-place h w s r (omega arith))

  -- Its entries have their keys and order numbers in their cells.
  refilled-ranks : All (Ranks (cleared h w)) (refilled p h)
  refilled-ranks =
      all_map
      (λ e r.
      record {
        order = put-other-field w (length h - 1) 6 0 e.cell 1 (λ q. omega arith) ∙ r.order;
        key = put-other-field w (length h - 1) 6 0 e.cell 2 (λ q. omega arith) ∙ r.key;
      })
      (refilled p h) (all-refilled (Ranks w) p h (omega arith) s.ranks)

  -- A cell is that of no more entries than before.
  refilled-cells : (c : ℕ) → times c (cells_of (refilled p h)) ≤ times c (cells_of h)
  unfolding times
  refilled-cells c = omega (arith, times-fill (λ (e : Entry). e.cell) c p h inner)

  -- Each entry has a cell of its own.
  refilled-apart : Apart (cleared h w) (refilled p h)
  refilled-apart =
      let same : length (cleared h w) ≡ length w = put-length w (length h - 1) 6 0 in
      record {
        room = rw same (omega (arith, refilled-length p h inner, s.apart.room));
        inside = rw same (all-refilled (λ (e : Entry). e.cell < length w / 8) p h (omega arith) s.apart.inside);
        apart = λ c. omega (arith, refilled-cells c, s.apart.apart c);
      }

-- An inner entry leaves: the last entry fills the hole and settles there.
vacate-inner : (d p : ℕ) (h : List Entry) (w : List ℕ) → Sized d (length h) → suc p < length h → Sitting w h
    → Differ h → times 0 (map ticket_of h) ≡ 0 → Vacated d p h w
unfolding vacate_walk refill_walk once_more
vacate-inner d p h w z inner s u k = record { comes = comes; gone = gone }
  where
    n : ℕ
    n = length h - 1

    g : List Entry
    g = refilled p h

    short : length g ≡ n
    short = refilled-length p h inner

    path : Walk
    path = settle_walk d n p (word w n 6) (cleared h w)

    walk : vacate_walk d (length h) p w ≡ once_more path
    walk = rw (in_reach_lem d (length h) p z (omega arith), ne_eqb p n (λ e. omega arith))

    cell : (at g p).cell ≡ word w n 6
    cell = ap (λ (e : Entry). e.cell) (refilled-hole p h inner w s) ∙ sym (s.stands.table n (omega arith))

    settles : Comes g (settle d p g) (cleared h w) (length (remove_path d p h)) path
    settles =
        rw (short, cell) at
        (settle-comes d p g (cleared h w) z.some (omega (arith, short))
        (refilled-stands p h inner w s) (refilled-ranks p h inner w s) (refilled-apart p h inner w s))

    comes : Comes h (heap_remove d p h) w (heap_moves h (heap_remove d p h)) (vacate_walk d (length h) p w)
    comes =
        rw (walk, remove-moves d z.some p h inner u k, remove-inner d p h (λ e. omega arith))
        record {
          stands = settles.stands;
          reseated =
              reseated-both h g w (cleared h w) path.words (omega (arith, short))
              (λ c e. omega (arith, refilled-cells p h inner w s c))
              (reseated-put h w n 0 (omega arith)) settles.reseated;
          counted = ap suc settles.counted;
        }

    gone : word (vacate_walk d (length h) p w).words n 6 ≡ 0
    gone = rw walk (settles.reseated.table n (omega (arith, short)) ∙ cleared-last h w s (omega arith))

-- An entry leaves: the heap after a remove stands in the words, and its moves are counted.
pub vacate-comes : (d p : ℕ) (h : List Entry) (w : List ℕ) → Sized d (length h) → p < length h → Sitting w h
    → Differ h → times 0 (map ticket_of h) ≡ 0 → Vacated d p h w
vacate-comes d p h w z l s u k =
    same? (suc p) (length h)
    (λ q. vacate-last d p h w z q s u)
    (λ m. vacate-inner d p h w z (omega arith) s u k)

-- The entry that settles counts itself exactly if it is displaced.
counts-self : (h g : List Entry) (w : List ℕ) (p : ℕ) (ps : List ℕ) (a : Walk) → Comes h g w (length ps) a
    → Comes h g w (length (displaced p ps)) (count_self a)
unfolding count_self displaced once_more
counts-self h g w p [] a c = rw (eq-eqb a.steps 0 c.counted) c
counts-self h g w p (q ∷ qs) a c =
    rw (ne_eqb a.steps 0 (λ e. omega (arith, c.counted)))
    record { stands = c.stands; reseated = c.reseated; counted = ap suc c.counted }

-- An entry settles again with its new key: the heap after a rekey stands in the words, and its moves are counted.
pub resettle-comes : (d p : ℕ) (e : Entry) (h : List Entry) (w : List ℕ) → Sized d (length h) → p < length h
    → e.ticket ≡ (at h p).ticket → Sitting w (set h p e) → Differ h
    → Comes (set h p e) (heap_rekey d p e h) w (heap_moves h (heap_rekey d p e h)) (resettle_walk d (length h) p e.cell w)
unfolding resettle_walk heap_rekey
resettle-comes d p e h w z l own s u =
    let g : List Entry = set h p e in
    let same : length g ≡ length h = length-set h p e in
    let but : StandsBut p w g =
    record { table = λ r i m. s.stands.table r i; place = λ r i m. s.stands.place r i } in
    let settles =
    rw (same, at_set h p e l) at
    (settle-comes d p g w z.some (omega arith) but s.ranks s.apart) in
    rw (in_reach_lem d (length h) p z l)
    (comes-count (sym (rekey-moves d z.some p e h l own u)) (counts-self _ _ w p _ _ settles))
