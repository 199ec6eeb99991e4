-- Head and words that keep to every rule of the audit show a model: the one that is read off them.
-- Assumes nothing.
use Prim.Native.Nat.{ℕ, zero, suc, ◌+◌, ◌≤◌, ◌<◌}
use native.Mathlib.Omega.{arith}
use mathlib.Core.Bool.{true, false, cond, ◌&&◌}
use mathlib.Core.List.{List, [], ◌∷◌}
use mathlib.Core.Logic.{◌≢◌, ◌↔◌}
use mathlib.Core.Path.{◌≡◌, refl, sym, ap, ◌∙◌}
use lib.Dec.{ltb}
use lib.ListN.{length}
use borrow.Author.Tests.{lt-ltb, ltb-true}
use Rattle.cells.specs.Lists.{All, times}
use Rattle.cells.specs.Words.{word}
use Rattle.cells.specs.Rules.{in_use, CellRule}
use Rattle.cells.proofs.Cases.{test, same?, at_most?, clash}
use Rattle.cells.proofs.Memory.{word-no-field, word-no-cell}
use Rattle.meaning.specs.Entries.{Entry, before}
use Rattle.meaning.specs.Plain.{Plain}
use Rattle.meaning.specs.Kept.{Kept}
use Rattle.meaning.specs.Heap.{at, parent}
use Rattle.meaning.specs.Arranged.{arranged}
use Rattle.meaning.proofs.Arranged.{arranged-same}
use Rattle.meaning.proofs.ByPosition.{at_all, at-stands, stands_at, once-each}
use Rattle.meaning.proofs.Read.{entry_in, Held, entry-held, free-unused, kept_read}
use Rattle.heap.specs.HeapOrder.{InOrder}
use Rattle.heap.specs.Seats.{seat_at}
use Rattle.heap.specs.Stands.{Stands, cells_of}
use Rattle.heap.proofs.Positions.{parent-below}
use Rattle.queue.specs.Model.{Model}
use Rattle.queue.specs.Means.{Means}
use Rattle.queue.specs.Shows.{Carried, Shows}
use Rattle.queue.specs.Rules.{used_mask, free_mask, QueueSound}
use Rattle.queue.specs.declared.head.Head.{Head}
use Rattle.queue.proofs.Masks.{used-link, used-last, free-others}
use Rattle.queue.proofs.ShownSound.{rank-before, shown-sound}

-- The entries at k positions from p on.
unfoldable pub heap_read : List ℕ → ℕ → ℕ → List Entry
heap_read w p zero = []
heap_read w p (suc k) = entry_in w (word w p 6) ∷ heap_read w (suc p) k

-- There are k of them.
pub read_length : (w : List ℕ) (p k : ℕ) → length (heap_read w p k) ≡ k
unfolding heap_read
read_length w p zero = refl
read_length w p (suc k) = ap suc (read_length w (suc p) k)

-- Each is that in the cell which the table has there.
pub read_at : (w : List ℕ) (p k i : ℕ) → i < k → at (heap_read w p k) i ≡ entry_in w (word w (p + i) 6)
unfolding heap_read at
read_at w p zero i l = absurd (omega arith)
read_at w p (suc k) zero l = ap (λ (q : ℕ). entry_in w (word w q 6)) (omega arith)
read_at w p (suc k) (suc i) l =
    read_at w (suc p) k i (omega arith) ∙ ap (λ (q : ℕ). entry_in w (word w q 6)) (omega arith)

-- The model that is read off head and words with a stack of free cells.
unfoldable pub model_read : Head → List ℕ → List ℕ → Model
model_read h w free =
    record { arity = h.arity; heap = heap_read w 0 h.count; counter = h.store.counter; cells = h.store.cells; free = free }

-- The plain list that it means: the same entries in their order.
unfoldable pub plain_read : Head → List ℕ → List ℕ → Plain
plain_read h w free =
    record {
      entries = arranged (heap_read w 0 h.count);
      clock = 0;
      counter = h.store.counter;
      cells = h.store.cells;
      free = free;
    }

module _ (h : Head) (w : List ℕ) (r : QueueSound w h) where
  -- The heap that is read.
  abbrev heap : List Entry
  heap = heap_read w 0 h.count

  -- The cells of the free stack.
  abbrev free : List ℕ
  free = r.shared.stack.cells

  -- It has as many entries as the head says.
  filled : length heap ≡ h.count
  filled = read_length w 0 h.count

  -- The entry at a position.
  here : (p : ℕ) → p < h.count → at heap p ≡ entry_in w (word w p 6)
  here p l = read_at w 0 h.count p l ∙ ap (λ (q : ℕ). entry_in w (word w q 6)) (omega arith)

  -- Its cell is the table's.
  cell-here : (p : ℕ) → p < h.count → (at heap p).cell ≡ word w p 6
  unfolding entry_in
  cell-here p l = ap (λ (e : Entry). e.cell) (here p l)

  -- The rules of its cell.
  rule-here : (p : ℕ) → p < h.count → CellRule w h.store.counter used_mask free_mask (word w p 6)
  rule-here p l = r.shared.cell (word w p 6) (r.seats p l).inside

  -- Two positions with one cell are one.
  cells-apart : (p q : ℕ) → p < h.count → q < h.count → word w p 6 ≡ word w q 6 → p ≡ q
  cells-apart p q i j e = sym (r.seats p i).known ∙ ap (λ (c : ℕ). word w c 5) e ∙ (r.seats q j).known

  -- Each entry is carried by its cell.
  carried : All (Carried w) heap
  unfolding entry_in
  carried = at_all (Carried w) heap each
    where
      each : (p : ℕ) → p < length heap → Carried w (at heap p)
      each p i =
          let l : p < h.count = omega (arith, filled) in
          let used = (r.seats p l).used in
          rw (here p l)
          (record {
            ticket = refl;
            order = refl;
            key = refl;
            load = refl;
            unlinked = (rule-here p l).blank 4 (omega arith) (rw used used-link);
            unused = (rule-here p l).blank 7 (omega arith) (rw used used-last);
          })

  -- Each entry is held by a cell in use.
  held : All (Held w h.store.cells) heap
  held =
      at_all (Held w h.store.cells) heap
      (λ p i.
      let l : p < h.count = omega (arith, filled) in
      rw (here p l) (entry-held w h.store.cells (word w p 6) (r.seats p l).inside (r.seats p l).used))

  -- Each cell is one entry's at most.
  cells-once : (k : ℕ) → times k (cells_of heap) ≤ 1
  cells-once =
      once-each (λ (e : Entry). e.cell) heap
      (λ p q i j e.
      let l : p < h.count = omega (arith, filled) in
      let k : q < h.count = omega (arith, filled) in
      cells-apart p q l k (sym (cell-here p l) ∙ e ∙ cell-here q k))

  -- A cell that is not in use below N is no entry's.
  no-entry : (c : ℕ) → (c < h.store.cells → in_use w c ≡ true → ⊥) → times c (cells_of heap) ≡ 0
  no-entry c n =
      same? (times c (cells_of heap)) 0 (λ z. z)
      (λ k.
      stands_at (λ (e : Entry). e.cell) c heap (omega arith)
      (λ p i e.
      let l : p < h.count = omega (arith, filled) in
      let q : word w p 6 ≡ c = sym (cell-here p l) ∙ e in
      absurd (n (rw q at (r.seats p l).inside) (rw q at (r.seats p l).used))))

  -- A cell that is in use is one entry's.
  one_entry : (c : ℕ) → c < h.store.cells → in_use w c ≡ true → times c (cells_of heap) ≡ 1
  one_entry c l u =
      let p : ℕ = word w c 5 in
      let k : p < h.count = r.placed c l u in
      let q : (at heap p).cell ≡ c = cell-here p k ∙ r.found c l u in
      omega (arith, cells-once c, rw q at (at-stands (λ (e : Entry). e.cell) heap p (omega (arith, filled))))

  -- So each cell in use is one entry's, and no other is any.
  cells-used : (c : ℕ) → times c (cells_of heap) ≡ cond (ltb c h.store.cells && in_use w c) 1 0
  cells-used c =
      test (ltb c h.store.cells)
      (λ l.
      test (in_use w c)
      (λ u. rw (l, u) (one_entry c (ltb-true c h.store.cells l) u))
      (λ u. rw (l, u) (no-entry c (λ k v. clash v u))))
      (λ l. rw l (no-entry c (λ k u. clash (lt-ltb c h.store.cells k) l)))

  -- The heap is in order.
  in_order : InOrder h.arity heap
  unfolding entry_in seat_at
  in_order = record { behind = each }
    where
      each : (p : ℕ) → 0 < p → p < length heap → before (at heap p) (at heap (parent h.arity p)) ≡ false
      each p z i =
          let q : ℕ = parent h.arity p in
          let l : p < h.count = omega (arith, filled) in
          let k : q < h.count = omega (arith, parent-below h.arity p z) in
          rw (here p l, here q k)
          (sym (rank-before w p q (entry_in w (word w p 6)) (entry_in w (word w q 6)) refl refl refl refl)
          ∙ (r.seats p l).behind z)

  -- The plain list keeps to the rules.
  read_kept : Kept (plain_read h w free)
  unfolding plain_read
  read_kept = kept_read w h.store used_mask free_mask r.shared heap held cells-used 0 r.counts

  -- The model means it.
  read-means : Means (model_read h w free) (plain_read h w free)
  unfolding model_read plain_read
  read-means = record {
    some = r.some;
    most = r.most;
    ordered = in_order;
    entries = arranged-same heap;
    counter = refl;
    cells = refl;
    free = refl;
  }

  -- The words of a free cell, but for its link and the position table's.
  free-blank : (c f : ℕ) → 1 ≤ times c free → f ≢ 4 → f ≢ 6 → word w c f ≡ 0
  free-blank c f k n t =
      at_most? 8 f
      (λ l. word-no-field w c f l)
      (λ l. free-unused w h.store used_mask free_mask r.shared c f k l (free-others f l n t))

  -- The heap stands in the words.
  read-stands : Stands w heap
  read-stands = record {
    table = λ p i. sym (cell-here p (omega (arith, filled)));
    place = λ p i. let l : p < h.count = omega (arith, filled) in rw (cell-here p l) (r.seats p l).known;
  }

  -- From position n up the table is zero.
  read-beyond : (p : ℕ) → length heap ≤ p → word w p 6 ≡ 0
  read-beyond p i =
      at_most? h.store.cells p
      (λ k. word-no-cell w p 6 (omega (arith, r.shared.size)))
      (λ k. r.beyond p (omega (arith, filled)) k)

-- A model that head and words show.
pub record Shown (h : Head) (w : List ℕ) : Type 0 where
  pub model : Model
  pub shows : Shows h w model

-- What is sound shows a model.
pub sound-shown : (h : Head) (w : List ℕ) → QueueSound w h → Shown h w
unfolding model_read
sound-shown h w r =
    record {
      model = model_read h w (free h w r);
      shows =
          record {
            arity = refl;
            count = sym (filled h w r);
            cells = refl;
            counter = refl;
            size = r.shared.size;
            free = r.shared.stack.linked;
            blank = free-blank h w r;
            entries = carried h w r;
            seats = read-stands h w r;
            beyond = read-beyond h w r;
            valid = record { list = plain_read h w (free h w r); means = read-means h w r; kept = read_kept h w r };
          };
    }

-- The audit's rules hold exactly if head and words show some model.
pub sound-exactly : (h : Head) (w : List ℕ) → QueueSound w h ↔ Shown h w
sound-exactly h w = (sound-shown h w, λ s. shown-sound h w s.model s.shows)
