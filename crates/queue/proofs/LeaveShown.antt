-- What take and remove make of a model that head and words show: an entry leaves the heap, and its cell goes on top of the free stack.
-- Assumes nothing.
use Prim.Native.Nat.{ℕ, suc, ◌/◌, ◌-◌, ◌≤◌, ◌<◌}
use native.Mathlib.Omega.{arith}
use mathlib.Core.Bool.{true, false}
use mathlib.Core.List.{List, [], ◌∷◌, map}
use mathlib.Core.Logic.{◌≢◌}
use mathlib.Core.Path.{◌≡◌, refl, sym, ap, subst, ◌∙◌}
use lib.ListN.{length, take}
use lib.Dec.{ltb}
use Rattle.cells.specs.Lists.{All, times}
use Rattle.cells.specs.Words.{word}
use Rattle.cells.specs.Stack.{Chain, link}
use Rattle.cells.specs.Store.{release_words, release_store}
use Rattle.cells.proofs.Cases.{same?, at_most?}
use Rattle.cells.proofs.Lists.{all_map, all_both, all_take, all_read, times-here, times-past}
use Rattle.cells.proofs.Memory.{word-no-field}
use Rattle.cells.proofs.Sums.{all-standing, cond-bit}
use Rattle.cells.proofs.Chains.{chain-links}
use Rattle.cells.proofs.Rows.{Rewritten, released_word, released-words, released-blank}
use Rattle.meaning.specs.Entries.{Entry, named}
use Rattle.meaning.specs.Refusals.{first_of, is_empty, is_none, stale, empty}
use Rattle.meaning.specs.Calls.{Call, First, Take, Remove, Answer, Load, shown, causes}
use Rattle.meaning.specs.Calls as calls
use Rattle.meaning.specs.Heap.{at, heap_remove, heap_moves}
use Rattle.meaning.proofs.Handles.{ticket_of}
use Rattle.meaning.proofs.Stack.{cell_of}
use Rattle.heap.specs.Seats.{Walk}
use Rattle.heap.specs.Stands.{cells_of, Stands, Ranks, Apart}
use Rattle.heap.proofs.Exchanges.{length-heap_remove}
use Rattle.heap.proofs.Permutes.{times-remove}
use Rattle.meaning.proofs.ByPosition.{all-at, at-stands}
use Rattle.heap.proofs.Carrying.{settle-carries}
use Rattle.heap.proofs.Seating.{all_set, all-exchange}
use Rattle.heap.proofs.RemoveMoves.{refilled, remove-last, remove-inner, refilled-length}
use Rattle.heap.proofs.Moves.{Differ}
use Rattle.heap.proofs.Walks.{Comes}
use Rattle.queue.specs.Model.{Model, Step, as_plain, keeping, accepted_by, step}
use Rattle.queue.specs.Means.{OfQueue}
use Rattle.queue.specs.Shows.{Valid, Carried, Shows}
use Rattle.queue.specs.Answers.{told, refusal, handed}
use Rattle.queue.specs.Cells.{found_in}
use Rattle.queue.specs.Promise.{Done}
use Rattle.queue.specs.declared.head.Head.{Head}
use Rattle.queue.proofs.Named.{Held}
use Rattle.queue.proofs.Refused.{refused-moves, done-by, refused-done}
use Rattle.queue.proofs.Facts.{Facts, facts, valid-next}

-- What the heap's law asks of the words and of the heap in them when the entry at p is to leave.
pub record LeaveReady (w : List ℕ) (m : Model) (p : ℕ) : Type 0 where
  pub filled : p < length m.heap
  pub seats : Stands w m.heap
  pub ranks : All (Ranks w) m.heap
  pub apart : Apart w m.heap
  pub differ : Differ m.heap
  pub issued : times 0 (map ticket_of m.heap) ≡ 0
  pub few : length m.heap ≤ 4096
  pub some : 1 ≤ m.arity
  pub most : m.arity ≤ 8

-- A model that head and words show is ready for each of its entries to leave.
pub leave-ready : (h : Head) (w : List ℕ) (m : Model) → Shows h w m → (p : ℕ) → p < length m.heap → LeaveReady w m p
leave-ready h w m s p l =
    let known = facts h w m s in
    record {
      filled = l;
      seats = s.seats;
      ranks = known.ranks;
      apart = known.apart;
      differ = known.tickets;
      issued =
          same? (times 0 (map ticket_of m.heap)) 0
          (λ e. e)
          (λ n. absurd (omega (arith, known.issued 0 (omega arith))));
      few = omega (arith, known.fits, known.limit);
      some = omega (arith, known.some);
      most = known.most;
    }

-- What holds of all entries holds of those that a remove leaves.
pub remove-carries : (P : Entry → Type 0) (d p : ℕ) (h : List Entry) → p < length h → All P h → All P (heap_remove d p h)
remove-carries P d p h l a =
    let n : ℕ = length h - 1 in
    same? p n
    (λ e. rw (remove-last d p h e) (all_take P n h a))
    (λ o.
    let inner : suc p < length h = omega arith in
    rw (remove-inner d p h o)
    (settle-carries (λ (g : List Entry). All P g) (λ i j g li lj b. all-exchange P i j g li lj b) d p (refilled p h)
    (omega (arith, refilled-length p h inner))
    (all_set P (take n h) p (at h n) (all-at P h a n (omega arith)) (all_take P n h a))))

-- The cell that is left stands in the heap no more: each cell stands there once.
cell-leaves : (w : List ℕ) (d p : ℕ) (h : List Entry) → p < length h → Apart w h → times (at h p).cell (cells_of (heap_remove d p h)) ≡ 0
cell-leaves w d p h l a =
    let c : ℕ = (at h p).cell in
    omega (
      arith,
      a.apart c,
      times-remove (λ (e : Entry). e.cell) c d p h l,
      times-here c c (cells_of (heap_remove d p h)) refl,
    )

-- A list of no entries is empty.
empty-none : (es : List Entry) → length es ≡ 0 → is_empty es ≡ true
unfolding is_empty
empty-none [] e = refl
empty-none (x ∷ xs) e = absurd (omega arith)

-- A list with an entry is not.
empty-some : (es : List Entry) → 0 < length es → is_empty es ≡ false
unfolding is_empty
empty-some [] l = absurd (omega arith)
empty-some (x ∷ xs) l = refl

-- What is read off an entry's cell is the entry, as it is shown.
found-shown : (w : List ℕ) (e : Entry) (c : ℕ) → e.cell ≡ c → Carried w e → handed (found_in w c) ≡ calls.Shows (shown e)
unfolding handed found_in shown
found-shown w e c q r = rw (← q, r.ticket, r.key, r.load)

-- The head after an entry has left and its cell c is given back.
abbrev pub left_head : Head → ℕ → Head
left_head h c = record { arity = h.arity; count = h.count - 1; store = release_store h.store c }

module _ (h : Head) (w : List ℕ) (m : Model) (s : Shows h w m) (p c : ℕ) (l : p < length m.heap) (here : (at m.heap p).cell ≡ c)
    (a : Walk) (comes : Comes m.heap (heap_remove m.arity p m.heap) w (heap_moves m.heap (heap_remove m.arity p m.heap)) a)
    (gone : word a.words (length m.heap - 1) 6 ≡ 0) where
  -- The heap without the entry at p.
  after : List Entry
  after = heap_remove m.arity p m.heap

  -- The words after the walk, with the cell given back.
  left : List ℕ
  left = release_words a.words h.store c

  -- What is known of the model beforehand.
  known : Facts w m
  known = facts h w m s

  -- The cell stands in the heap.
  standing : 1 ≤ times c (cells_of m.heap)
  standing = rw here at (at-stands (λ (e : Entry). e.cell) m.heap p l)

  -- It lies in the lent words.
  inside : c < length w / 8
  inside = rw here at (all-at (λ (e : Entry). e.cell < length w / 8) m.heap known.apart.inside p l)

  -- Giving it back rewrites its words only.
  rewritten : Rewritten a.words c (released_word a.words c h.store.free) left
  unfolding left
  rewritten = released-words a.words c h.store (rw comes.reseated.size inside)

  -- No entry that is left has the cell.
  others : All (λ (e : Entry). c ≢ e.cell) after
  unfolding after
  others =
      all_read (λ (x : ℕ). c ≢ x) cell_of after
      (all-standing (λ (x : ℕ). c ≢ x) (cells_of after)
      (λ x i e. omega (arith, rw (here, e) at (cell-leaves w m.arity p m.heap l known.apart))))

  -- A free cell stands in the heap not at all.
  free-absent : (x : ℕ) → 1 ≤ times x m.free → times x (cells_of m.heap) ≡ 0
  free-absent x i = omega (arith, known.split x, cond-bit (ltb x m.cells))

  -- So it is another than the one that is left.
  free_other : (x : ℕ) → 1 ≤ times x m.free → c ≢ x
  free_other x i e = omega (arith, standing, free-absent x i, ap (λ (y : ℕ). times y (cells_of m.heap)) e)

  -- Of other cells no words are rewritten but the heap's own.
  left-fields : (x f : ℕ) → c ≢ x → f ≢ 5 → f ≢ 6 → word left x f ≡ word w x f
  left-fields x f o n k = rewritten.others x f o ∙ comes.reseated.fields x f n k

  -- The position table is as the walk left it.
  left-table : (x : ℕ) → word left x 6 ≡ word a.words x 6
  unfolding released_word
  left-table x = same? c x (λ e. rw (← e) (rewritten.here 6)) (λ o. rewritten.others x 6 o)

  -- The words that are left show each entry that is left.
  left-entries : All (Carried left) after
  unfolding after
  left-entries =
      all_map
      (λ e both.
      let same : (f : ℕ) → f ≢ 5 → f ≢ 6 → word left e.cell f ≡ word w e.cell f = λ f n k. left-fields e.cell f both.1 n k in
      record {
        ticket = same 0 (omega arith) (omega arith) ∙ both.0.ticket;
        order = same 1 (omega arith) (omega arith) ∙ both.0.order;
        key = same 2 (omega arith) (omega arith) ∙ both.0.key;
        load = same 3 (omega arith) (omega arith) ∙ both.0.load;
        unlinked = same 4 (omega arith) (omega arith) ∙ both.0.unlinked;
        unused = same 7 (omega arith) (omega arith) ∙ both.0.unused;
      })
      after
      (all_both (Carried w) (λ (e : Entry). c ≢ e.cell) after
      (remove-carries (Carried w) m.arity p m.heap l s.entries)
      others)

  -- Each of them stands where the heap has it.
  left-seats : Stands left after
  unfolding after
  left-seats = record {
    table = λ q k. left-table q ∙ comes.stands.table q k;
    place =
        λ q k.
        rewritten.others (at after q).cell 5 (all-at (λ (e : Entry). c ≢ e.cell) after others q k) ∙ comes.stands.place q k;
  }

  -- Behind them the position table is zero.
  left-beyond : (q : ℕ) → length after ≤ q → word left q 6 ≡ 0
  unfolding after
  left-beyond q k =
      let short : length after ≡ length m.heap - 1 = length-heap_remove m.arity p m.heap in
      left-table q
      ∙ same? q (length m.heap - 1)
      (λ e. rw e gone)
      (λ n.
      let past : length m.heap ≤ q = omega arith in
      comes.reseated.table q past ∙ s.beyond q past)

  -- The cell is on top of the free stack.
  left-free : Chain (link left) c (c ∷ m.free)
  unfolding released_word
  left-free =
      let top : link left c ≡ h.store.free = rewritten.here 4 in (
        refl,
        rw top
            (chain-links (link w) (link left) h.store.free m.free
            (all-standing (λ (x : ℕ). link w x ≡ link left x) m.free
            (λ x i. sym (left-fields x 4 (free_other x i) (omega arith) (omega arith))))
            s.free),
      )

  -- The words of a free cell are zero, the cell's among them.
  left-blank : (x f : ℕ) → 1 ≤ times x (c ∷ m.free) → f ≢ 4 → f ≢ 6 → word left x f ≡ 0
  left-blank x f i n k =
      at_most? 8 f
      (λ j. word-no-field left x f j)
      (λ j.
      same? c x
      (λ e. rw (← e) (rewritten.here f ∙ released-blank a.words c h.store.free f j n k))
      (λ o.
      let free : 1 ≤ times x m.free = omega (arith, times-past x c m.free o) in
      same? f 5
      (λ e. rw e (rewritten.others x 5 o ∙ comes.reseated.places x (free-absent x free)) ∙ s.blank x f free n k)
      (λ d. left-fields x f o d k ∙ s.blank x f free n k)))

  -- Head and words afterwards show the model without the entry, and with its cell on top of the free stack.
  pub leave-shows : Valid (keeping m (heap_remove m.arity p m.heap) (c ∷ m.free))
      → Shows (left_head h c) (release_words a.words h.store c) (keeping m (heap_remove m.arity p m.heap) (c ∷ m.free))
  unfolding after left keeping release_store
  leave-shows v = record {
    arity = s.arity;
    count = omega (arith, s.count, length-heap_remove m.arity p m.heap);
    cells = s.cells;
    counter = s.counter;
    size = s.size ∙ ap (λ (n : ℕ). n / 8) (sym (rewritten.long ∙ comes.reseated.size));
    free = left-free;
    blank = left-blank;
    entries = left-entries;
    seats = left-seats;
    beyond = left-beyond;
    valid = v;
  }

  -- A call whose step in the model is that the entry leaves.
  leave-done : (call : Call) → OfQueue call → (answer : Answer)
      → step call m ≡ record { answer = answer; next = keeping m (heap_remove m.arity p m.heap) (c ∷ m.free) }
      → Done call m (told answer a.steps) (left_head h c) (release_words a.words h.store c)
  unfolding told
  leave-done call q answer e =
      let v : Valid (keeping m (heap_remove m.arity p m.heap) (c ∷ m.free)) =
      subst (λ (y : Step). Valid y.next) e (valid-next call m q s.valid) in
      done-by call m (told answer a.steps) _ _ _ e refl (unfold keeping in comes.counted) (leave-shows v)

module _ (h : Head) (w : List ℕ) (m : Model) (s : Shows h w m) where
  -- Where there is no entry first is refused.
  pub first-empty : h.count ≡ 0 → Done First m (refusal 10) h w
  unfolding step causes first_of empty as_plain
  first-empty z = refused-done h w m s First 10 (rw (empty-none m.heap (omega (arith, s.count))))

  -- So is take.
  pub take-empty : h.count ≡ 0 → Done Take m (refusal 10) h w
  unfolding step causes first_of empty as_plain
  take-empty z = refused-done h w m s Take 10 (rw (empty-none m.heap (omega (arith, s.count))))

  -- What is read off the root's cell is the root.
  root-found : 0 < length m.heap → handed (found_in w (word w 0 6)) ≡ calls.Shows (shown (at m.heap 0))
  root-found l = found-shown w (at m.heap 0) (word w 0 6) (sym (s.seats.table 0 l)) (all-at (Carried w) m.heap s.entries 0 l)

  -- First shows the root, and changes nothing.
  pub first_done : 0 < h.count → Done First m (told (handed (found_in w (word w 0 6))) 0) h w
  unfolding step causes first_of empty as_plain accepted_by told
  first_done i =
      let l : 0 < length m.heap = omega (arith, s.count) in
      done-by First m (told (handed (found_in w (word w 0 6))) 0) h w (accepted_by First m)
      (rw (empty-some m.heap l)) (root-found l) (sym (refused-moves m.heap)) s

  -- Take shows the root, which leaves.
  pub take_done : 0 < h.count → (a : Walk)
      → Comes m.heap (heap_remove m.arity 0 m.heap) w (heap_moves m.heap (heap_remove m.arity 0 m.heap)) a
      → word a.words (length m.heap - 1) 6 ≡ 0
      → Done Take m (told (handed (found_in w (word w 0 6))) a.steps) (left_head h (word w 0 6)) (release_words a.words h.store (word w 0 6))
  unfolding step causes first_of empty as_plain accepted_by
  take_done i a comes gone =
      let l : 0 < length m.heap = omega (arith, s.count) in
      let here : (at m.heap 0).cell ≡ word w 0 6 = sym (s.seats.table 0 l) in
      leave-done h w m s 0 (word w 0 6) l here a comes gone Take tt (handed (found_in w (word w 0 6)))
      (rw (empty-some m.heap l, root-found l, here))

module _ (h : Head) (w : List ℕ) (m : Model) (s : Shows h w m) (c k : ℕ) where
  -- Where the handle names nothing remove is refused.
  pub remove-stale : is_none (named c k m.heap) ≡ true → Done (Remove c k) m (refusal 7) h w
  unfolding step causes first_of stale as_plain
  remove-stale e = refused-done h w m s (Remove c k) 7 (rw e)

  -- Remove answers the load of the entry that the handle names, which leaves.
  pub remove-done : Held w m c k → (a : Walk)
      → Comes m.heap (heap_remove m.arity (word w c 5) m.heap) w (heap_moves m.heap (heap_remove m.arity (word w c 5) m.heap)) a
      → word a.words (length m.heap - 1) 6 ≡ 0
      → Done (Remove c k) m (told (Load (word w c 3)) a.steps) (left_head h c) (release_words a.words h.store c)
  unfolding step causes first_of stale as_plain accepted_by
  remove-done held a comes gone =
      let p : ℕ = word w c 5 in
      let filled : p < length m.heap = omega (arith, held.seat, held.known) in
      let cell : (at m.heap p).cell ≡ c = rw held.known held.cell in
      let load : word w c 3 ≡ (at m.heap p).load = rw cell at (all-at (Carried w) m.heap s.entries p filled).load in
      leave-done h w m s p c filled cell a comes gone (Remove c k) tt (Load (word w c 3))
      (rw (held.live, ← held.known, load))
